-- `writing::write_tree`: the entry's index falls at each call; the loop's invariant, that behind the root
-- stand the least trees of the parts passed.
use Rattle.writing.proofs.Behind.{StandsBehind}
use Rattle.writing.proofs.+write_tree.Given as goal

abbrev pub decreases-write_tree : goal.decreases-write_tree
decreases-write_tree l = l.entry

abbrev pub invariant-loop-m : goal.invariant-loop-m
invariant-loop-m l =
    StandsBehind l.letters.prefix.now l.letters.looped.now l.table l.entry l.position l.place l.work l.demands
    l.initial.tree l.tree l.next l.m
