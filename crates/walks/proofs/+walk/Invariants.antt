-- The walk's measure is the entry's index. The loop's invariant: what the node asks of its parts, and that
-- what
-- stands between it and the present place is a forest for the claims of the parts passed.
use Rattle.std.proofs.Common.{map}
use Rattle.trees.specs.Nodes.{node_of}
use Rattle.trees.specs.inside.Lent.{frame_of}
use Rattle.walks.proofs.Standing.{Standing}
use Rattle.walks.proofs.+walk.Given as goal

abbrev pub decreases-walk : goal.decreases-walk
decreases-walk l = l.entry

abbrev pub invariant-loop-m : goal.invariant-loop-m
invariant-loop-m l =
    Standing (frame_of l.letters) l.table l.entry l.fn.position l.fn.needed (map node_of l.tree) l.place
    l.demands l.next l.m
