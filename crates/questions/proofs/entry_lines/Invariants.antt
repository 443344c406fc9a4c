-- What the loop of `questions::entry_lines` keeps: lines of entries stand before what is left, and their
-- words are kept.
use Rattle.std.proofs.Common.{length}
use Rattle.questions.proofs.Entering.{Entering}
use Rattle.questions.proofs.entry_lines.Given as goal

abbrev pub invariant-loop-line : goal.invariant-loop-line
invariant-loop-line l = Entering l.text l.initial.table l.rest l.count l.table

abbrev pub decreases-loop-line : goal.decreases-loop-line
decreases-loop-line l = length l.rest
