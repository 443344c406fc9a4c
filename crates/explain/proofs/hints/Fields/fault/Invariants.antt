-- `explain::hints::Fields::fault`: each turn passes a number and its comma.
use Rattle.std.proofs.Common.{◌+◌, ◌≤◌, length}
use Rattle.explain.proofs.hints.Fields.fault.Given as goal

abbrev pub invariant-loop-numeral : goal.invariant-loop-numeral
invariant-loop-numeral l = l.found + length l.left ≤ length l.self.numbers.now

abbrev pub decreases-loop-numeral : goal.decreases-loop-numeral
decreases-loop-numeral l = length l.left
