-- The loop of `rows::until_row`: the row is filled from a position on.
use Rattle.rows.proofs.Until.{Falls}
use Rattle.rows.proofs.until_row.Given as goal

abbrev pub invariant-loop-p : goal.invariant-loop-p
invariant-loop-p l = Falls l.row l.left l.right l.cols l.lap l.start l.initial.work l.p l.work l.x l.sum
