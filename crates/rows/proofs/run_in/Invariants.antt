-- The loop of `rows::run_in`: the state and the sum from a position to the top.
use Rattle.std.proofs.Common.{◌+◌, ◌≤◌}
use Rattle.rows.specs.inside.Rows.{row_of}
use Rattle.rows.proofs.Until.{RunsIn}
use Rattle.rows.proofs.run_in.Given as goal

abbrev pub invariant-loop-p : goal.invariant-loop-p
invariant-loop-p l =
    let work = l.cells.work.now in
    (l.cols ≤ l.p) × RunsIn (row_of work l.left) (row_of work l.right) (l.cols + l.lap) l.p l.x l.sum
