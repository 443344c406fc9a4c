-- The loop of `rows::since_row`: the state is since's before the position, the cells passed are filled, all
-- else is as found.
use Rattle.std.proofs.Common.{◌≡◌}
use Rattle.cells.specs.inside.Cells.{since_state, since_cell}
use Rattle.rows.specs.inside.Rows.{row_of}
use Rattle.rows.proofs.Rows.{Partly}
use Rattle.rows.proofs.since_row.Given as goal

abbrev pub invariant-loop-p : goal.invariant-loop-p
invariant-loop-p l =
    let a = row_of l.initial.work l.left in
    let b = row_of l.initial.work l.right in
    (l.x ≡ since_state a b l.p) × Partly l.row 0 l.p (since_cell a b) l.initial.work l.work
