-- The loop of `rows::made_row`: the cells passed are filled, all else is as found.
use Rattle.cells.specs.inside.Cells.{plain_cell}
use Rattle.rows.specs.inside.Rows.{row_of}
use Rattle.rows.proofs.Rows.{Partly}
use Rattle.rows.proofs.made_row.Given as goal

abbrev pub invariant-loop-p : goal.invariant-loop-p
invariant-loop-p g l =
    Partly l.row 0 l.p (plain_cell g.make (row_of l.initial.work l.left) (row_of l.initial.work l.right))
    l.initial.work l.work
