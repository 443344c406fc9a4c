-- The loop of `rows::atom_row`: the cells passed are filled, all else is as found.
use Rattle.schedule.specs.Letters.{letter_at}
use Rattle.cells.specs.inside.Cells.{atom_cell}
use Rattle.rows.proofs.Rows.{Partly}
use Rattle.rows.proofs.atom_row.Given as goal

abbrev pub invariant-loop-p : goal.invariant-loop-p
invariant-loop-p l =
    Partly l.row 0 l.p (atom_cell (letter_at l.letters.prefix.now l.letters.looped.now) l.atom)
    l.initial.work l.work
