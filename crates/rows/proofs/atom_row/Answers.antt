-- `rows::atom_row` meets its contract.
use Rattle.rows.proofs.Rows.{atom-turn}
use Rattle.rows.proofs.atom_row.Goals as goal

pub loop-p-preserved : goal.loop-p-preserved
loop-p-preserved c =
    atom-turn _ _ c.requires.0 c.requires.1 c.requires.2 c.loop-p-test.true c.loop-p.invariant
    c.letter.ensures c.atom_cell.ensures
