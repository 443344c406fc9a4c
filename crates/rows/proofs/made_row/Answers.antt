-- `rows::made_row` meets its contract.
use Rattle.rows.proofs.Rows.{plain_turn}
use Rattle.rows.proofs.made_row.Goals as goal

pub loop-p-preserved : goal.loop-p-preserved
loop-p-preserved g c =
    plain_turn _ c.requires.1.0 c.loop-p-test.true c.loop-p.invariant
    (c.requires.1.1.1 _ _ _ c.state-x.ensures) c.cell.ensures
