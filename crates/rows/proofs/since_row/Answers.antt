-- `rows::since_row` meets its contract.
use Rattle.std.proofs.Common.{refl}
use Rattle.cells.specs.inside.Cells.{since_state}
use Rattle.rows.proofs.Rows.{partly_none, since-turn}
use Rattle.rows.proofs.since_row.Goals as goal

pub loop-p-init : goal.loop-p-init
unfolding since_state
loop-p-init c = (refl, partly_none _ _ _ _)

pub loop-p-preserved : goal.loop-p-preserved
loop-p-preserved c =
    since-turn c.requires c.loop-p-test.true c.loop-p.invariant.0 c.loop-p.invariant.1 c.step-x.ensures
    c.cell.ensures
