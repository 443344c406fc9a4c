-- `rows::run_in` meets its contract.
use mathlib.Core.Path.{ap, ◌∙◌}
use Rattle.std.proofs.Common.{arith, refl}
use Rattle.cells.specs.inside.Cells.{con_of}
use Rattle.rows.proofs.Until.{runs_none, runs-turn}
use Rattle.rows.proofs.run_in.Goals as goal

pub loop-p-init : goal.loop-p-init
loop-p-init c = (omega arith, runs_none _ _ _ _ refl)

pub loop-p-preserved : goal.loop-p-preserved
loop-p-preserved c = (
  omega arith,
  runs-turn _ _ _ c.loop-p.invariant.1 (omega arith) (omega arith)
      (rw (c.at.ensures, c.at-b.ensures) at c.step-x.ensures)
      (c.con-sum.ensures.0 ∙ ap con_of c.at-b.ensures) c.con-sum.ensures.1,
)
