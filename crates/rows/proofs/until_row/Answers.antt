-- `rows::until_row` meets its contract.
use Rattle.std.proofs.Common.{arith}
use Rattle.rows.proofs.Until.{falls-slides, falls-turn}
use Rattle.rows.proofs.until_row.Goals as goal

pub slid-sum-requires : goal.slid-sum-requires
slid-sum-requires c = (
  omega (arith, c.loop-p.invariant.bound, c.requires.2),
  falls-slides c.loop-p.invariant c.requires.0 c.requires.2 (omega arith) (omega arith),
)

pub loop-p-preserved : goal.loop-p-preserved
loop-p-preserved c =
    falls-turn c.loop-p.invariant c.requires.0 c.requires.2 (omega arith) (omega arith)
    c.step-x.ensures c.slid-sum.ensures.slid c.slid-sum.ensures.upper_bound c.stored.ensures
