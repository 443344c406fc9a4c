-- `looking::filled` meets its contract: the cell lies in a row that is filled.
use native.Mathlib.Omega.{arith}
use Rattle.asking.proofs.Limits.{work-near, work-passes}
use Rattle.looking.proofs.Limits.{work-limited}
use Rattle.looking.proofs.filled.Goals as goal

pub overflow_add-question : goal.overflow_add-question
overflow_add-question c = omega (arith, work-near _ _ (work-passes _ c.args.passed.tests c.requires))

pub fill-requires : goal.fill-requires
fill-requires c = rw c.max-reach.ensures (work-limited _ _ (work-passes _ c.args.passed.tests c.requires))

pub at-requires : goal.at-requires
at-requires c =
    let passed = work-passes _ c.args.passed.tests c.requires in
    (omega (arith, (work-limited _ _ passed).entry), omega (arith, work-near _ _ passed))
