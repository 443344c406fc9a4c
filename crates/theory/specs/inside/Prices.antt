-- The price of a claim: what its cheapest valid tree costs, or 4,096 if it has none below.
-- (A size is a number of words. Where each node costs 1, price and size are the same.)
use Rattle.std.specs.Prelude.{ℕ}
use Rattle.trees.specs.Rules.{Frame, Claim}
use Rattle.trees.specs.Least.{Cost}
use Rattle.theory.specs.inside.Costs.{TreeCosts, CutLeast}

abbrev pub Price : Cost → Frame → Claim → ℕ → Type 0
Price cost frame c = CutLeast (TreeCosts cost frame c)
