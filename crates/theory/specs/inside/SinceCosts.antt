-- What the trees of a since cost at the position before a given one, where 0 has none before it: rule 11 has
-- no witness there, rule 13 no member.
use Rattle.std.specs.Prelude.{ℕ, ◌+◌, ◌≤◌, ◌≡◌, ◌∷◌}
use Rattle.rules.specs.Formula.{Formula}
use Rattle.trees.specs.Rules.{Frame, claim, run}
use Rattle.trees.specs.Least.{Cost}
use Rattle.trees.specs.declared.Verdict.TheVariants.{Holds, Violated}
use Rattle.theory.specs.inside.Costs.{ForestCosts, Raised}

-- Rule 11 with the witness k and n members behind it.
pub record HeldUpTo (cost : Cost) (frame : Frame) (f g : Formula) (end m : ℕ) : Type 0 where
  pub k : ℕ
  pub n : ℕ
  pub ends : k + n + 1 ≡ end
  pub costs : Raised (cost.weigh 11 0) (ForestCosts cost frame (claim g k Holds ∷ run f (k + 1) n Holds)) m

-- Rule 12 with left violated at k, or rule 13.
pub data BrokenUpTo (cost : Cost) (frame : Frame) (f g : Formula) (end m : ℕ) : Type 0 where
  from : (k n : ℕ) → 1 ≤ n → k + n ≡ end
      → Raised (cost.weigh 12 0) (ForestCosts cost frame (claim f k Violated ∷ run g k n Violated)) m
      → BrokenUpTo cost frame f g end m
  throughout : Raised (cost.weigh 13 0) (ForestCosts cost frame (run g 0 end Violated)) m
      → BrokenUpTo cost frame f g end m
