-- Costs under which a witness past the window is never worth its way;
-- and those that weigh atoms, which are such.
use Rattle.std.specs.Prelude.{ℕ, ◌+◌, ◌≤◌, ◌≡◌}
use Rattle.trees.specs.Least.{Cost}

-- A tree of rule 16 does without a first part and at least one member of rule 15's,
-- and each of the two may weigh as little as 1.
pub record Level (cost : Cost) : Type 0 where
  pub level : cost.weigh 16 0 ≤ cost.weigh 15 0 + 1

-- An atom's node costs its weight, whatever it says; any other node costs 1.
pub record ByAtoms (cost : Cost) (weight : ℕ → ℕ) : Type 0 where
  pub held : (a : ℕ) → cost.weigh 1 a ≡ weight a
  pub violated : (a : ℕ) → cost.weigh 2 a ≡ weight a
  pub other : (r : ℕ) → 3 ≤ r → cost.weigh r 0 ≡ 1
