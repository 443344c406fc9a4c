-- How far positions are asked for: below the reach at the top, and a lap further
-- for each until on the way down.
use Rattle.std.specs.Prelude.{ℕ, ◌+◌, ◌-◌, ◌*◌, ◌<◌, ◌≤◌}
use Rattle.schedule.specs.Limits.{max_height}
use Rattle.rules.specs.Formula.{Formula, height}
use Rattle.rules.specs.declared.Side.TheVariants.{Past, Future}
use Rattle.trees.specs.Rules.{Claim}

-- The positions of a formula lie below this.
abbrev pub cols : ℕ → ℕ → Formula → ℕ
cols reach v f = reach + v * (max_height - height Future f)

-- A claim whose heights are allowed and whose position lies below that.
pub record InReach (reach v : ℕ) (c : Claim) : Type 0 where
  pub low : height Past c.formula + height Future c.formula ≤ max_height
  pub near : c.position < cols reach v c.formula
