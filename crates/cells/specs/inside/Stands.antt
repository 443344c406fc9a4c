-- Where a loop along a row stands, as clauses see it.
use Rattle.std.specs.Prelude.{ℕ, Bool}

-- The verdict, and the prices of trees of either verdict, or 4,096.
pub record Stand : Type 0 where
  pub holds : Bool
  pub pro : ℕ
  pub con : ℕ
