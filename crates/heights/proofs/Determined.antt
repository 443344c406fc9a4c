-- Two results that meet a function's contract coincide.
use mathlib.Core.Path.{◌≡◌}
use mathlib.Core.Bool.{Bool}
use mathlib.Core.List.{List}
use Prim.Native.Nat.{ℕ}
use Rattle.schedule.proofs.Determined.{equal-one}
use Rattle.rules.specs.Formula.{height}
use Rattle.rules.specs.Tables.{formula_of}
use Rattle.rules.specs.Low.{low_all}
use Rattle.rules.specs.declared.Side.{Side}

pub height-one : (s : Side) (table : List ℕ) (e a b : ℕ) → a ≡ height s (formula_of table e)
    → b ≡ height s (formula_of table e) → a ≡ b
height-one s table e a b p q = equal-one p q

pub low-one : (table : List ℕ) (r s : Bool) → r ≡ low_all table → s ≡ low_all table → r ≡ s
low-one table r s p q = equal-one p q
