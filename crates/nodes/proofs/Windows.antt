-- The sums of rule 16's count fit: the past height of an entry is at most its index, so nothing wraps.
use Rattle.std.proofs.Common.{arith, List, ℕ, ◌*◌, ◌<◌, ◌≤◌}
use native.Mathlib.Nat.{mul-le-mul}
use Rattle.schedule.specs.Limits.{max_letters, max_entries}
use Rattle.rules.specs.Formula.{height}
use Rattle.rules.specs.Tables.{formula_of}
use Rattle.rules.specs.declared.Side.TheVariants.{Past}
use Rattle.heights.proofs.Heights.{height_bound}

-- the loop and the past height are small, and so is their product
pub lap_product : (v : ℕ) (table : List ℕ) (right : ℕ) → v ≤ max_letters → right < max_entries
    → v * height Past (formula_of table right) ≤ 48 * 32
lap_product v table right few below =
    let small : height Past (formula_of table right) ≤ 32 = omega (arith, height_bound Past table right) in
    mul-le-mul few small
