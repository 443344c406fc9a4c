-- How a rule number is told; and a bound of the rule table, by one test that is computed over it.
use mathlib.Core.Path.{◌≡◌, refl, subst}
use mathlib.Core.Logic.{⊎_elim}
use Prim.Native.Nat.{ℕ, suc, ◌+◌, ◌-◌, ◌≤◌}
use native.Mathlib.Nat.{eq-or-lt_of_le}
use native.Mathlib.Omega.{arith}
use borrow.Author.Tests.{leb-true}
use lib.Dec.{leb}
use lib.ListN.{get_or}
use Rattle.rules.proofs.Below.{all-at}
use Rattle.trees.specs.inside.Table.{fixed_parts, rule_fixed}

-- rules 3 to 10 have a fixed part
pub plain-fixed : (r : ℕ) → 3 ≤ r → r ≤ 10 → 1 ≤ rule_fixed r
plain-fixed r l h =
    let same : r - 3 + 2 ≡ r - 1 = omega arith in
    subst (λ k. 1 ≤ get_or fixed_parts k 0) same
    (leb-true 1 (get_or fixed_parts (r - 3 + 2) 0)
    (all-at (λ k. leb 1 (get_or fixed_parts (k + 2) 0)) 8 (r - 3) refl (omega arith)))

-- a number at or past m is m, or past it
pub peel : (P : ℕ → Type 0) (m k : ℕ) → m ≤ k → P m → (suc m ≤ k → P k) → P k
peel P m k le p later = ⊎_elim (λ e. subst P e p) later (eq-or-lt_of_le le)
