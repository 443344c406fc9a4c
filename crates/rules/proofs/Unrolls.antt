-- The formula of an entry is built from the formulas of its parts: one law,
-- which every other proof uses in place of the definition.
use mathlib.Core.Path.{◌≡◌, refl, ap, ap₂}
use mathlib.Core.List.{List}
use Prim.Native.Nat.{ℕ, zero, suc, ◌<◌}
use native.Mathlib.Nat.{not-suc-le-zero, le_of_suc-le-suc, lt_of_lt_of_le, le_refl}
use lib.ListN.{get_or}
use Rattle.rules.specs.Formula.{Formula}
use Rattle.rules.specs.Tables.{entry_at, applied, joined, build, unrolled, formula_of}
use Rattle.rules.specs.declared.Entry.{Entry}
use Rattle.rules.specs.declared.Entry.TheVariants.{Atom, One, Two, Broken}
use Rattle.rules.proofs.Entries.{PartsBelow, parts-earlier}

build-cong : (e : ℕ) (f g : ℕ → Formula) → ((p : ℕ) → p < e → f p ≡ g p) → (x : Entry) → PartsBelow e x
    → build f x ≡ build g x
build-cong e f g same (Atom a) h = refl
build-cong e f g same (One op l) h = ap (applied op) (same l h)
build-cong e f g same (Two op l r) h = ap₂ (joined op) (same l h.0) (same r h.1)
build-cong e f g same Broken h = refl

-- past the entry's own index more steps change nothing
enough : (n m : ℕ) (table : List ℕ) (e : ℕ) → e < n → e < m → unrolled n table e ≡ unrolled m table e
enough zero m table e en em = absurd (not-suc-le-zero en)
enough (suc n) zero table e en em = absurd (not-suc-le-zero em)
enough (suc n) (suc m) table e en em =
    build-cong e (unrolled n table) (unrolled m table)
    (λ p lt. enough n m table p (lt_of_lt_of_le lt (le_of_suc-le-suc en))
    (lt_of_lt_of_le lt (le_of_suc-le-suc em)))
    (entry_at table e) (parts-earlier e (get_or table e 0))

pub formula-unrolls : (table : List ℕ) (e : ℕ)
    → formula_of table e ≡ build (formula_of table) (entry_at table e)
unfolding formula_of
formula-unrolls table e =
    build-cong e (unrolled e table) (λ p. unrolled (suc p) table p)
    (λ p lt. enough e (suc p) table p lt (le_refl (suc p)))
    (entry_at table e) (parts-earlier e (get_or table e 0))
