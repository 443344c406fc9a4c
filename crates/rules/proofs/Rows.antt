-- The kind table row by row: the formula of an entry whose word has the kind,
-- from the formulas of the entries that it names.
use mathlib.Core.Path.{◌≡◌, ap, ◌∙◌}
use mathlib.Core.List.{List}
use Prim.Native.Nat.{ℕ, ◌/◌, ◌%◌, ◌<◌, ◌≤◌}
use native.Mathlib.Omega.{arith}
use borrow.Author.Tests.{eq-eqb, ne_eqb, lt-ltb, le-leb}
use lib.ListN.{get_or}
use Rattle.rules.specs.Formula.{atom, notᶠ, orᶠ, andᶠ, since, until}
use Rattle.rules.specs.Entries.{binary_of, entry_of}
use Rattle.rules.specs.Tables.{entry_at, joined, build, formula_of}
use Rattle.rules.specs.declared.Entry.{Entry}
use Rattle.rules.specs.declared.Entry.TheVariants.{Atom, One, Two}
use Rattle.rules.specs.declared.Unary.TheVariants.{Not}
use Rattle.rules.proofs.Unrolls.{formula-unrolls}

module _ (table : List ℕ) (e : ℕ) where
  abbrev kind : ℕ
  kind = get_or table e 0 / 65536

  abbrev left : ℕ
  left = get_or table e 0 / 256 % 256

  abbrev right : ℕ
  right = get_or table e 0 % 256

  by-entry : (x : Entry) → entry_at table e ≡ x → formula_of table e ≡ build (formula_of table) x
  by-entry x is = formula-unrolls table e ∙ ap (build (formula_of table)) is

  pub kind-atom : kind ≡ 0 → left < 32 → right ≡ 0 → formula_of table e ≡ atom left
  unfolding entry_of
  kind-atom k l r = by-entry (Atom left) is
    where
      is : entry_at table e ≡ Atom left
      is = simp (eq-eqb kind 0 k, lt-ltb left 32 l, eq-eqb right 0 r)

  pub kind-not : kind ≡ 1 → left < e → right ≡ 0 → formula_of table e ≡ notᶠ (formula_of table left)
  unfolding entry_of
  kind-not k l r = by-entry (One Not left) is
    where
      is : entry_at table e ≡ One Not left
      is = simp (ne_eqb kind 0 (λ z. omega (arith, z, k)), eq-eqb kind 1 k, lt-ltb left e l, eq-eqb right 0 r)

  kind-two : 2 ≤ kind → kind ≤ 5 → left < e → right < e
      → formula_of table e ≡ joined (binary_of kind) (formula_of table left) (formula_of table right)
  unfolding entry_of
  kind-two low high l r = by-entry (Two (binary_of kind) left right) is
    where
      is : entry_at table e ≡ Two (binary_of kind) left right
      is = simp (
        ne_eqb kind 0 (λ z. omega (arith, z, low)),
        ne_eqb kind 1 (λ z. omega (arith, z, low)),
        lt-ltb left e l,
        lt-ltb right e r,
        le-leb 2 kind low,
        le-leb kind 5 high,
      )

  -- of two earlier entries, by the kind
  module _ (n : ℕ) (k : kind ≡ n) (l : left < e) (r : right < e) where
    pub kind-pair : 2 ≤ n → n ≤ 5
        → formula_of table e ≡ joined (binary_of n) (formula_of table left) (formula_of table right)
    kind-pair low high =
        kind-two (omega (arith, k, low)) (omega (arith, k, high)) l r
        ∙ ap (λ m. joined (binary_of m) (formula_of table left) (formula_of table right)) k

  pub kind-or : kind ≡ 2 → left < e → right < e
      → formula_of table e ≡ orᶠ (formula_of table left) (formula_of table right)
  kind-or k l r = kind-pair 2 k l r (omega arith) (omega arith)

  pub kind-and : kind ≡ 3 → left < e → right < e
      → formula_of table e ≡ andᶠ (formula_of table left) (formula_of table right)
  kind-and k l r = kind-pair 3 k l r (omega arith) (omega arith)

  pub kind-since : kind ≡ 4 → left < e → right < e
      → formula_of table e ≡ since (formula_of table left) (formula_of table right)
  kind-since k l r = kind-pair 4 k l r (omega arith) (omega arith)

  pub kind-until : kind ≡ 5 → left < e → right < e
      → formula_of table e ≡ until (formula_of table left) (formula_of table right)
  kind-until k l r = kind-pair 5 k l r (omega arith) (omega arith)
