-- The formula of an entry by its kind, and the parts that it names are earlier.
use mathlib.Core.Path.{◌≡◌, refl, ap, ◌∙◌}
use mathlib.Core.Bool.{cond}
use mathlib.Core.List.{List}
use Prim.Native.Nat.{ℕ, ◌<◌, ◌≤◌}
use mathlib.Core.Logic.{◌⊎◌, inl, inr, ⊎_elim}
use native.Mathlib.Omega.{arith}
use lib.Dec.{eqb}
use lib.ListN.{get_or}
use Rattle.rules.specs.Formula.{Formula, atom, notᶠ, orᶠ, andᶠ, since, until}
use Rattle.rules.specs.Tables.{entry_at, build, formula_of}
use Rattle.rules.specs.declared.Entry.{Entry}
use Rattle.rules.specs.declared.Entry.TheVariants.{Atom, One, Two, Broken}
use Rattle.rules.specs.declared.Unary.TheVariants.{Not}
use Rattle.rules.specs.declared.Binary.TheVariants.{Or, And, Since, Until}
use Rattle.rules.proofs.Entries.{PartsBelow, parts-earlier}
use Rattle.rules.proofs.Unrolls.{formula-unrolls}
use Rattle.nodes.specs.inside.Fits.{kind_of, left_of, right_of}

abbrev pub by_kind : ℕ → (ℕ → Formula) → ℕ → ℕ → Formula
by_kind k part l r =
    cond (eqb k 0) (atom l)
    (cond (eqb k 1) (notᶠ (part l))
    (cond (eqb k 2) (orᶠ (part l) (part r))
    (cond (eqb k 3) (andᶠ (part l) (part r))
    (cond (eqb k 4) (since (part l) (part r)) (until (part l) (part r))))))

built : (part : ℕ → Formula) (x : Entry) → build part x ≡ by_kind (kind_of x) part (left_of x) (right_of x)
built part (Atom a) = refl
built part (One Not l) = refl
built part (Two Or l r) = refl
built part (Two And l r) = refl
built part (Two Since l r) = refl
built part (Two Until l r) = refl
built part Broken = refl

-- The formula of an entry whose kind is k. At a numeral it computes to the kind's own form.
pub formula-kind : (table : List ℕ) (e k : ℕ) → kind_of (entry_at table e) ≡ k
    → formula_of table e
    ≡ by_kind k (formula_of table) (left_of (entry_at table e)) (right_of (entry_at table e))
formula-kind table e k p =
    formula-unrolls table e
    ∙ built (formula_of table) (entry_at table e)
    ∙ ap (λ m. by_kind m (formula_of table) (left_of (entry_at table e)) (right_of (entry_at table e))) p

parts_below : (e : ℕ) (x : Entry) → PartsBelow e x
    → (1 ≤ kind_of x → left_of x < e) × (2 ≤ kind_of x → right_of x < e)
parts_below e (Atom a) h = (λ k. absurd (omega arith), λ k. absurd (omega arith))
parts_below e (One op l) h = (λ k. h, λ k. absurd (omega arith))
parts_below e (Two op l r) h = (λ k. h.0, λ k. h.1)
parts_below e Broken h = (λ k. absurd (omega arith), λ k. absurd (omega arith))

-- rights of entries without one are 0
right-small : (e : ℕ) (x : Entry) → PartsBelow e x → (right_of x < e) ⊎ (right_of x ≡ 0)
right-small e (Atom a) h = inr refl
right-small e (One op l) h = inr refl
right-small e (Two op l r) h = inl h.1
right-small e Broken h = inr refl

module _ (table : List ℕ) (e : ℕ) where
  pub left-earlier : 1 ≤ kind_of (entry_at table e) → left_of (entry_at table e) < e
  left-earlier = (parts_below e (entry_at table e) (parts-earlier e (get_or table e 0))).0

  pub right-earlier : 2 ≤ kind_of (entry_at table e) → right_of (entry_at table e) < e
  right-earlier = (parts_below e (entry_at table e) (parts-earlier e (get_or table e 0))).1

  pub right-at-most : right_of (entry_at table e) ≤ e
  right-at-most =
      ⊎_elim (λ lt. omega arith) (λ eq. omega arith)
      (right-small e (entry_at table e) (parts-earlier e (get_or table e 0)))
