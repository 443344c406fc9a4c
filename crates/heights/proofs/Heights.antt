-- A height is that of the parts, with what the entry adds; and no height exceeds the entry's index.
use mathlib.Core.Path.{◌≡◌, refl, sym, ap, subst, ◌∙◌}
use mathlib.Core.List.{List}
use Prim.Native.Nat.{ℕ, zero, suc, ◌+◌, max, ◌<◌, ◌≤◌}
use native.Mathlib.Nat.{le_refl, not-suc-le-zero}
use native.Mathlib.Omega.{arith}
use lib.ListN.{get_or}
use Rattle.rules.specs.Formula.{Formula, height}
use Rattle.rules.specs.Tables.{entry_at, applied, joined, build, formula_of}
use Rattle.heights.specs.inside.Additions.{adds_of}
use Rattle.rules.specs.declared.Side.{Side}
use Rattle.rules.specs.declared.Side.TheVariants.{Past, Future}
use Rattle.rules.specs.declared.Entry.{Entry}
use Rattle.rules.specs.declared.Entry.TheVariants.{Atom, One, Two, Broken}
use Rattle.rules.specs.declared.Unary.{Unary}
use Rattle.rules.specs.declared.Unary.TheVariants.{Not}
use Rattle.rules.specs.declared.Binary.{Binary}
use Rattle.rules.specs.declared.Binary.TheVariants.{Or, And, Since, Until}
use Rattle.rules.proofs.Entries.{PartsBelow, parts-earlier}
use Rattle.rules.proofs.Unrolls.{formula-unrolls}

adds-small : (s : Side) (op : Binary) → adds_of s op ≤ 1
adds-small s Or = omega arith
adds-small s And = omega arith
adds-small Past Since = omega arith
adds-small Future Since = omega arith
adds-small Past Until = omega arith
adds-small Future Until = omega arith

-- the height of an entry, by the heights of its parts
abbrev pub height_by : Side → (ℕ → ℕ) → Entry → ℕ
height_by s part (Atom a) = 0
height_by s part (One op l) = part l
height_by s part (Two op l r) = max (part l) (part r) + adds_of s op
height_by s part Broken = 0

applied-height : (s : Side) (op : Unary) (f : Formula) → height s (applied op f) ≡ height s f
applied-height s Not f = refl

joined-height : (s : Side) (op : Binary) (f g : Formula)
    → height s (joined op f g) ≡ max (height s f) (height s g) + adds_of s op
joined-height s Or f g = omega arith
joined-height s And f g = omega arith
joined-height s Since f g = refl
joined-height s Until f g = refl

build-height : (s : Side) (part : ℕ → Formula) (x : Entry)
    → height s (build part x) ≡ height_by s (λ p. height s (part p)) x
build-height s part (Atom a) = refl
build-height s part (One op l) = applied-height s op (part l)
build-height s part (Two op l r) = joined-height s op (part l) (part r)
build-height s part Broken = refl

by-bound : (s : Side) (part : ℕ → ℕ) (e : ℕ) → ((p : ℕ) → p < e → part p ≤ p) → (x : Entry) → PartsBelow e x
    → height_by s part x ≤ e
by-bound s part e low (Atom a) h = omega arith
by-bound s part e low (One op l) h = omega (arith, low l h)
by-bound s part e low (Two op l r) h = omega (arith, low l h.0, low r h.1, adds-small s op)
by-bound s part e low Broken h = omega arith

module _ (s : Side) (table : List ℕ) where
  abbrev pub high : ℕ → ℕ
  high e = height s (formula_of table e)

  pub height-descends : (e : ℕ) → high e ≡ height_by s high (entry_at table e)
  height-descends e =
      ap (height s) (formula-unrolls table e) ∙ build-height s (formula_of table) (entry_at table e)

  bound-below : (n e : ℕ) → e < n → high e ≤ e
  bound-below zero e lt = absurd (not-suc-le-zero lt)
  bound-below (suc n) e lt =
      subst (λ h. h ≤ e) (sym (height-descends e))
      (by-bound s high e (λ p pe. bound-below n p (omega arith)) (entry_at table e)
      (parts-earlier e (get_or table e 0)))

  pub height_bound : (e : ℕ) → high e ≤ e
  height_bound e = bound-below (suc e) e (le_refl (suc e))

  -- of an entry that is known
  module _ (e : ℕ) {x y : Entry} (is : x ≡ entry_at table e) (same : x ≡ y) where
    pub height-known : height_by s high y ≡ high e
    height-known = sym (height-descends e ∙ ap (height_by s high) (sym is ∙ same))

    pub parts-known : PartsBelow e y
    parts-known = subst (PartsBelow e) (sym is ∙ same) (parts-earlier e (get_or table e 0))

  -- both parts are one entry
  pub height-once : (e : ℕ) {x : Entry} {op : Binary} {l r : ℕ} → x ≡ entry_at table e → x ≡ Two op l r
      → l ≡ r → high l + adds_of s op ≡ high e
  height-once e {x} {op} {l} {r} is same lr = omega (arith, height-known e is same, ap high lr)
