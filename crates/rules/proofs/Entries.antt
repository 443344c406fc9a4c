-- The kind table's rows of one part; what an entry is, by its operator; and its parts are earlier entries.
use mathlib.Core.Path.{◌≡◌, refl, ap, ◌∙◌}
use mathlib.Core.Bool.{Bool, true, false, cond, ◌&&◌}
use Prim.Native.Nat.{ℕ, ◌/◌, ◌%◌, ◌<◌}
use lib.Dec.{eqb, ltb, leb}
use borrow.Author.Tests.{eq-eqb, ne_eqb, ltb-true}
use Rattle.rules.specs.Entries.{is_alone, are_earlier, entry_from, entry_of}
use Rattle.rules.specs.declared.Entry.{Entry}
use Rattle.rules.specs.declared.Entry.TheVariants.{Atom, One, Two, Broken}
use Rattle.rules.specs.declared.Unary.{Unary}
use Rattle.rules.specs.declared.Unary.TheVariants.{Not}
use Rattle.rules.specs.declared.Binary.{Binary}
use Rattle.schedule.proofs.Tests.{and_both}

module _ (i k l r : ℕ) where
  pub entry-atom : (t : Bool) → k ≡ 0 → is_alone 32 l r ≡ t → cond t (Atom l) Broken ≡ entry_from i k l r
  entry-atom t e p = simp (eq-eqb k 0 e, p)

  pub entry-not : (t : Bool) → (k ≡ 0 → ⊥) → k ≡ 1 → is_alone i l r ≡ t
      → cond t (One Not l) Broken ≡ entry_from i k l r
  entry-not t n e p = simp (ne_eqb k 0 n, eq-eqb k 1 e, p)

-- an entry of one part or of two, once its operator is known
pub one-is : {x : Entry} {op : Unary} {l : ℕ} → x ≡ One op l → x ≡ One Not l
one-is {x} {op} {l} p = go op p
  where
    go : (o : Unary) → x ≡ One o l → x ≡ One Not l
    go Not q = q

pub two_is : {x : Entry} {op known : Binary} {l r : ℕ} → x ≡ Two op l r → op ≡ known → x ≡ Two known l r
two_is {l} {r} p q = p ∙ ap (λ o. Two o l r) q

-- a property of a choice, from the choice made
pub cond-elim : {A : Type 0} (P : A → Type 0) (t : Bool) {x y : A} → (t ≡ true → P x) → (t ≡ false → P y)
    → P (cond t x y)
cond-elim P true f g = f refl
cond-elim P false f g = g refl

-- every part that an entry names lies below a bound
abbrev pub PartsBelow : ℕ → Entry → Type 0
PartsBelow i (Atom a) = Unit
PartsBelow i (One op l) = l < i
PartsBelow i (Two op l r) = (l < i) × (r < i)
PartsBelow i Broken = Unit

alone-is : (i l r : ℕ) → is_alone i l r ≡ true → l < i
alone-is i l r e = ltb-true l i (and_both (ltb l i) (eqb r 0) e).0

earlier-are : (i l r : ℕ) → are_earlier i l r ≡ true → (l < i) × (r < i)
earlier-are i l r e =
    let both = and_both (ltb l i) (ltb r i) e in
    (ltb-true l i both.0, ltb-true r i both.1)

-- The parts of an entry are earlier entries.
pub parts-earlier : (i w : ℕ) → PartsBelow i (entry_of i w)
unfolding entry_of
parts-earlier i w =
    let k = w / 65536 in
    let l = w / 256 % 256 in
    let r = w % 256 in
    cond-elim (PartsBelow i) (eqb k 0) (λ _. cond-elim (PartsBelow i) (is_alone 32 l r) (λ _. tt) (λ _. tt))
    (λ _. cond-elim (PartsBelow i) (eqb k 1)
    (λ _. cond-elim (PartsBelow i) (is_alone i l r) (λ e. alone-is i l r e) (λ _. tt))
    (λ _. cond-elim (PartsBelow i) (are_earlier i l r && (leb 2 k && leb k 5))
    (λ e. earlier-are i l r (and_both (are_earlier i l r) (leb 2 k && leb k 5) e).0) (λ _. tt)))
