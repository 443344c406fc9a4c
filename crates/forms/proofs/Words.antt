-- What each case of a word says of the node, and the cases of a node that a rule allows.
use mathlib.Core.Path.{◌≡◌, refl, subst}
use mathlib.Core.Bool.{true, false, ◌&&◌}
use Prim.Native.Nat.{ℕ, ◌/◌, ◌%◌, ◌<◌, ◌≤◌}
use native.Mathlib.Omega.{arith}
use borrow.Author.Tests.{eq-eqb, le-leb, lt-leb, eqb-true, leb-true}
use lib.Dec.{eqb, leb}
use Rattle.std.specs.Prelude.{Option, Some, None}
use Rattle.rules.proofs.Entries.{cond-elim}
use Rattle.schedule.proofs.Tests.{and_both}
use Rattle.forms.specs.inside.Forms.{within, form_from, form_of}
use Rattle.forms.specs.declared.Form.{Form}
use Rattle.forms.specs.declared.Form.TheVariants.{Atom, Plain, Counted}

module _ (low high x : ℕ) where
  pub within_in : low ≤ x → x ≤ high → within low high x ≡ true
  within_in l h = simp (le-leb low x l, le-leb x high h)

  within-above : low ≤ x → high < x → within low high x ≡ false
  within-above l h = simp (le-leb low x l, lt-leb x high h)

module _ (r a n : ℕ) where
  pub word-atom : 1 ≤ r → r ≤ 2 → Some (Atom r a n) ≡ form_from r a n
  unfolding form_from
  word-atom l h = simp (within_in 1 2 r l h)

  pub word-plain : 3 ≤ r → r ≤ 10 → a ≡ 0 → n ≡ 0 → Some (Plain r) ≡ form_from r a n
  unfolding form_from
  word-plain l h p q =
      simp (within-above 1 2 r (omega arith) l, within_in 3 10 r l h, eq-eqb a 0 p, eq-eqb n 0 q)

  pub word-counted : 11 ≤ r → r ≤ 16 → a ≡ 0 → Some (Counted r n) ≡ form_from r a n
  unfolding form_from
  word-counted l h p =
      simp (
        within-above 1 2 r (omega arith) (omega arith),
        within-above 3 10 r (omega arith) l,
        within_in 11 16 r l h,
        eq-eqb a 0 p,
      )

-- What a word's case says of its three fields.
abbrev pub Fields : ℕ → ℕ → ℕ → Option Form → Type 0
Fields r a n (Some (Atom k b m)) = (r ≡ k) × (a ≡ b) × (n ≡ m) × (1 ≤ k) × (k ≤ 2)
Fields r a n (Some (Plain k)) = (r ≡ k) × (a ≡ 0) × (n ≡ 0) × (3 ≤ k) × (k ≤ 10)
Fields r a n (Some (Counted k m)) = (r ≡ k) × (a ≡ 0) × (n ≡ m) × (11 ≤ k) × (k ≤ 16)
Fields r a n None = Unit

within-are : (low high x : ℕ) → within low high x ≡ true → (low ≤ x) × (x ≤ high)
within-are low high x e =
    let both = and_both (leb low x) (leb x high) e in
    (leb-true low x both.0, leb-true x high both.1)

word_fields : (r a n : ℕ) → Fields r a n (form_from r a n)
unfolding form_from
word_fields r a n =
    cond-elim (Fields r a n) (within 1 2 r)
    (λ e. let b = within-are 1 2 r e in (refl, refl, refl, b.0, b.1))
    (λ _. cond-elim (Fields r a n) (within 3 10 r)
    (λ e. cond-elim (Fields r a n) (eqb a 0 && eqb n 0)
    (λ z. let b = within-are 3 10 r e in
    let none = and_both (eqb a 0) (eqb n 0) z in
    (refl, eqb-true a 0 none.0, eqb-true n 0 none.1, b.0, b.1)) (λ _. tt))
    (λ _. cond-elim (Fields r a n) (within 11 16 r)
    (λ e. cond-elim (Fields r a n) (eqb a 0)
    (λ z. let b = within-are 11 16 r e in (refl, eqb-true a 0 z, refl, b.0, b.1)) (λ _. tt)) (λ _. tt)))

-- The case of a written word, and what it says of the node.
pub word-says : (w : ℕ) (x : Option Form) → form_of w ≡ x
    → Fields (w / 16777216) (w / 65536 % 256) (w % 65536) x
unfolding form_of
word-says w x e =
    subst (Fields (w / 16777216) (w / 65536 % 256) (w % 65536)) e
    (word_fields (w / 16777216) (w / 65536 % 256) (w % 65536))
