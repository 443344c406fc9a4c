-- A number that stands in a text: it takes in every digit that follows, so that only one stands at a place.
use mathlib.Core.Path.{◌≡◌, refl, sym, ap, subst, ◌∙◌}
use mathlib.Core.Logic.{⊎_elim}
use mathlib.Core.List.{List, [], ◌∷◌, ◌++◌, head-eq_of_cons-eq, tail-eq_of_cons-eq, append_assoc}
use Prim.Native.Nat.{ℕ, ◌+◌, ◌<◌, ◌≤◌}
use native.Mathlib.Omega.{arith}
use lib.ListN.{length, get_or, take, drop, length-append, take-append-drop}
use lib.Seq.{slice, length-slice, length-take-le, drop-append-le, get_or-drop, take_at, drop_at}
use Rattle.std.specs.Prelude.{Option, Some, None}
use Rattle.decimals.specs.Decimals.{Decimal}
use Rattle.decimals.specs.inside.Numbers.{NoDigit, Stands, Numbered}
use Rattle.decimals.specs.declared.Numeral.{Numeral}
use Rattle.decimals.proofs.Digits.{Digits, decimal-number, decimal-digits, decimal-some}

no_digit : {b : ℕ} → NoDigit b → 48 ≤ b → b ≤ 57 → ⊥
no_digit n low high = ⊎_elim (λ lt. absurd (omega arith)) (λ gt. absurd (omega arith)) n

-- what is left of a list whose front is known
pub record Covers (ds es : List ℕ) : Type 0 where
  pub more : List ℕ
  pub whole : ds ≡ es ++ more

pub covers : (ds es rest others : List ℕ) → NoDigit (get_or rest 0 0) → Digits es → ds ++ rest ≡ es ++ others
    → Covers ds es
covers ds [] rest others n digits e = record { more = ds; whole = refl }
covers [] (b ∷ es) rest others n digits e =
    absurd (no_digit n (subst (λ l. 48 ≤ get_or l 0 0) (sym e) digits.0)
    (subst (λ l. get_or l 0 0 ≤ 57) (sym e) digits.1))
covers (a ∷ ds) (b ∷ es) rest others n digits e =
    let c = covers ds es rest others n digits.2 (tail-eq_of_cons-eq e) in
    record { more = c.more; whole = λ i. head-eq_of_cons-eq e i ∷ c.whole i }

-- Digits end in one place.
pub digits-one : (ds es rest others : List ℕ) → Digits ds → Digits es → NoDigit (get_or rest 0 0)
    → NoDigit (get_or others 0 0) → ds ++ rest ≡ es ++ others → ds ≡ es
digits-one [] [] rest others p q m n e = refl
digits-one [] (b ∷ es) rest others p q m n e =
    absurd
    (no_digit m (subst (λ l. 48 ≤ get_or l 0 0) (sym e) q.0) (subst (λ l. get_or l 0 0 ≤ 57) (sym e) q.1))
digits-one (a ∷ ds) [] rest others p q m n e =
    absurd (no_digit n (subst (λ l. 48 ≤ get_or l 0 0) e p.0) (subst (λ l. get_or l 0 0 ≤ 57) e p.1))
digits-one (a ∷ ds) (b ∷ es) rest others p q m n e =
    let same = digits-one ds es rest others p.2 q.2 m n (tail-eq_of_cons-eq e) in
    λ i. head-eq_of_cons-eq e i ∷ same i

-- A part and what follows it.
pub slice-on : (text : List ℕ) (at next : ℕ) → at ≤ next → next ≤ length text
    → drop at text ≡ slice at next text ++ drop next text
slice-on text at next le within =
    ap (drop at) (sym (take-append-drop next text))
    ∙ drop-append-le at (take next text) (drop next text)
    (subst (λ k. at ≤ k) (sym (length-take-le next text within)) le)

pub head_at : (text : List ℕ) (k : ℕ) → get_or (drop k text) 0 0 ≡ get_or text k 0
head_at text k = get_or-drop k text 0 0 ∙ ap (λ j. get_or text j 0) (omega arith)

module _ {text : List ℕ} {at next n : ℕ} (s : Stands text at next n) where
  pub stands-past : at < next
  stands-past = omega (arith, decimal-some s.digits, length-slice at next text s.within)

  pub stands_on : drop at text ≡ slice at next text ++ drop next text
  stands_on = slice-on text at next (omega (arith, stands-past)) s.within

  pub stands-ends : NoDigit (get_or (drop next text) 0 0)
  stands-ends = subst NoDigit (sym (head_at text next)) s.ends

-- A number that begins what is left stands there.
pub stands-made : (text ds rest : List ℕ) (at n : ℕ) → at ≤ length text → drop at text ≡ ds ++ rest
    → Decimal ds n → NoDigit (get_or rest 0 0) → Stands text at (at + length ds) n
stands-made text ds rest at n le e d ends =
    let split : text ≡ take at text ++ ds ++ rest
    = sym (take-append-drop at text) ∙ ap (λ l. take at text ++ l) e
    ∙ sym (append_assoc (take at text) ds rest) in
    let lead : length (take at text) ≡ at = length-take-le at text le in
    let front : length (take at text ++ ds) ≡ at + length ds
    = length-append (take at text) ds ∙ ap (λ k. k + length ds) lead in
    record {
      within = omega (arith, ap length split, length-append (take at text ++ ds) rest, front);
      digits = subst (λ l. Decimal l n)
          (sym (drop_at (take at text) ds at lead)
          ∙ ap (drop at)
          (sym (ap (take (at + length ds)) split ∙ take_at (take at text ++ ds) rest (at + length ds) front)))
          d;
      ends = subst NoDigit
          (ap (λ l. get_or l 0 0)
          (sym (ap (drop (at + length ds)) split ∙ drop_at (take at text ++ ds) rest (at + length ds) front))
          ∙ head_at text (at + length ds)) ends;
    }

pub stands_one : {text : List ℕ} {at next k n m : ℕ} → Stands text at next n → Stands text at k m
    → (next ≡ k) × (n ≡ m)
stands_one {text} {at} {next} {k} {m} s t =
    let same = digits-one (slice at next text) (slice at k text) (drop next text) (drop k text)
    (decimal-digits s.digits) (decimal-digits t.digits) (stands-ends s) (stands-ends t)
    (sym (stands_on s) ∙ stands_on t) in (
      omega (
        arith,
        ap length same,
        length-slice at next text s.within,
        length-slice at k text t.within,
        stands-past s,
        stands-past t,
      ),
      decimal-number s.digits (subst (λ l. Decimal l m) (sym same) t.digits),
    )

-- Two answers that meet the contract coincide.
pub number-one : (text : List ℕ) (at max : ℕ) (r s : Option Numeral) → Numbered text at max r
    → Numbered text at max s → r ≡ s
number-one text at max None None p q = refl
number-one text at max None (Some s) p q = absurd (p s.next s.value q.2 q.1)
number-one text at max (Some r) None p q = absurd (q r.next r.value p.2 p.1)
number-one text at max (Some r) (Some s) p q =
    let same = stands_one p.2 q.2 in λ i. Some (record { value = same.1 i; next = same.0 i })
