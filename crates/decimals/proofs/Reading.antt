-- Reading a number digit by digit: what is known once some digits are read,
-- and the laws of a turn and of the returns.
use mathlib.Core.Path.{◌≡◌, sym, ap, subst, ◌∙◌}
use mathlib.Core.Logic.{⊎_elim}
use mathlib.Core.List.{List, [], ◌∷◌, ◌++◌, head-eq_of_cons-eq, tail-eq_of_cons-eq, cons-ne-nil}
use Prim.Native.Nat.{ℕ, suc, ◌+◌, ◌-◌, ◌*◌, ◌<◌, ◌≤◌}
use native.Mathlib.Numerals.{add-one}
use native.Mathlib.Omega.{arith}
use lib.ListN.{length, get_or, drop, take}
use lib.Seq.{slice, slice-cons, slice_empty, take-suc, drop-append-le, length-take-le}
use Rattle.std.specs.Prelude.{Option, Some, None}
use Rattle.decimals.specs.Decimals.{Decimal, digit, longer}
use Rattle.decimals.specs.inside.Numbers.{NoDigit, Figure, Numbered}
use Rattle.decimals.specs.declared.Numeral.{Numeral}
use Rattle.decimals.proofs.Digits.{Digits, value, value-append, value_grows, decimal-value}
use Rattle.decimals.proofs.Digits.{decimal-one, decimal-digits, digits_append, decimal-leads}
use Rattle.decimals.proofs.Standing.{covers, slice-on, stands-past, stands_on, stands-ends}

-- The digits from a place up to the next make n.
pub record Reading (text : List ℕ) (at max next n : ℕ) : Type 0 where
  pub past : at < next
  pub within : next ≤ length text
  pub digits : Decimal (slice at next text) n
  pub small : n ≤ max

slice-suc : (text : List ℕ) (at next : ℕ) → at ≤ next → next < length text
    → slice at (next + 1) text ≡ slice at next text ++ get_or text next 0 ∷ []
slice-suc text at next le lt =
    ap (λ k. slice at k text) (add-one next) ∙ ap (drop at) (take-suc text next 0 lt)
    ∙ drop-append-le at (take next text) (get_or text next 0 ∷ [])
    (subst (λ k. at ≤ k) (sym (length-take-le next text (omega arith))) le)

slice-one : (text : List ℕ) (at : ℕ) → at < length text → slice at (at + 1) text ≡ get_or text at 0 ∷ []
slice-one text at lt =
    slice-suc text at at (omega arith) lt ∙ ap (λ l. l ++ get_or text at 0 ∷ []) (slice_empty at text)

suc_of : (k : ℕ) → 1 + k ≡ suc k
suc_of k = omega arith

-- A digit stands at a place.
pub record DigitAt (text : List ℕ) (at d : ℕ) : Type 0 where
  pub within : at < length text
  pub small : d < 10
  pub byte : get_or text at 0 ≡ 48 + d

module _ {text others : List ℕ} {b : ℕ} (e : text ≡ b ∷ others) where
  pub digit-first : {d : ℕ} → Figure b (Some d) → DigitAt text 0 d
  digit-first f =
      record { within = omega (arith, ap length e); small = f.0; byte = ap (λ l. get_or l 0 0) e ∙ f.1 }

  pub digit-behind : {d k : ℕ} → k < length others → Figure (get_or others k 0) (Some d)
      → DigitAt text (1 + k) d
  digit-behind {k} lt f = record {
    within = omega (arith, lt, ap length e);
    small = f.0;
    byte = ap (λ l. get_or l (1 + k) 0) e ∙ ap (λ j. get_or (b ∷ others) j 0) (suc_of k) ∙ f.1;
  }

module _ {text : List ℕ} {at max : ℕ} where
  pub none-numbered : {r : Option Numeral} → r ≡ None → Numbered text at max None → Numbered text at max r
  none-numbered e wrong = subst (Numbered text at max) (sym e) wrong

  pub read-no-digit : NoDigit (get_or text at 0) → Numbered text at max None
  read-no-digit none k n s small =
      let digits = subst Digits (slice-cons at k text 0 (stands-past s) s.within)
      (decimal-digits s.digits) in
      ⊎_elim (λ lt. omega (arith, digits.0)) (λ gt. omega (arith, digits.1)) none

  -- A number that stands there takes in the digits passed.
  wrong-past : (next : ℕ) (es : List ℕ) → at ≤ next → next ≤ length text → slice at next text ≡ es → Digits es
      → ((ms : List ℕ) (m : ℕ) → Decimal (es ++ ms) m → ¬ (m ≤ max)) → Numbered text at max None
  wrong-past next es le within same digits none k n s =
      let c = covers (slice at k text) es (drop k text) (drop next text) (stands-ends s) digits
      (sym (stands_on s) ∙ slice-on text at next le within ∙ ap (λ l. l ++ drop next text) same) in
      none c.more n (subst (λ l. Decimal l n) c.whole s.digits)

  module _ {d : ℕ} (f : DigitAt text at d) where
    pub read_first : {next : ℕ} → next ≡ at + 1 → d ≤ max → Reading text at max next d
    read_first e le = subst (λ k. Reading text at max k d) (sym e) (record {
      past = omega arith;
      within = omega (arith, f.within);
      digits = subst (λ l. Decimal l d)
          (ap (λ b. b ∷ []) (sym f.byte) ∙ sym (slice-one text at f.within)) (digit f.small);
      small = le;
    })

    pub read-first-large : max < d → Numbered text at max None
    read-first-large large =
        let byte = f.byte in
        wrong-past (at + 1) (get_or text at 0 ∷ []) (omega arith) (omega (arith, f.within))
        (slice-one text at f.within)
        (omega (arith, f.small), omega (arith, f.small), tt)
        (λ ms m p le. omega (arith, decimal-value p, value_grows (0 * 10 + (get_or text at 0 - 48)) ms))

  module _ {next n d : ℕ} (r : Reading text at max next n) (f : DigitAt text next d) where
    longer-part : slice at (next + 1) text ≡ slice at next text ++ (48 + d) ∷ []
    longer-part =
        slice-suc text at next (omega (arith, r.past)) f.within
        ∙ ap (λ b. slice at next text ++ b ∷ []) f.byte

    pub read-zero : n ≡ 0 → Numbered text at max None
    read-zero zero =
        let lone : slice at next text ≡ 48 ∷ []
        = decimal-one (subst (Decimal (slice at next text)) zero r.digits)
        (digit {d = 0} (omega arith)) in
        wrong-past (next + 1) (48 ∷ (48 + d) ∷ []) (omega (arith, r.past)) (omega (arith, f.within))
        (longer-part ∙ ap (λ l. l ++ (48 + d) ∷ []) lone)
        (omega arith, omega arith, (omega arith, omega (arith, f.small), tt))
        (λ ms m p le. let l = decimal-leads p in
        ⊎_elim (λ none. cons-ne-nil (48 + d) ms (tail-eq_of_cons-eq l.whole ∙ none))
        (λ more. omega (arith, more, head-eq_of_cons-eq l.whole)) l.lone)

    pub read-large : max < n * 10 + d → Numbered text at max None
    read-large large =
        let part = slice at next text ++ (48 + d) ∷ [] in
        let whole : value 0 part ≡ n * 10 + d
        = value-append 0 (slice at next text) ((48 + d) ∷ []) ∙ omega (arith, decimal-value r.digits) in
        wrong-past (next + 1) part (omega (arith, r.past)) (omega (arith, f.within)) longer-part
        (digits_append (slice at next text) ((48 + d) ∷ []) (decimal-digits r.digits)
        (omega arith, omega (arith, f.small), tt))
        (λ ms m p le. omega (
          arith,
          large,
          le,
          sym (decimal-value p) ∙ value-append 0 part ms ∙ ap (λ k. value k ms) whole,
          value_grows (n * 10 + d) ms,
        ))

    pub read-turn : {then m : ℕ} → then ≡ next + 1 → m ≡ n * 10 + d → ¬ (n ≡ 0) → m ≤ max
        → Reading text at max then m
    read-turn {m} e same some le = subst (λ k. Reading text at max k m) (sym e) (record {
      past = omega (arith, r.past);
      within = omega (arith, f.within);
      digits = subst (Decimal (slice at (next + 1) text)) (sym same)
          (subst (λ l. Decimal l (n * 10 + d)) (sym longer-part) (longer r.digits (omega arith) f.small));
      small = le;
    })
