-- Decimals: bytes and number fix each other, every byte is a digit, no zero leads,
-- and a small number has few digits.
use mathlib.Core.Path.{◌≡◌, refl, sym, ap, ◌∙◌}
use mathlib.Core.Logic.{◌⊎◌, inl, inr, ⊎_elim}
use mathlib.Core.List.{List, [], ◌∷◌, ◌++◌}
use Prim.Native.Nat.{ℕ, zero, suc, ◌+◌, ◌-◌, ◌*◌, ◌^◌, ◌<◌, ◌≤◌}
use native.Mathlib.Omega.{arith}
use lib.ListN.{length, length-append}
use Rattle.decimals.specs.Decimals.{Decimal, digit, longer}

-- The number that digits make behind those of n.
abbrev pub value : ℕ → List ℕ → ℕ
value n [] = n
value n (b ∷ bs) = value (n * 10 + (b - 48)) bs

pub value-append : (n : ℕ) (ds es : List ℕ) → value n (ds ++ es) ≡ value (value n ds) es
value-append n [] es = refl
value-append n (d ∷ ds) es = value-append (n * 10 + (d - 48)) ds es

pub value_grows : (n : ℕ) (ds : List ℕ) → n ≤ value n ds
value_grows n [] = omega arith
value_grows n (d ∷ ds) = omega (arith, value_grows (n * 10 + (d - 48)) ds)

pub decimal-value : {ds : List ℕ} {n : ℕ} → Decimal ds n → value 0 ds ≡ n
decimal-value (digit lt) = omega arith
decimal-value (longer {ds} {n} {d} p some lt) =
    let e = decimal-value p in value-append 0 ds ((48 + d) ∷ []) ∙ omega arith

-- Bytes are those of one number.
pub decimal-number : {ds : List ℕ} {n m : ℕ} → Decimal ds n → Decimal ds m → n ≡ m
decimal-number p q = sym (decimal-value p) ∙ decimal-value q

same_bytes : {ds es : List ℕ} {n m : ℕ} → Decimal ds n → Decimal es m → n ≡ m → ds ≡ es
same_bytes (digit a) (digit b) same = ap (λ k. (48 + k) ∷ []) same
same_bytes (digit a) (longer q some b) same = absurd (omega arith)
same_bytes (longer p some a) (digit b) same = absurd (omega arith)
same_bytes (longer {d} p some a) (longer {d = e} q more b) same =
    let front = same_bytes p q (omega arith) in
    let last : d ≡ e = omega arith in
    λ i. front i ++ (48 + last i) ∷ []

-- A number has one row of bytes.
pub decimal-one : {ds es : List ℕ} {n : ℕ} → Decimal ds n → Decimal es n → ds ≡ es
decimal-one p q = same_bytes p q refl

abbrev pub Digits : List ℕ → Type 0
Digits [] = Unit
Digits (b ∷ bs) = (48 ≤ b) × (b ≤ 57) × Digits bs

pub digits_append : (ds es : List ℕ) → Digits ds → Digits es → Digits (ds ++ es)
digits_append [] es p q = q
digits_append (d ∷ ds) es p q = (p.0, p.1, digits_append ds es p.2 q)

pub decimal-digits : {ds : List ℕ} {n : ℕ} → Decimal ds n → Digits ds
decimal-digits (digit lt) = (omega arith, omega arith, tt)
decimal-digits (longer {ds} {d} p some lt) =
    digits_append ds ((48 + d) ∷ []) (decimal-digits p) (omega arith, omega arith, tt)

pub decimal-some : {ds : List ℕ} {n : ℕ} → Decimal ds n → 1 ≤ length ds
decimal-some (digit lt) = omega arith
decimal-some (longer {ds} {d} p some lt) = omega (arith, length-append ds ((48 + d) ∷ []), decimal-some p)

-- A number of at most k digits' size has at most k digits.
pub decimal-length : {ds : List ℕ} {n : ℕ} (k : ℕ) → Decimal ds n → n < 10 ^ suc k → length ds ≤ suc k
decimal-length k (digit lt) small = omega arith
decimal-length zero (longer {ds} {d} p some lt) small = absurd (omega arith)
decimal-length (suc k) (longer {ds} {d} p some lt) small =
    omega (arith, length-append ds ((48 + d) ∷ []), decimal-length k p (omega (arith, small)))

-- The first byte, and that it is 0 only where it is the last.
pub record FirstByte (ds : List ℕ) : Type 0 where
  pub first : ℕ
  pub others : List ℕ
  pub whole : ds ≡ first ∷ others
  pub lone : (others ≡ []) ⊎ (48 < first)

pub decimal-leads : {ds : List ℕ} {n : ℕ} → Decimal ds n → FirstByte ds
decimal-leads (digit {d} lt) = record { first = 48 + d; others = []; whole = refl; lone = inl refl }
decimal-leads (longer {ds} {n} {d} p some lt) =
    let l = decimal-leads p in
    record {
      first = l.first;
      others = l.others ++ (48 + d) ∷ [];
      whole = ap (λ es. es ++ (48 + d) ∷ []) l.whole;
      lone = inr (⊎_elim (λ none. let one : value 0 (l.first ∷ []) ≡ n
          = ap (λ es. value 0 (l.first ∷ es)) (sym none) ∙ ap (value 0) (sym l.whole) ∙ decimal-value p in
          omega arith)
          (λ more. more) l.lone);
    }
