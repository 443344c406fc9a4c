-- A number and the byte behind it, and a line with one number: where they end.
use Prim.Native.Nat.{ℕ, suc, ◌+◌, ◌<◌, ◌≤◌, ◌^◌}
use mathlib.Core.Path.{◌≡◌, sym, subst}
use mathlib.Core.List.{List, [], ◌∷◌, ◌++◌}
use native.Mathlib.Omega.{arith}
use lib.ListN.{length, length-append}
use Rattle.decimals.specs.Decimals.{newline}
use Rattle.printing.specs.Fields.{Field, field, NumberLine, number_line}
use Rattle.printing.specs.inside.Puts.{Puts}
use Rattle.printing.specs.declared.Writer.{Writer}
use Rattle.decimals.proofs.Digits.{decimal-length}
use Rattle.printing.proofs.Placing.{puts-then}

-- one text behind another
pub data Then (P Q : List ℕ → Type 0) : List ℕ → Type 0 where
  then : {xs ys : List ℕ} → P xs → Q ys → Then P Q (xs ++ ys)

pub number-line-put : {label : List ℕ} {n : ℕ} {before between after : Writer}
    → Puts (λ bs. bs ≡ label) before between → Puts (Field n newline) between after
    → Puts (NumberLine label n) before after
number-line-put {label} {n} p q =
    puts-then (λ xs ys e d. subst (λ l. NumberLine label n (l ++ ys)) (sym e) (number_line d)) p q

pub field-length : (k : ℕ) {n end : ℕ} {bs : List ℕ} → Field n end bs → n < 10 ^ suc k → length bs ≤ k + 2
field-length k {n} {end} (field {ds} d) lt = omega (arith, length-append ds (end ∷ []), decimal-length k d lt)

pub field-most : (k : ℕ) {n end : ℕ} {before after : Writer} → Puts (Field n end) before after
    → n < 10 ^ suc k → after.at ≤ before.at + (k + 2)
field-most k p lt = omega (arith, p.placed.ends, field-length k p.placed.such lt)

number-line-length : {label : List ℕ} {n : ℕ} {bs : List ℕ} → NumberLine label n bs → n < 4294967296
    → length bs ≤ length label + 11
number-line-length {label} (number_line {ds} d) lt =
    omega (arith, length-append label ds, field-length 9 d (omega (arith, lt)))

pub number-line-most : {label : List ℕ} {n : ℕ} {before after : Writer}
    → Puts (NumberLine label n) before after → n < 4294967296 → after.at ≤ before.at + length label + 11
number-line-most p lt = omega (arith, p.placed.ends, number-line-length p.placed.such lt)
