-- What reading a number at a place of a text answers.
use Rattle.std.specs.Prelude.{ℕ, ◌+◌, ◌<◌, ◌≤◌, ◌≡◌, ◌⊎◌, List, length, get_or, Option, Some, None}
use Rattle.std.proofs.Math.Seq.{slice}
use Rattle.decimals.specs.Decimals.{Decimal}
use Rattle.decimals.specs.declared.Numeral.{Numeral}

-- A byte that is no digit.
abbrev pub NoDigit : ℕ → Type 0
NoDigit b = (b < 48) ⊎ (57 < b)

-- The figure of a byte, none for one that is no digit.
abbrev pub Figure : ℕ → Option ℕ → Type 0
Figure b (Some d) = (d < 10) × (b ≡ 48 + d)
Figure b None = NoDigit b

-- A number stands in a text from one place up to another, and no digit follows. (Past the text's end the byte
-- reads as 0, which is no digit.)
pub record Stands (text : List ℕ) (at next n : ℕ) : Type 0 where
  pub within : next ≤ length text
  pub digits : Decimal (slice at next text) n
  pub ends : NoDigit (get_or text next 0)

-- The number at a place and where it ends, if one of at most max stands there.
abbrev pub Numbered : List ℕ → ℕ → ℕ → Option Numeral → Type 0
Numbered text at max (Some r) = (at < r.next) × (r.value ≤ max) × Stands text at r.next r.value
Numbered text at max None = (k n : ℕ) → Stands text at k n → ¬ (n ≤ max)
