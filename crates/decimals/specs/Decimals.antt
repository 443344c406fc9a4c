-- Decimal numbers as bytes: no leading zero, 0 itself allowed.
use Rattle.std.specs.Prelude.{ℕ, ◌+◌, ◌*◌, ◌<◌, ◌≤◌, List, [], ◌∷◌, ◌++◌}

-- Digits from the left; 48 is the byte of 0.
pub data Decimal : List ℕ → ℕ → Type 0 where
  digit : {d : ℕ} → d < 10 → Decimal ((48 + d) ∷ []) d
  longer : {ds : List ℕ} {n d : ℕ} → Decimal ds n → 1 ≤ n → d < 10
      → Decimal (ds ++ (48 + d) ∷ []) (n * 10 + d)

-- The byte between numbers, and the byte that ends a line.
abbrev pub comma : ℕ
comma = 44

abbrev pub newline : ℕ
newline = 10
