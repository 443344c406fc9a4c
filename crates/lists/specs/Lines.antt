-- A line of a text: a keyword, and numbers with commas or letters up to the newline.
use Rattle.std.specs.Prelude.{ℕ, ◌≤◌, List, [], ◌∷◌, ◌++◌}
use Rattle.decimals.specs.Decimals.{Decimal, comma, newline}

-- Numbers of at most max, with commas between them.
pub data Commas (max : ℕ) : List ℕ → List ℕ → Type 0 where
  last : {ds : List ℕ} {n : ℕ} → Decimal ds n → n ≤ max → Commas max ds (n ∷ [])
  more : {ds bs ns : List ℕ} {n : ℕ} → Decimal ds n → n ≤ max → Commas max bs ns
      → Commas max (ds ++ comma ∷ bs) (n ∷ ns)

-- Letters with commas: perhaps none.
pub data Letters : List ℕ → List ℕ → Type 0 where
  none : Letters [] []
  some : {bs ns : List ℕ} → Commas 4294967295 bs ns → Letters bs ns

-- A line is ended by a newline.
abbrev pub line_of : List ℕ → List ℕ → List ℕ
line_of word fields = word ++ (fields ++ newline ∷ [])
