-- A number in a line, and a line with one number.
use Rattle.std.specs.Prelude.{ℕ, List, [], ◌∷◌, ◌++◌}
use Rattle.decimals.specs.Decimals.{Decimal, newline}

-- A number, and the byte that ends it.
pub data Field (n end : ℕ) : List ℕ → Type 0 where
  field : {ds : List ℕ} → Decimal ds n → Field n end (ds ++ (end ∷ []))

-- A line with one number.
pub data NumberLine (label : List ℕ) (n : ℕ) : List ℕ → Type 0 where
  number_line : {ds : List ℕ} → Field n newline ds → NumberLine label n (label ++ ds)
