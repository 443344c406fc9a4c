-- A scan along a list: the witness some steps from a position, ahead or back,
-- and the members on the way to it.
use Rattle.std.specs.Prelude.{ℕ, suc, ◌+◌, ◌-◌, ◌<◌, ◌≤◌, ◌≡◌, Bool, true, false, cond}
use Rattle.theory.specs.inside.RunCosts.{sum_run}
use Rattle.cells.specs.inside.Cells.{pro_of, con_of}
use Rattle.scans.specs.declared.Met.{Met}
use Rattle.rows.specs.inside.Rows.{row_length}

-- The price of a tree of the verdict, or 4,096.
unfoldable pub price_in : Bool → ℕ → ℕ
price_in held c = cond held (pro_of c) (con_of c)

unfoldable pub step_from : Bool → ℕ → ℕ → ℕ
step_from ahead i n = cond ahead (i + n) (i - n)

-- The members of the list where the witness is n steps off: what is violated is so at the witness too.
unfoldable pub members_of : Bool → ℕ → ℕ
members_of held n = cond held n (suc n)

unfoldable pub listed_of : Bool → ℕ → ℕ → ℕ
listed_of held sum next = cond held sum (sum + next)

-- The prices in a row, by the steps from a position.
abbrev pub prices_from : (ℕ → ℕ) → Bool → Bool → ℕ → ℕ → ℕ
prices_from row held ahead i n = price_in held (row (step_from ahead i n))

-- What a root and its list cost, with the witness n steps off.
abbrev pub list_cost : (ℕ → ℕ) → Bool → ℕ → ℕ
list_cost member held n = 1 + sum_run member 0 (members_of held n)

-- With the witness n steps off the price is met neither with the first part nor without.
pub record Missed (witness member : ℕ → ℕ) (held : Bool) (price n : ℕ) : Type 0 where
  pub with_first : ¬ (list_cost member held n + witness n ≡ price)
  pub without : ¬ (list_cost member held n ≡ price)

-- The scan comes to an end inside the row.
pub record Reached (witness member : ℕ → ℕ) (held ahead : Bool) (i price : ℕ) : Type 0 where
  pub far : ℕ
  pub back : ahead ≡ false → far ≤ i
  pub inside : i + far < 1024
  pub column : (n : ℕ) → n ≤ far → step_from ahead i n < row_length
  pub meets : ¬ Missed witness member held price far

-- The first witness that meets the price.
pub record Scanned (witness member : ℕ → ℕ) (held : Bool) (price : ℕ) (r : Met) : Type 0 where
  pub far : ℕ
  pub count : r.count ≡ members_of held far
  pub missed : (n : ℕ) → n < far → Missed witness member held price n
  pub with_first : r.alone ≡ false → list_cost member held far + witness far ≡ price
  pub without : r.alone ≡ true → list_cost member held far ≡ price
