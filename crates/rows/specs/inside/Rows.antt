-- Rows of the work slice: 512 cells an entry, and what filling one leaves behind.
use Rattle.std.specs.Prelude.{ℕ, ◌+◌, ◌*◌, ◌<◌, ◌≤◌, ◌≡◌, List, length, get_or}
use Rattle.schedule.specs.Limits.{work_length, max_entries}

abbrev pub row_length : ℕ
row_length = 512

abbrev pub row_of : List ℕ → ℕ → ℕ → ℕ
row_of work e p = get_or work (e * row_length + p) 0

-- A row below 32 that is filled from earlier ones, in a slice of 32 rows at least.
pub record RowReady (row left right cols len : ℕ) : Type 0 where
  pub room : work_length ≤ len
  pub row_below : row < max_entries
  pub left_below : left < row
  pub right-below : right < row
  pub cols-below : cols ≤ row_length

-- The first cells of a row are given by a function, all else is as found.
pub record Filled (row cols : ℕ) (cell : ℕ → ℕ) (found left : List ℕ) : Type 0 where
  pub same_length : length left ≡ length found
  pub cells : (p : ℕ) → p < cols → row_of left row p ≡ cell p
  pub before : (k : ℕ) → k < row * row_length → get_or left k 0 ≡ get_or found k 0
  pub after : (k : ℕ) → row * row_length + cols ≤ k → get_or left k 0 ≡ get_or found k 0
