-- The work slice filled up to an entry: each cell says what it means.
use Rattle.std.specs.Prelude.{ℕ, ◌+◌, ◌<◌, ◌≤◌, max, ◌≡◌, List, length, get_or}
use Rattle.schedule.specs.Limits.{max_letters, max_entries, max_height, work_length}
use Rattle.rules.specs.Formula.{height}
use Rattle.rules.specs.declared.Side.TheVariants.{Past, Future}
use Rattle.rules.specs.Tables.{formula_of}
use Rattle.trees.specs.Rules.{Frame}
use Rattle.trees.specs.Least.{Cost}
use Rattle.theory.specs.inside.Cols.{cols}
use Rattle.rows.specs.inside.Rows.{row_of}
use Rattle.cells.specs.inside.Meant.{CellFor}

-- The reach of a question: past the prefix and past the position.
abbrev pub reach_of : ℕ → ℕ → ℕ
reach_of u i = max u (i + 1)

-- The rows below e, each as far as positions of its formula are asked for.
pub record FilledBelow (cost : Cost) (frame : Frame) (table : List ℕ) (reach v e : ℕ)
    (work : List ℕ) : Type 0 where
  pub rows : (k p : ℕ) → k < e → p < cols reach v (formula_of table k)
      → CellFor cost frame (formula_of table k) p (row_of work k p)

-- Within the limits, with room for 32 rows, and the reach is 256 at most and no less than the prefix: a loop,
-- at most 48 letters, at most 32 entries, no heights above 5 up to the entry.
pub record Limited (u v reach : ℕ) (table : List ℕ) (e len : ℕ) : Type 0 where
  pub loop : 1 ≤ v
  pub letters : u + v ≤ max_letters
  pub from : u ≤ reach
  pub short : reach ≤ 256
  pub entry : e < max_entries
  pub low : (k : ℕ) → k ≤ e
      → height Past (formula_of table k) + height Future (formula_of table k) ≤ max_height
  pub room : work_length ≤ len

-- The rows below an entry are filled, and what lies past the 32 rows is as found.
pub record Fills (cost : Cost) (frame : Frame) (table : List ℕ) (reach v e : ℕ)
    (found left : List ℕ) : Type 0 where
  pub filled : FilledBelow cost frame table reach v e left
  pub same_length : length left ≡ length found
  pub beyond : (k : ℕ) → work_length ≤ k → get_or left k 0 ≡ get_or found k 0
