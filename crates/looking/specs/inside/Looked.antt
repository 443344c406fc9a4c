-- What an answer is read from: the cell of a filled work slice.
use Rattle.std.specs.Prelude.{ℕ, suc, ◌≡◌, cond, List, length, Result, Ok, Err}
use Rattle.schedule.specs.Tests.{AllPass, FirstFails}
use Rattle.trees.specs.Least.{ones}
use Rattle.trees.specs.declared.Verdict.{Verdict}
use Rattle.trees.specs.declared.Verdict.TheVariants.{Holds, Violated}
use Rattle.cells.specs.inside.Cells.{holds_in}
use Rattle.cells.specs.inside.Meant.{CellFor}
use Rattle.search.specs.inside.Filling.{FilledBelow, Fills, reach_of}
use Rattle.schedule.specs.Buffers.{cleared}
use Rattle.asking.specs.Answers.{refused}
use Rattle.asking.specs.Questions.{Question, frame_in, formula_in, work_tests}
use Rattle.asking.specs.declared.Refusal.{Refusal}

unfoldable pub verdict_in : ℕ → Verdict
verdict_in cell = cond (holds_in cell) Holds Violated

-- The rows up to the asked entry are filled as far as the question needs them.
abbrev pub FilledIn : Question → List ℕ → Type 0
FilledIn q work =
    FilledBelow ones (frame_in q) q.table (reach_of (length q.prefix) q.position) (length q.loop)
    (suc q.entry) work

abbrev pub CellIn : Question → ℕ → Type 0
CellIn q cell = CellFor ones (frame_in q) (formula_in q) q.position cell

-- The slice is filled up to the asked entry, and the cell of the asked position is read.
pub record CellRead (q : Question) (found left : List ℕ) (cell : ℕ) : Type 0 where
  pub fills : Fills ones (frame_in q) q.table (reach_of (length q.prefix) q.position)
      (length q.loop) (suc q.entry) found left
  pub cell-for : CellIn q cell

-- A refusal of 1 to 8 with the slice as found, or the cell of the question with the slice cleared.
pub data Looked (q : Question) (found left : List ℕ) : Result ℕ Refusal → Type 0 where
  refuses : {x : Refusal} → FirstFails (work_tests q (length found)) (refused x) → left ≡ found
      → Looked q found left (Err x)
  sees : {cell : ℕ} → AllPass (work_tests q (length found)) → left ≡ cleared found → CellIn q cell
      → Looked q found left (Ok cell)
