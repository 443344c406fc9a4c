-- The figures that truth and find give for a cell.
use Rattle.std.specs.Prelude.{ℕ, cond, ltb}
use Rattle.schedule.specs.Figures.{Figures, refusal}
use Rattle.roots.specs.inside.Rooted.{cell_price}
use Rattle.asking.specs.Answers.{verdict_with}
use Rattle.schedule.specs.Limits.{max_words}
use Rattle.looking.specs.inside.Looked.{verdict_in}

unfoldable pub told_by : ℕ → Figures
told_by cell = verdict_with (verdict_in cell) 0

-- (Each node costs 1, so the price that a cell tells is a size.)
unfoldable pub found_by : ℕ → Figures
found_by cell =
    cond (ltb max_words (cell_price cell)) (refusal 11) (verdict_with (verdict_in cell) (cell_price cell))
