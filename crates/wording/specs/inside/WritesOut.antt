-- What write answers past refusal 8, from a filled slice.
use Rattle.std.specs.Prelude.{ℕ, ◌≡◌, List}
use Rattle.schedule.specs.Figures.{Figures}
use Rattle.asking.specs.Questions.{Question}
use Rattle.wording.specs.Wrote.{Written}

-- The answer of a question that is past refusal 8, and what it leaves in the tree buffer.
pub record WritesOut (q : Question) (tree left : List ℕ) (r : Figures) : Type 0 where
  pub answer : Written q tree left r
  pub untouched : (r.number ≡ 0 → ⊥) → left ≡ tree
