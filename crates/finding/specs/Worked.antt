-- What the entry points that work in a lent slice have in common: which questions they answer,
-- and what they leave in the slice.
use Rattle.std.specs.Prelude.{ℕ, ◌≡◌, List, length}
use Rattle.schedule.specs.Figures.{Figures}
use Rattle.schedule.specs.Tests.{AllPass, FirstFails}
use Rattle.schedule.specs.Buffers.{cleared}
use Rattle.asking.specs.Questions.{Question, work_tests}

-- Refusals 1 to 8 leave the work slice as found; what is answered after them leaves it cleared.
pub data Worked (q : Question) (found left : List ℕ) (Answered : Figures → Type 0)
    (r : Figures) : Type 0 where
  refused : FirstFails (work_tests q (length found)) r → left ≡ found → Worked q found left Answered r
  answered : AllPass (work_tests q (length found)) → left ≡ cleared found → Answered r
      → Worked q found left Answered r
