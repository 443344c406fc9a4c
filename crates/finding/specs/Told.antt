-- What truth answers: a refusal, or the verdict of the meaning, with size 0.
use Rattle.std.specs.Prelude.{List, ℕ}
use Rattle.schedule.specs.Figures.{Figures}
use Rattle.trees.specs.declared.Verdict.{Verdict}
use Rattle.trees.specs.Means.{Means}
use Rattle.asking.specs.Answers.{verdict_with}
use Rattle.asking.specs.Questions.{Question, word_in, claim_in}
use Rattle.finding.specs.Worked.{Worked}

pub data Meaning (q : Question) : Figures → Type 0 where
  meant : (v : Verdict) → Means (word_in q) (claim_in q v) → Meaning q (verdict_with v 0)

-- The work slice is found and left.
abbrev pub Told : Question → List ℕ → List ℕ → Figures → Type 0
Told q found left r = Worked q found left (Meaning q) r
