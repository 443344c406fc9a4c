-- What find answers: a refusal, 11 where no tree is small enough, or the verdict
-- and the size of the least tree.
use Rattle.std.specs.Prelude.{ℕ, ◌<◌, ◌≤◌, List, length}
use Rattle.schedule.specs.Figures.{Figures, refusal}
use Rattle.trees.specs.declared.Node.{Node}
use Rattle.trees.specs.Trees.{Tree}
use Rattle.trees.specs.Least.{ones, Least}
use Rattle.trees.specs.declared.Verdict.{Verdict}
use Rattle.asking.specs.Answers.{verdict_with}
use Rattle.asking.specs.Questions.{Question, frame_in, formula_in, claim_in}
use Rattle.schedule.specs.Limits.{max_words}
use Rattle.finding.specs.Worked.{Worked}

-- The least tree of what is asked: each node costs 1.
abbrev pub LeastIn : Question → List Node → Type 0
LeastIn q ws = Least ones (frame_in q) (formula_in q) q.position ws

-- Every valid tree, of either verdict, has more than 4,095 nodes.
pub record AllLarge (q : Question) : Type 0 where
  pub large : (s : Verdict) (ws : List Node) → Tree (frame_in q) (claim_in q s) ws → max_words < length ws

pub data LeastSize (q : Question) : Figures → Type 0 where
  too_large : AllLarge q → LeastSize q (refusal 11)
  least : {ws : List Node} → (l : LeastIn q ws) → length ws ≤ max_words
      → LeastSize q (verdict_with l.verdict (length ws))

-- The work slice is found and left.
abbrev pub Found : Question → List ℕ → List ℕ → Figures → Type 0
Found q found left r = Worked q found left (LeastSize q) r
