-- What check answers: a refusal, the verdict of a valid tree, or the place where the
-- words break off from being one.
use Rattle.std.specs.Prelude.{ℕ, List, [], ◌∷◌, map, get_or}
use Rattle.schedule.specs.Figures.{Figures}
use Rattle.schedule.specs.Tests.{AllPass, FirstFails}
use Rattle.trees.specs.Nodes.{node_of}
use Rattle.trees.specs.Trees.{Tree}
use Rattle.trees.specs.Place.{Breaks}
use Rattle.trees.specs.Verdicts.{claimed_by}
use Rattle.trees.specs.declared.Verdict.{Verdict}
use Rattle.asking.specs.Answers.{broken_at, verdict_with}
use Rattle.asking.specs.Questions.{Question, frame_in, claim_in, check_tests}

-- Of words that are judged: the verdict of a valid tree, with size 0, or 9 with the place.
-- The root's rule fixes the claimed verdict.
pub data Judgement (q : Question) (words : List ℕ) : Figures → Type 0 where
  valid : (v : Verdict) → Tree (frame_in q) (claim_in q v) (map node_of words)
      → Judgement q words (verdict_with v 0)
  broken : (p : ℕ)
      → Breaks (frame_in q) (claim_in q (claimed_by (get_or words 0 0)) ∷ []) (map node_of words) p
      → Judgement q words (broken_at p)

pub data Checked (q : Question) (words : List ℕ) (r : Figures) : Type 0 where
  refused : FirstFails (check_tests q words) r → Checked q words r
  judged : AllPass (check_tests q words) → Judgement q words r → Checked q words r
