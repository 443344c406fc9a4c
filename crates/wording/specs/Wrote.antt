-- What write answers and leaves in the tree buffer: as find, and 12 where the buffer is too short,
-- else the words of the least tree.
use Rattle.std.specs.Prelude.{ℕ, ◌<◌, ◌≤◌, ◌≡◌, List, map, length}
use Rattle.schedule.specs.Figures.{Figures, refusal}
use Rattle.trees.specs.Nodes.{node_of}
use Rattle.trees.specs.declared.Node.{Node}
use Rattle.asking.specs.Answers.{verdict_with}
use Rattle.asking.specs.Questions.{Question}
use Rattle.schedule.specs.Limits.{max_words}
use Rattle.finding.specs.Worked.{Worked}
use Rattle.finding.specs.Found.{LeastIn, AllLarge}
use Rattle.schedule.specs.Buffers.{put}

-- The tree buffer is found and left.
pub data Written (q : Question) (tree left : List ℕ) : Figures → Type 0 where
  unwritten : AllLarge q → Written q tree left (refusal 11)
  too_short : {ws : List Node} → LeastIn q ws → length ws ≤ max_words → length tree < length ws
      → Written q tree left (refusal 12)
  written : (words : List ℕ) (l : LeastIn q (map node_of words)) → length words ≤ max_words
      → length words ≤ length tree → left ≡ put 0 words tree
      → Written q tree left (verdict_with l.verdict (length words))

-- A refusal of whatever number leaves the tree buffer as found.
pub record Wrote (q : Question) (found left tree tree_left : List ℕ) (r : Figures) : Type 0 where
  pub answer : Worked q found left (Written q tree tree_left) r
  pub untouched : (r.number ≡ 0 → ⊥) → tree_left ≡ tree
