-- The text of an answer, as bytes.
use Rattle.std.specs.Prelude.{ℕ, ◌≤◌, ◌≡◌, List, [], ◌∷◌, ◌++◌}
use Rattle.schedule.specs.Figures.{Figures}
use Rattle.trees.specs.Nodes.{node_of}
use Rattle.decimals.specs.Decimals.{comma, newline}
use Rattle.printing.specs.Fields.{Field, NumberLine}

-- "refused="
abbrev pub refused_is : List ℕ
refused_is = 114 ∷ 101 ∷ 102 ∷ 117 ∷ 115 ∷ 101 ∷ 100 ∷ 61 ∷ []

-- "line="
abbrev pub line_is : List ℕ
line_is = 108 ∷ 105 ∷ 110 ∷ 101 ∷ 61 ∷ []

-- "verdict="
abbrev pub verdict_is : List ℕ
verdict_is = 118 ∷ 101 ∷ 114 ∷ 100 ∷ 105 ∷ 99 ∷ 116 ∷ 61 ∷ []

-- "holds"
abbrev pub holds_text : List ℕ
holds_text = 104 ∷ 111 ∷ 108 ∷ 100 ∷ 115 ∷ []

-- "violated"
abbrev pub violated_text : List ℕ
violated_text = 118 ∷ 105 ∷ 111 ∷ 108 ∷ 97 ∷ 116 ∷ 101 ∷ 100 ∷ []

-- "size="
abbrev pub size_is : List ℕ
size_is = 115 ∷ 105 ∷ 122 ∷ 101 ∷ 61 ∷ []

-- "node="
abbrev pub node_is : List ℕ
node_is = 110 ∷ 111 ∷ 100 ∷ 101 ∷ 61 ∷ []

-- The line of a tree's word: rule, atom, number.
pub data NodeLine (word : ℕ) : List ℕ → Type 0 where
  node_line : {rs bs ns : List ℕ} → Field (node_of word).rule comma rs → Field (node_of word).atom comma bs
      → Field (node_of word).number newline ns → NodeLine word (node_is ++ (rs ++ (bs ++ ns)))

-- A line a word, in order.
pub data NodeLines : List ℕ → List ℕ → Type 0 where
  none : NodeLines [] []
  more : {w : ℕ} {ws line lines : List ℕ} → NodeLine w line → NodeLines ws lines
      → NodeLines (w ∷ ws) (line ++ lines)

-- The line of a verdict, 1 or 2.
pub data VerdictLine (v : ℕ) : List ℕ → Type 0 where
  holds : v ≡ 1 → VerdictLine v (verdict_is ++ (holds_text ++ (newline ∷ [])))
  violated : v ≡ 2 → VerdictLine v (verdict_is ++ (violated_text ++ (newline ∷ [])))

-- An answer and the words of its tree: the one line of a refusal, or verdict, size and tree.
-- (13 has a second line, see below.)
pub data Rendered (f : Figures) (words : List ℕ) : List ℕ → Type 0 where
  refused : {bs : List ℕ} → 1 ≤ f.number → ¬ (f.number ≡ 13) → NumberLine refused_is f.number bs
      → Rendered f words bs
  judged : {vs ss ls : List ℕ} → f.number ≡ 0 → VerdictLine f.verdict vs → NumberLine size_is f.size ss
      → NodeLines words ls → Rendered f words (vs ++ (ss ++ ls))

-- Refusal 13, with its line.
pub data WrongText (line : ℕ) : List ℕ → Type 0 where
  wrong_text : {rs ls : List ℕ} → NumberLine refused_is 13 rs → NumberLine line_is line ls
      → WrongText line (rs ++ ls)

-- Refusal 14.
abbrev pub LongText : List ℕ → Type 0
LongText = NumberLine refused_is 14
