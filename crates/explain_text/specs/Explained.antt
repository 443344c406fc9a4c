-- What the text program answers to a text of any bytes: 14, 13 with the first wrong line,
-- or what write answers to the question.
use Rattle.std.specs.Prelude.{ℕ, ◌<◌, ◌≤◌, ◌≡◌, List, length, take}
use Rattle.schedule.specs.Figures.{Figures}
use Rattle.asking.specs.Questions.{question}
use Rattle.wording.specs.Wrote.{Wrote}
use Rattle.questions.specs.Texts.{Said, Whole, WrongLine}
use Rattle.rendering.specs.Texts.{Rendered, WrongText, LongText}
use Rattle.printing.specs.Placed.{Placed}

-- The most bytes of a text.
abbrev pub max_text : ℕ
max_text = 8192

-- The output, and what is left in the work slice and the tree buffer.
pub data Output (text work work_left tree tree_left : List ℕ) (bytes : List ℕ) : Type 0 where
  long : max_text < length text → work_left ≡ work → tree_left ≡ tree → LongText bytes
      → Output text work work_left tree tree_left bytes
  wrong : (line : ℕ) → length text ≤ max_text → WrongLine text line → work_left ≡ work → tree_left ≡ tree
      → WrongText line bytes → Output text work work_left tree tree_left bytes
  answered : (s : Said) (entry position lines : ℕ) (r : Figures) → length text ≤ max_text
      → Whole text s entry position lines
      → Wrote (question s.prefix s.loop s.table entry position) work work_left tree tree_left r
      → Rendered r (take r.size tree_left) bytes → Output text work work_left tree tree_left bytes

-- The output stands at the front of its buffer, the rest as found; the answer is how many bytes it has.
abbrev pub Explained : List ℕ → List ℕ → List ℕ → List ℕ → List ℕ → List ℕ → List ℕ → ℕ → Type 0
Explained text work work_left tree tree_left out out_left r =
    Placed (Output text work work_left tree tree_left) 0 out out_left r
