-- What reading a text of any bytes answers: 14, 13 with the first wrong line, or the lists,
-- the table and what is asked; and what it leaves in the three buffers.
use Rattle.std.specs.Prelude.{ℕ, ◌<◌, ◌≤◌, ◌≡◌, List, length, take}
use Rattle.schedule.specs.Buffers.{put}
use Rattle.questions.specs.Texts.{Said, Whole, WrongLine}
use Rattle.explain_text.specs.Explained.{max_text}
use Rattle.reading.specs.declared.TextAnswer.{TextAnswer}

-- The letters of each list that are kept, and the entries.
abbrev pub kept_letters : ℕ
kept_letters = 49

abbrev pub kept_entries : ℕ
kept_entries = 33

abbrev pub refused_text : ℕ → ℕ → TextAnswer
refused_text n k = record {
  number = n;
  line = k;
  prefix = 0;
  looped = 0;
  entries = 0;
  entry = 0;
  position = 0;
}

-- What is kept of what a text says, as far as it goes.
abbrev pub read_text : Said → ℕ → ℕ → TextAnswer
read_text s e i = record {
  number = 0;
  line = 0;
  prefix = length (take kept_letters s.prefix);
  looped = length (take kept_letters s.loop);
  entries = length (take kept_entries s.table);
  entry = e;
  position = i;
}

-- A refused text leaves the buffers as found; another one stands at their fronts, the rest as found.
pub data Reads (text prefix prefix_left loop loop_left table table_left : List ℕ)
    (r : TextAnswer) : Type 0 where
  long : max_text < length text → prefix_left ≡ prefix → loop_left ≡ loop → table_left ≡ table
      → r ≡ refused_text 14 0 → Reads text prefix prefix_left loop loop_left table table_left r
  wrong : (line : ℕ) → length text ≤ max_text → WrongLine text line → prefix_left ≡ prefix → loop_left ≡ loop
      → table_left ≡ table → r ≡ refused_text 13 line
      → Reads text prefix prefix_left loop loop_left table table_left r
  read : (s : Said) (entry position lines : ℕ) → length text ≤ max_text → Whole text s entry position lines
      → prefix_left ≡ put 0 (take kept_letters s.prefix) prefix
      → loop_left ≡ put 0 (take kept_letters s.loop) loop
      → table_left ≡ put 0 (take kept_entries s.table) table
      → r ≡ read_text s entry position
      → Reads text prefix prefix_left loop loop_left table table_left r
