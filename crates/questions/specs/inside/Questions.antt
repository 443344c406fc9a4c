-- What reading the text of a question answers.
use Rattle.std.specs.Prelude.{ℕ, ◌≡◌, List, take, length, Result, Ok, Err}
use Rattle.questions.specs.Texts.{Said, Whole, WrongLine}
use Rattle.questions.specs.declared.TextRead.{TextRead}
use Rattle.questions.specs.declared.BadLine.{BadLine}
use Rattle.schedule.specs.Buffers.{put}

-- A whole text: its counts and the question, and the buffers with the first 49 letters of each list and the
-- first 33 entries at their fronts, the places behind them as found.
pub record Understood (text prefix_found prefix_now loop_found loop_now table_found table_now : List ℕ)
    (r : TextRead) : Type 0 where
  pub says : Said
  pub lines : ℕ
  pub whole : Whole text says r.entry r.position lines
  pub prefix : r.prefix ≡ length says.prefix
  pub looped : r.looped ≡ length says.loop
  pub entries : r.entries ≡ length says.table
  pub prefix-kept : prefix_now ≡ put 0 (take 49 says.prefix) prefix_found
  pub loop-kept : loop_now ≡ put 0 (take 49 says.loop) loop_found
  pub table_kept : table_now ≡ put 0 (take 33 says.table) table_found

-- (Where a line is wrong the buffers are left in any state: they are the program's own,
-- and nobody looks at them then.)
abbrev pub QuestionRead : List ℕ → List ℕ → List ℕ → List ℕ → List ℕ → List ℕ → List ℕ
    → Result TextRead BadLine → Type 0
QuestionRead text prefix_found prefix_now loop_found loop_now table_found table_now (Ok r) =
    Understood text prefix_found prefix_now loop_found loop_now table_found table_now r
QuestionRead text prefix_found prefix_now loop_found loop_now table_found table_now (Err e) =
    WrongLine text e.line
