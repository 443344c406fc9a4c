-- A question, what it asks about, and the tests that it is put to: the refusals in their order.
use Rattle.std.specs.Prelude.{ℕ, ◌&&◌, List, [], ◌∷◌, ◌++◌, leb, ltb, length}
use Rattle.schedule.specs.Limits.{max_entries, max_position, max_words, work_length}
use Rattle.schedule.specs.Letters.{letter_at}
use Rattle.schedule.specs.Tests.{Test, test}
use Rattle.schedule.specs.Lengths.{length_tests}
use Rattle.rules.specs.Formula.{Formula}
use Rattle.rules.specs.Tables.{formula_of, keeps_all}
use Rattle.rules.specs.Low.{low_all}
use Rattle.trees.specs.Rules.{Frame, Claim, claim}
use Rattle.trees.specs.Frames.{schedule_frame}
use Rattle.trees.specs.declared.Verdict.{Verdict}
use Rattle.asking.specs.declared.LentQuestion.{LentQuestion}

-- A schedule of two lists, a table of words, an entry of it and a position.
pub record Question : Type 0 where
  pub prefix : List ℕ
  pub loop : List ℕ
  pub table : List ℕ
  pub entry : ℕ
  pub position : ℕ

abbrev pub question : List ℕ → List ℕ → List ℕ → ℕ → ℕ → Question
question prefix loop table e i =
    record { prefix = prefix; loop = loop; table = table; entry = e; position = i }

-- The question of lists that are lent.
abbrev pub question_of : LentQuestion → Question
question_of q = question q.letters.prefix.now q.letters.looped.now q.table.now q.entry q.position

-- The schedule's word, what the rules ask of it, and the asked formula.
abbrev pub word_in : Question → ℕ → ℕ
word_in q = letter_at q.prefix q.loop

abbrev pub frame_in : Question → Frame
frame_in q = schedule_frame q.prefix q.loop

abbrev pub formula_in : Question → Formula
formula_in q = formula_of q.table q.entry

-- That the asked entry has a verdict at the asked position.
abbrev pub claim_in : Question → Verdict → Claim
claim_in q v = claim (formula_in q) q.position v

-- 3 by the number of entries, 4 if one breaks the kind table, 5 if one is too high, 6 and 7 by what is asked.
abbrev pub table_tests : List ℕ → ℕ → ℕ → List Test
table_tests table e i =
    test 3 (ltb 0 (length table) && leb (length table) max_entries)
    ∷ test 4 (keeps_all table)
    ∷ test 5 (low_all table)
    ∷ test 6 (ltb e (length table))
    ∷ test 7 (leb i max_position)
    ∷ []

-- 1 and 2 by the lengths of prefix and loop come before.
unfoldable pub question_tests : Question → List Test
question_tests q =
    length_tests (length q.prefix) (length q.loop) ++ table_tests q.table q.entry q.position

-- Refusals 1 to 7, then 10 for more words than a tree may have.
unfoldable pub check_tests : Question → List ℕ → List Test
check_tests q words = question_tests q ++ (test 10 (leb (length words) max_words) ∷ [])

-- 8 by the length of the work slice.
abbrev pub length_test : ℕ → List Test
length_test len = test 8 (leb work_length len) ∷ []

-- Refusals 1 to 7 come before.
unfoldable pub work_tests : Question → ℕ → List Test
work_tests q len = question_tests q ++ length_test len
