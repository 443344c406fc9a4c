-- What a question that passes its tests is known to be.
use mathlib.Core.Path.{◌≡◌}
use mathlib.Core.Bool.{true}
use mathlib.Core.List.{◌++◌}
use Prim.Native.Nat.{ℕ, ◌+◌, ◌<◌, ◌≤◌}
use borrow.Author.Tests.{leb-true, ltb-true, le-leb}
use lib.Dec.{leb, ltb}
use lib.ListN.{length}
use Rattle.schedule.specs.Limits.{max_letters, max_entries, max_position, work_length}
use Rattle.schedule.specs.Tests.{AllPass, none, also}
use Rattle.schedule.specs.Lengths.{length_tests}
use Rattle.schedule.proofs.Tests.{passes-front, passes-behind, passes-both}
use Rattle.rules.specs.Low.{low_all}
use Rattle.schedule.proofs.Tests.{and_both}
use Rattle.asking.specs.Questions.{Question, table_tests, question_tests, length_test, work_tests}

-- What each of the tests lets pass.
pub record Passes (q : Question) : Type 0 where
  pub loop : 0 < length q.loop
  pub letters : length q.prefix + length q.loop ≤ max_letters
  pub few : length q.table ≤ max_entries
  pub low : low_all q.table ≡ true
  pub inside : q.entry < length q.table
  pub near : q.position ≤ max_position

passes-all : (q : Question)
    → AllPass
    (length_tests (length q.prefix) (length q.loop) ++ table_tests q.table q.entry q.position)
    → Passes q
passes-all q (also loop (also letters (also count (also kept (also low (also inside (also near none))))))) =
    record {
      loop = ltb-true 0 (length q.loop) loop;
      letters = leb-true (length q.prefix + length q.loop) max_letters letters;
      few = leb-true (length q.table) max_entries
          (and_both (ltb 0 (length q.table)) (leb (length q.table) max_entries) count).1;
      low = low;
      inside = ltb-true q.entry (length q.table) inside;
      near = leb-true q.position max_position near;
    }

module _ (q : Question) (passed : AllPass (question_tests q)) where
  pub question-passes : Passes q
  unfolding question_tests
  question-passes = passes-all q passed

  pub question-loop : 0 < length q.loop
  question-loop = question-passes.loop

  pub question-few : length q.table ≤ max_entries
  question-few = question-passes.few

-- With room to work in.
pub work-passes : (q : Question) {len : ℕ} → AllPass (question_tests q) → work_length ≤ len
    → AllPass (work_tests q len)
unfolding work_tests
work-passes q passed room = passes-both passed (also (le-leb _ _ room) none)

module _ (q : Question) (len : ℕ) (passed : AllPass (work_tests q len)) where
  pub work-question : AllPass (question_tests q)
  unfolding work_tests
  work-question = passes-front (length_test len) (question_tests q) passed

  pub work-room : work_length ≤ len
  unfolding work_tests
  work-room = long (passes-behind (length_test len) (question_tests q) passed)
    where
      long : AllPass (length_test len) → work_length ≤ len
      long (also room none) = leb-true work_length len room

  pub work-loop : 0 < length q.loop
  work-loop = question-loop q work-question

  pub work-near : q.position ≤ max_position
  work-near = (question-passes q work-question).near
