-- A question that is not refused has exactly one verdict: it is the meaning's, some valid tree has it,
-- and every valid tree has it.
use mathlib.Core.Path.{◌≡◌}
use mathlib.Core.Logic.{by_cases}
use mathlib.Core.List.{List}
use Rattle.schedule.specs.Tests.{AllPass}
use Rattle.trees.specs.declared.Node.{Node}
use Rattle.trees.specs.Trees.{Tree}
use Rattle.trees.specs.Means.{Means}
use Rattle.trees.specs.declared.Verdict.{Verdict}
use Rattle.trees.specs.declared.Verdict.TheVariants.{Holds, Violated}
use Rattle.theory.proofs.Words.{schedule-repeats}
use Rattle.theory.proofs.Decided.{decided}
use Rattle.theory.proofs.Complete.{schedule-complete}
use Rattle.theory.proofs.Sound.{schedule-sound}
use Rattle.asking.specs.Questions.{Question, question_tests, word_in, frame_in, formula_in, claim_in}
use Rattle.asking.proofs.Limits.{question-loop}
use Rattle.finding.proofs.DeterminedTold.{means-one}

pub record OneVerdict (q : Question) : Type 0 where
  pub verdict : Verdict
  -- it is the meaning's over the endless word, and no other is
  pub meant : Means (word_in q) (claim_in q verdict)
  pub only : (v : Verdict) → Means (word_in q) (claim_in q v) → v ≡ verdict
  -- some valid tree has it
  pub proved : (ws : List Node) × Tree (frame_in q) (claim_in q verdict) ws
  -- every valid tree has it, however large it is and however far off its witnesses
  pub every : (v : Verdict) (ws : List Node) → Tree (frame_in q) (claim_in q v) ws → v ≡ verdict

module _ (q : Question) (passed : AllPass (question_tests q)) where
  verdict-one : (v : Verdict) → Means (word_in q) (claim_in q v) → OneVerdict q
  verdict-one v m =
      let some = question-loop q passed in
      let only : (w : Verdict) → Means (word_in q) (claim_in q w) → w ≡ v
      = λ w n. means-one (word_in q) (formula_in q) q.position w v n m in
      record {
        verdict = v;
        meant = m;
        only = only;
        proved = schedule-complete q.prefix q.loop some (claim_in q v) m;
        every = λ w ws t. only w (schedule-sound q.prefix q.loop some t);
      }

  pub question-one-verdict : OneVerdict q
  question-one-verdict =
      by_cases
      (decided (schedule-repeats q.prefix q.loop (question-loop q passed)) (formula_in q) q.position)
      (verdict-one Holds) (verdict-one Violated)
