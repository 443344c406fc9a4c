-- `wording::write` meets its contract: a refusal of 1 to 8, or what is written from the record's words.
use mathlib.Core.Path.{◌∙◌}
use Rattle.std.proofs.lemmas.Result.{err_from_is_err_and}
use Rattle.asking.proofs.Accepting.{gates-passed}
use Rattle.asking.proofs.Limits.{question-few, work-question, work-room}
use Rattle.wording.proofs.WritingOut.{wrote-refused}
use Rattle.wording.proofs.write.Goals as goal

pub returns-in_err-accept_work : goal.returns-in_err-accept_work
returns-in_err-accept_work c =
    wrote-refused _ _ _ c.in_err-accept_work.was c.accept_work.ensures
    (err_from_is_err_and c.from_residual.result c.from_residual.ensures.1)

pub holding-record-requires : goal.holding-record-requires
holding-record-requires c =
    question-few _ (work-question _ _ (gates-passed c.in_ok-accept_work.was c.accept_work.ensures))

pub invariant_of-write_words : goal.invariant_of-write_words
invariant_of-write_words c =
    let same = c.entries-table.ensures ∙ c.holding-record.ensures.read in
    record {
      tests = rw same (work-question _ _ (gates-passed c.in_ok-accept_work.was c.accept_work.ensures));
    }

pub write_words-requires : goal.write_words-requires
write_words-requires c = work-room _ _ (gates-passed c.in_ok-accept_work.was c.accept_work.ensures)
