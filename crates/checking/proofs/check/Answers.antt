-- `checking::check` meets its contract: the question's refusal, or what the words are judged to be.
use mathlib.Core.Path.{◌∙◌}
use Rattle.std.proofs.lemmas.Result.{err_from_is_err_and}
use Rattle.asking.proofs.Accepting.{gates-passed}
use Rattle.asking.proofs.Limits.{question-few}
use Rattle.checking.proofs.Judging.{checked-refused}
use Rattle.checking.proofs.check.Goals as goal

pub returns-in_err-accept : goal.returns-in_err-accept
returns-in_err-accept c =
    checked-refused _ _ c.in_err-accept.was c.accept.ensures
    (err_from_is_err_and c.from_residual.result c.from_residual.ensures.1)

pub holding-record-requires : goal.holding-record-requires
holding-record-requires c = question-few _ (gates-passed c.in_ok-accept.was c.accept.ensures)

pub invariant_of-judge : goal.invariant_of-judge
invariant_of-judge c =
    let same = c.entries-table.ensures ∙ c.holding-record.ensures.read in
    record { tests = rw same (gates-passed c.in_ok-accept.was c.accept.ensures) }
