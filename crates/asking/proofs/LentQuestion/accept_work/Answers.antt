-- `asking::Question::accept_work` meets its contract: a question that is refused already, or the test behind.
use Rattle.std.proofs.lemmas.Result.{err_from_is_err_and}
use Rattle.asking.specs.Questions.{work_tests}
use Rattle.asking.proofs.Accepting.{gates-behind, gates-passed, gates-still}
use Rattle.asking.proofs.LentQuestion.accept_work.Goals as goal

pub returns-in_err-accept : goal.returns-in_err-accept
unfolding work_tests
returns-in_err-accept c =
    gates-still _ _ c.in_err-accept.was c.accept.ensures
    (err_from_is_err_and c.from_residual.result c.from_residual.ensures.1)

pub returns : goal.returns
unfolding work_tests
returns c = gates-behind (gates-passed c.in_ok-accept.was c.accept.ensures) c.accept_length.ensures
