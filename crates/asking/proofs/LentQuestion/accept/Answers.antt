-- `asking::Question::accept` meets its contract: the lengths' refusal, or the tests behind.
use Rattle.std.proofs.lemmas.Result.{err_from_is_err_and}
use Rattle.asking.specs.Questions.{question_tests}
use Rattle.asking.proofs.Accepting.{gates-front, gates-behind}
use Rattle.asking.proofs.LentQuestion.accept.Goals as goal

pub returns-in_err-new : goal.returns-in_err-new
unfolding question_tests
returns-in_err-new c =
    gates-front _ _ c.in_err-new.ensures
    (err_from_is_err_and c.from_residual.result c.from_residual.ensures.1)

pub returns : goal.returns
unfolding question_tests
returns c = gates-behind c.in_ok-new.ensures.0 c.accept_table.ensures
