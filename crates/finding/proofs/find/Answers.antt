-- `finding::find` meets its contract: what was looked up, a case a return.
use Rattle.std.proofs.lemmas.Result.{err_from_is_err_and}
use Rattle.finding.proofs.Telling.{looked-refused, looked-found}
use Rattle.finding.proofs.find.Goals as goal

pub returns-in_err-look_up : goal.returns-in_err-look_up
returns-in_err-look_up c =
    looked-refused c.look_up.ensures c.in_err-look_up.was
    (err_from_is_err_and c.from_residual.result c.from_residual.ensures.1)

pub returns : goal.returns
returns c = looked-found c.look_up.ensures c.in_ok-look_up.was c.found_by.ensures
