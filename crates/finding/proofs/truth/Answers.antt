-- `finding::truth` meets its contract: what was looked up, a case a return.
use Rattle.std.proofs.lemmas.Result.{err_from_is_err_and}
use Rattle.finding.proofs.Telling.{looked-refused, looked-told}
use Rattle.finding.proofs.truth.Goals as goal

pub returns-in_err-look_up : goal.returns-in_err-look_up
returns-in_err-look_up c =
    looked-refused c.look_up.ensures c.in_err-look_up.was
    (err_from_is_err_and c.from_residual.result c.from_residual.ensures.1)

pub returns : goal.returns
returns c = looked-told c.look_up.ensures c.in_ok-look_up.was c.told_by.ensures
