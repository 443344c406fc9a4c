-- `asking::accept_length` meets its contract.
use borrow.Author.Tests.{le-leb, lt-leb}
use Rattle.schedule.specs.Tests.{none, also, here}
use Rattle.asking.specs.inside.Gates.{shuts, lets_by}
use Rattle.asking.proofs.accept_length.Goals as goal

pub returns-then-work-lt-WORK_LENGTH : goal.returns-then-work-lt-WORK_LENGTH
returns-then-work-lt-WORK_LENGTH c = shuts (here (lt-leb _ _ c.if-work-lt-WORK_LENGTH.true))

pub returns : goal.returns
returns c = lets_by (also (le-leb _ _ c.if-work-lt-WORK_LENGTH.false) none)
