-- `looking::look_words` meets its contract: the filling and the clearing.
use Rattle.asking.proofs.Limits.{work-passes}
use Rattle.looking.proofs.Looking.{looked-cell}
use Rattle.looking.proofs.look_words.Goals as goal

pub returns : goal.returns
returns c =
    looked-cell _ _ _ (work-passes _ c.args.passed.tests c.requires) c.filled-cell.ensures c.clear.ensures
