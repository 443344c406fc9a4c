-- `wording::write_words` meets its contract: the filling, what is written out of it, and the clearing.
use Rattle.asking.proofs.Limits.{work-passes}
use Rattle.wording.proofs.WritingOut.{wrote-out}
use Rattle.wording.proofs.write_words.Goals as goal

pub returns : goal.returns
returns c =
    wrote-out _ _ _ (work-passes _ c.args.passed.tests c.requires) c.filled-cell.ensures c.clear.ensures
    c.write_out-outcome.ensures
