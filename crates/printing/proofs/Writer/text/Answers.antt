-- `printing::Writer::text` meets its contract.
use Rattle.std.proofs.Common.{refl, arith}
use Rattle.printing.proofs.Placing.{copy-placed}
use Rattle.printing.proofs.Writer.text.Goals as goal

pub returns : goal.returns
returns c = record {
  same = refl;
  placed = copy-placed _ _ _ _ _ c.requires (omega arith) c.copy_from_slice.ensures.after;
}
