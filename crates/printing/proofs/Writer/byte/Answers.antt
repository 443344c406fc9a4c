-- `printing::Writer::byte` meets its contract.
use Rattle.std.proofs.Common.{refl}
use Rattle.printing.proofs.Placing.{placed_one}
use Rattle.printing.proofs.Writer.byte.Goals as goal

pub returns : goal.returns
returns c = record { same = refl; placed = placed_one _ _ _ c.requires }
