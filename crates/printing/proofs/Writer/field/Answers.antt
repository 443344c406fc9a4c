-- `printing::Writer::field` meets its contract.
use Rattle.std.proofs.Common.{arith}
use Rattle.printing.proofs.Placing.{puts-length, digits-most, field-put}
use Rattle.printing.proofs.Writer.field.Goals as goal

pub byte-requires : goal.byte-requires
byte-requires c =
    let p = c.decimal.ensures in
    omega (arith, c.requires, puts-length p, digits-most c.ranges.n.fits p)

pub returns : goal.returns
returns c = field-put c.decimal.ensures c.byte.ensures
