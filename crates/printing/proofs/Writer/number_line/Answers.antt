-- `printing::Writer::number_line` meets its contract.
use Rattle.std.proofs.Common.{arith}
use Rattle.printing.proofs.Placing.{puts-length, text-ends}
use Rattle.printing.proofs.Fields.{number-line-put}
use Rattle.printing.proofs.Writer.number_line.Goals as goal

pub field-requires : goal.field-requires
field-requires c = omega (arith, c.requires, text-ends c.text.ensures, puts-length c.text.ensures)

pub returns : goal.returns
returns c = number-line-put c.text.ensures c.field.ensures
