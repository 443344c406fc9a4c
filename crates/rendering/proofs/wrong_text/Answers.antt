-- `rendering::wrong_text` meets its contract.
use Rattle.std.proofs.Common.{ap, length, arith}
use Rattle.printing.proofs.Placing.{puts-length, puts-front}
use Rattle.printing.proofs.Fields.{number-line-most}
use Rattle.rendering.proofs.Answering.{wrong-put}
use Rattle.rendering.proofs.wrong_text.Goals as goal

pub number_line-requires-2 : goal.number_line-requires-2
number_line-requires-2 c =
    let p = c.number_line.ensures in
    omega (arith, ap length c.at_front-output.ensures.bytes, puts-length p, number-line-most p (omega arith))

pub returns : goal.returns
returns c =
    puts-front _ _ c.at_front-output.ensures.bytes c.at_front-output.ensures.at
    (wrong-put c.number_line.ensures c.number_line-2.ensures)
