-- `rendering::verdict_line` meets its contract.
use Rattle.std.proofs.Common.{arith}
use Rattle.printing.proofs.Placing.{puts-length, text-ends}
use Rattle.rendering.proofs.Lines.{holds-put, violated-put}
use Rattle.rendering.proofs.verdict_line.Goals as goal

pub text-requires-in-Holds : goal.text-requires-in-Holds
text-requires-in-Holds c = omega (arith, c.requires, text-ends c.text.ensures, puts-length c.text.ensures)

pub text-requires-in-Violated : goal.text-requires-in-Violated
text-requires-in-Violated c = omega (arith, c.requires, text-ends c.text.ensures, puts-length c.text.ensures)

pub returns-in-Holds-clause-line : goal.returns-in-Holds-clause-line
returns-in-Holds-clause-line c = rw c.in-Holds.is (holds-put c.text.ensures c.text-in-Holds.ensures)

pub returns-in-Violated-clause-line : goal.returns-in-Violated-clause-line
returns-in-Violated-clause-line c =
    rw c.in-Violated.is (violated-put c.text.ensures c.text-in-Violated.ensures)
