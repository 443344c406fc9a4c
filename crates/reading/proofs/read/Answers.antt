-- `reading::read` meets its contract: 14, 13, or what the text says, a law a return.
use Rattle.std.proofs.Common.{arith, refl, rules}
use Rattle.explain_text.proofs.Outputs.{wrong-few}
use Rattle.reading.specs.Reads.{wrong}
use Rattle.reading.proofs.Readings.{reads-copied}
use Rattle.reading.proofs.read.Goals as goal

pub overflow_cast-result : goal.overflow_cast-result
overflow_cast-result c = omega (arith, wrong-few c.in-Err.ensures, c.if-text-gt-MAX_TEXT.false)

pub returns-in-Err : goal.returns-in-Err
returns-in-Err c = wrong _ c.if-text-gt-MAX_TEXT.false c.in-Err.ensures refl refl refl refl

pub returns-in-Ok : goal.returns-in-Ok
returns-in-Ok c =
    reads-copied c.in-Ok.ensures c.if-text-gt-MAX_TEXT.false (search rules) (search rules) (search rules)
    c.copy_from_slice.ensures.after c.copy_from_slice-in-Ok.ensures.after
    c.copy_from_slice-in-Ok-2.ensures.after
