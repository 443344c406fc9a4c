-- `explain_text::explain` meets its contract: 14, 13, or what write answers to the question, a law a return.
use Rattle.std.proofs.Common.{arith, rules}
use Rattle.explain_text.proofs.Outputs.{wrong-few, wrote-few, output-long, output-wrong, output-answered}
use Rattle.explain_text.proofs.explain.Goals as goal

pub returns-then-text-gt-MAX_TEXT : goal.returns-then-text-gt-MAX_TEXT
returns-then-text-gt-MAX_TEXT c = output-long (omega arith) c.long_text.ensures

pub wrong_text-requires : goal.wrong_text-requires
wrong_text-requires c = omega (arith, wrong-few c.in-Err.ensures, c.if-text-gt-MAX_TEXT.false)

pub returns-in-Err : goal.returns-in-Err
returns-in-Err c = output-wrong c.if-text-gt-MAX_TEXT.false c.in-Err.ensures c.wrong_text.ensures

pub rendered-requires : goal.rendered-requires
rendered-requires c = wrote-few c.write-outcome.result c.write-outcome.ensures

pub returns-in-Ok : goal.returns-in-Ok
returns-in-Ok c =
    output-answered c.if-text-gt-MAX_TEXT.false c.in-Ok.ensures (search rules) (search rules) (search rules)
    c.write-outcome.ensures c.rendered.ensures
