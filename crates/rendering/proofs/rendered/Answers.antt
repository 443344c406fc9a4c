-- `rendering::rendered` meets its contract.
use Rattle.std.proofs.Common.{ap, length, length-take, arith}
use Rattle.printing.proofs.Placing.{puts-length, puts-front}
use Rattle.printing.proofs.Fields.{number-line-most}
use Rattle.rendering.proofs.Answering.{refused-put, judged-put}
use Rattle.rendering.proofs.rendered.Goals as goal
use Rattle.rendering.proofs.rendered.Goals.{in-Err, in-Ok}

pub number_line-requires-in-Ok : goal.number_line-requires-in-Ok
number_line-requires-in-Ok c =
    let v = c.verdict_line.ensures in
    let made = c.at_front-output.ensures in
    omega (arith, made.at, ap length made.bytes, v.short, puts-length v.line)

pub node_lines-requires : goal.node_lines-requires
node_lines-requires c =
    let few = rw c.in-Ok.is at c.requires in
    let v = c.verdict_line.ensures in
    let s = c.number_line-in-Ok.ensures in
    omega (
      arith,
      few.0,
      length-take c.in-Ok.judged.size c.args.tree.now,
      c.at_front-output.ensures.at,
      ap length c.at_front-output.ensures.bytes,
      v.short,
      puts-length v.line,
      number-line-most s (omega (arith, few.0)),
      puts-length s,
    )

pub returns : goal.returns
returns c =
    let new = c.at_front-output in
    puts-front new.result c.match-outcome.output new.ensures.bytes new.ensures.at
    (elim c.match-outcome.branch [
      | in-Err w ↦
          rw (w.in-Err.is, w.output-is) (refused-put _ _ (rw w.from.ensures at w.number_line.ensures))
      | in-Ok w ↦
          rw (w.in-Ok.is, w.output-is)
          (judged-put _ _ w.verdict_line.ensures.line w.number_line-in-Ok.ensures w.node_lines.ensures)
    ])
