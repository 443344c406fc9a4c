-- `rendering::node_lines` meets its contract: a law at the start, and one a turn.
use Rattle.std.proofs.Common.{arith}
use Rattle.rendering.proofs.Lines.{lined-none, lined-room, lined-more}
use Rattle.rendering.proofs.node_lines.Goals as goal

pub loop-word-init : goal.loop-word-init
loop-word-init c = lined-none _ _ (omega (arith, c.requires))

pub node_line-requires : goal.node_line-requires
node_line-requires c = lined-room c.loop-word.invariant c.loop-word-test.true c.requires

pub loop-word-preserved : goal.loop-word-preserved
loop-word-preserved c =
    lined-more c.loop-word.invariant c.loop-word-test.true c.node_line.ensures.line c.node_line.ensures.short
