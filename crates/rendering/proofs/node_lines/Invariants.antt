-- What the loop of `rendering::node_lines` keeps: the lines of the words passed stand behind one another.
use Rattle.rendering.proofs.Lines.{Lined}
use Rattle.rendering.proofs.node_lines.Given as goal

abbrev pub invariant-loop-word : goal.invariant-loop-word
invariant-loop-word l = Lined l.tree l.word-index l.initial.output l.output
