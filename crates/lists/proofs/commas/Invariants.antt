-- What the loop of `lists::commas` keeps: numbers are read up to a comma, and what is left decides the rest.
use Rattle.std.proofs.Common.{length}
use Rattle.lists.proofs.Going.{Going}
use Rattle.lists.proofs.commas.Given as goal

abbrev pub invariant-loop-numeral : goal.invariant-loop-numeral
invariant-loop-numeral l = Going l.fn.max l.text l.initial.keep l.left l.count l.keep

abbrev pub decreases-loop-numeral : goal.decreases-loop-numeral
decreases-loop-numeral l = length l.left
