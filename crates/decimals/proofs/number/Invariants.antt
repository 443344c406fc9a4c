-- What the loop of `decimals::number` keeps: the digits passed make the number so far.
use Rattle.std.proofs.Common.{◌+◌}
use Rattle.decimals.proofs.Reading.{Reading}
use Rattle.decimals.proofs.number.Given as goal

abbrev pub invariant-loop-k : goal.invariant-loop-k
invariant-loop-k l = Reading l.text 0 l.max (1 + l.k) l.value
