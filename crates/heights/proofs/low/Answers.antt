-- `heights::low` meets its contract.
use Rattle.std.proofs.Common.{rules}
use Rattle.rules.specs.Low.{low_at}
use Rattle.heights.proofs.low.Goals as goal

pub returns : goal.returns
unfolding low_at
returns c = search rules
