-- The measure of `heights::height`: the entry's index falls at each call.
use Rattle.heights.proofs.+height.Given as goal

abbrev pub decreases-height : goal.decreases-height
decreases-height l = l.entry
