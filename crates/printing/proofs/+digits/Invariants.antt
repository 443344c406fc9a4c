-- The number falls at each call of `printing::digits` by itself.
use Rattle.printing.proofs.+digits.Given as goal

abbrev pub decreases-digits : goal.decreases-digits
decreases-digits l = l.n
