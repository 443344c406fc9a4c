-- `printing::digits` meets its contract: one digit, or the digits before the last and the last.
use Rattle.std.proofs.Common.{arith}
use Rattle.printing.proofs.Placing.{placed-length, nine-digits, digit-placed, longer-placed}
use Rattle.printing.proofs.+digits.Goals as goal

pub returns-then-n-lt10 : goal.returns-then-n-lt10
returns-then-n-lt10 t c = digit-placed c.args.at c.args.n _ c.requires c.if-n-lt10.true

-- what stands before the last digit has room behind it
pub bounds-bytes-next : goal.bounds-bytes-next
bounds-bytes-next t c = omega (
  arith,
  c.requires,
  placed-length c.digits-next.ensures,
  nine-digits c.digits-next.ensures (omega (arith, c.ranges.n.fits)),
)

pub returns : goal.returns
returns t c =
    longer-placed c.args.at c.args.n _ _ c.digits-next.result c.requires
    (omega (arith, c.if-n-lt10.false)) c.ranges.n.fits c.digits-next.ensures
