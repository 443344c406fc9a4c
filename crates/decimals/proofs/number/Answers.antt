-- `decimals::number` meets its contract: a law a return, and one a turn.
use Rattle.std.proofs.Common.{arith, subst, ap, sym}
use lib.ListN.{get_or}
use Rattle.decimals.specs.inside.Numbers.{NoDigit}
use Rattle.decimals.proofs.Reading.{digit-first, digit-behind, none-numbered, read-no-digit}
use Rattle.decimals.proofs.Reading.{read_first, read-zero, read-large, read-turn}
use Rattle.decimals.proofs.number.Goals as goal

pub returns-in_err-value : goal.returns-in_err-value
returns-in_err-value c =
    none-numbered c.from_residual-in_err-value.ensures
    (read-no-digit (subst NoDigit (ap (λ l. get_or l 0 0) (sym c.in_ok-first.ensures.cases.0))
    c.in_err-value.ensures))

pub loop-k-init : goal.loop-k-init
loop-k-init c =
    read_first (digit-first c.in_ok-first.ensures.cases.0 c.in_ok-value.ensures)
    (omega arith) c.if-max-value.false

pub returns-then-value-eq0 : goal.returns-then-value-eq0
returns-then-value-eq0 c =
    read-zero c.loop-k.invariant
    (digit-behind c.in_ok-first.ensures.cases.0 c.loop-k-test.true c.in-Some.ensures) (omega arith)

pub returns-in_err-checked_mul : goal.returns-in_err-checked_mul
returns-in_err-checked_mul c =
    none-numbered c.from_residual-in_err-checked_mul.ensures
    (read-large c.loop-k.invariant
    (digit-behind c.in_ok-first.ensures.cases.0 c.loop-k-test.true c.in-Some.ensures)
    (omega (arith, c.in_err-checked_mul.ensures, c.ranges.max.fits)))

pub returns-in_err-value-2 : goal.returns-in_err-value-2
returns-in_err-value-2 c =
    none-numbered c.from_residual-in_err-value-2.ensures
    (read-large c.loop-k.invariant
    (digit-behind c.in_ok-first.ensures.cases.0 c.loop-k-test.true c.in-Some.ensures)
    (omega (arith, c.in_ok-checked_mul.ensures, c.in_err-value-2.ensures, c.ranges.max.fits)))

pub returns-then-max-value-2 : goal.returns-then-max-value-2
returns-then-max-value-2 c =
    read-large c.loop-k.invariant
    (digit-behind c.in_ok-first.ensures.cases.0 c.loop-k-test.true c.in-Some.ensures)
    (omega (arith, c.in_ok-checked_mul.ensures, c.in_ok-value-2.ensures, c.if-max-value-2.true))

pub loop-k-preserved : goal.loop-k-preserved
loop-k-preserved c =
    read-turn c.loop-k.invariant
    (digit-behind c.in_ok-first.ensures.cases.0 c.loop-k-test.true c.in-Some.ensures)
    (omega arith)
    (omega (arith, c.in_ok-checked_mul.ensures, c.in_ok-value-2.ensures)) (omega arith) c.if-max-value-2.false
