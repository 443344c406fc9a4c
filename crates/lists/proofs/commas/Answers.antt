-- `lists::commas` meets its contract: a law a return, and one a turn.
use Rattle.std.proofs.Common.{arith}
use Rattle.lists.specs.inside.Lists.{Lists}
use Rattle.lists.proofs.Keyed.{none-listed}
use Rattle.lists.proofs.Going.{go-none, go-wrong, go-end, go-other, go-done, go-turn, part-none, part-more}
use Rattle.lists.proofs.commas.Goals as goal

pub loop-numeral-init : goal.loop-numeral-init
loop-numeral-init c = go-none

pub returns-in_err-numeral : goal.returns-in_err-numeral
returns-in_err-numeral c =
    none-listed _ _ _ _ _ c.from_residual.ensures
    (go-wrong c.loop-numeral.invariant c.in_err-numeral.ensures)

pub returns-in_err-end : goal.returns-in_err-end
returns-in_err-end c =
    none-listed _ _ _ _ _ c.from_residual-in_err-end.ensures
    (go-end c.loop-numeral.invariant c.in_ok-numeral.ensures (part-none _ _ c.in_err-end.ensures.lookup.3))

pub returns-in-10 : goal.returns-in-10
unfolding Lists
returns-in-10 c =
    let found = c.in_ok-end.ensures.lookup.3 in
    go-done c.loop-numeral.invariant c.in_ok-numeral.ensures (part-more _ _ _ found.0 (found.1 0))
    c.store.ensures c.in-10.is

pub returns-in_default : goal.returns-in_default
unfolding Lists
returns-in_default c =
    let found = c.in_ok-end.ensures.lookup.3 in
    go-other c.loop-numeral.invariant c.in_ok-numeral.ensures (part-more _ _ _ found.0 (found.1 0))
    (λ e. omega arith) (λ e. omega arith)

pub loop-numeral-preserved : goal.loop-numeral-preserved
loop-numeral-preserved c =
    let found = c.in_ok-end.ensures.lookup.3 in
    go-turn c.loop-numeral.invariant c.in_ok-numeral.ensures (part-more _ _ _ found.0 (found.1 0))
    c.store.ensures c.in-44.is
