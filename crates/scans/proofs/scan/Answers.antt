-- `scans::scan` meets its contract: the laws of its loop.
use Rattle.std.proofs.Common.{arith}
use Rattle.scans.proofs.Scanning.{price-at, scan-none, scan-ends, scan-listed, scan-with, scan-alone}
use Rattle.scans.proofs.Scanning.{scan-turn}
use Rattle.scans.proofs.scan.Goals as goal

pub loop-n-init : goal.loop-n-init
loop-n-init c = scan-none c.requires.2

pub unreachable-requires : goal.unreachable-requires
unreachable-requires c = omega (arith, scan-ends c.loop-n.invariant)

pub overflow_add-list : goal.overflow_add-list
overflow_add-list c = omega (
  arith,
  scan-listed c.loop-n.invariant c.price_at-next.ensures.1 c.listed-list.ensures,
  c.price_at.ensures.1,
)

pub returns-then-list-price_at : goal.returns-then-list-price_at
returns-then-list-price_at c =
    let a = c.args in
    let l = c.loop-n in
    scan-with l.invariant
    (price-at a.cells.work.now a.member a.sought.held a.ahead a.sought.position l.n c.step_from-place.ensures
    c.price_at-next.ensures.0)
    c.listed-list.ensures
    (price-at a.cells.work.now a.witness a.sought.held a.ahead a.sought.position l.n c.step_from-place.ensures
    c.price_at.ensures.0)
    (omega arith)
    c.members.ensures

pub returns-then-list-price : goal.returns-then-list-price
returns-then-list-price c =
    let a = c.args in
    let l = c.loop-n in
    scan-alone l.invariant
    (price-at a.cells.work.now a.member a.sought.held a.ahead a.sought.position l.n c.step_from-place.ensures
    c.price_at-next.ensures.0)
    c.listed-list.ensures
    c.if-list-price.true
    c.members-then-list-price.ensures

pub loop-n-preserved : goal.loop-n-preserved
loop-n-preserved c =
    let a = c.args in
    let l = c.loop-n in
    scan-turn l.invariant
    (price-at a.cells.work.now a.member a.sought.held a.ahead a.sought.position l.n c.step_from-place.ensures
    c.price_at-next.ensures.0)
    c.listed-list.ensures
    (price-at a.cells.work.now a.witness a.sought.held a.ahead a.sought.position l.n c.step_from-place.ensures
    c.price_at.ensures.0)
    c.price_at-next.ensures.1
    (λ met. omega (arith, met))
    c.if-list-price.false
