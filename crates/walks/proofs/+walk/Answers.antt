-- `walks::walk` meets its contract, the entry's index falling at each call.
use Rattle.std.proofs.Common.{arith, ap}
use lib.ListN.{length-map}
use Rattle.std.proofs.lemmas.Result.{err_from_is_err_and}
use Rattle.rules.specs.Tables.{formula_of}
use Rattle.trees.specs.Nodes.{node_of}
use Rattle.trees.specs.Rules.{claim}
use Rattle.trees.specs.inside.Lent.{frame_of}
use Rattle.walks.proofs.Standing.{missing-word, wrong-node, leaf, may-be-counted, asked, standing, all-passed}
use Rattle.walks.proofs.Standing.{within-reach, broken, passed-part}
use Rattle.walks.proofs.+walk.Goals as goal

pub returns-in_default : goal.returns-in_default
returns-in_default t c =
    missing-word c.args.tree.now c.args.place (frame_of c.args.letters.now)
    (claim (formula_of c.args.table.now c.args.entry) c.args.position c.args.needed)
    c.requires.1 c.in_default.ensures.lookup.3

pub returns-then-not-node_fits : goal.returns-then-not-node_fits
returns-then-not-node_fits t c =
    wrong-node c.args.tree.now c.args.place _ _ c.in-Some.ensures.lookup.3.0
    (c.in-Some.ensures.lookup.3.1 0) c.node_fits.ensures c.if-not-node_fits.true

pub returns-then-rule-lt3 : goal.returns-then-rule-lt3
returns-then-rule-lt3 t c =
    leaf c.args.tree.now c.args.place _ _ c.in-Some.ensures.lookup.3.0 (c.in-Some.ensures.lookup.3.1 0)
    c.node_fits.ensures c.if-not-node_fits.false
    (omega (arith, (ap (λ x. x.rule) c.from-rule.ensures), c.if-rule-lt3.true))

pub demands_of-demands-requires : goal.demands_of-demands-requires
demands_of-demands-requires t c = (
  c.if-rule-lt3.false,
  may-be-counted c.args.letters.now.prefix.now c.args.letters.now.looped.now c.args.table.now c.args.entry
      c.args.position
      c.args.needed _ c.if-not-node_fits.false c.node_fits.ensures c.from-rule.result.rule
      (ap (λ x. x.rule) c.from-rule.ensures) c.from-rule.result.number
      (ap (λ x. x.number) c.from-rule.ensures) c.if-rule-lt3.false (omega (arith, c.requires.0.reach)),
)

pub overflow_add-m-end : goal.overflow_add-m-end
overflow_add-m-end t c =
    let ask = asked c.args.letters.now.prefix.now c.args.letters.now.looped.now c.args.table.now c.args.entry
    c.args.position c.args.needed _ c.if-not-node_fits.false c.node_fits.ensures c.from-rule.result.rule
    (ap (λ x. x.rule) c.from-rule.ensures) c.from-rule.result.number (ap (λ x. x.number) c.from-rule.ensures)
    c.if-rule-lt3.false c.entry_at-here.result c.demands_of-demands.result
    c.entry_at-here.ensures c.demands_of-demands.ensures in
    omega (arith, ask.near.one, ask.near.last, c.requires.0.reach)

pub loop-m-init : goal.loop-m-init
loop-m-init t c =
    standing c.args.tree.now c.args.place c.in-Some.ensures.lookup.3.0 (c.in-Some.ensures.lookup.3.1 0)
    (asked c.args.letters.now.prefix.now c.args.letters.now.looped.now c.args.table.now c.args.entry
    c.args.position c.args.needed _ c.if-not-node_fits.false c.node_fits.ensures c.from-rule.result.rule
    (ap (λ x. x.rule) c.from-rule.ensures) c.from-rule.result.number (ap (λ x. x.number) c.from-rule.ensures)
    c.if-rule-lt3.false c.entry_at-here.result c.demands_of-demands.result
    c.entry_at-here.ensures c.demands_of-demands.ensures)

pub part_at-part-requires : goal.part_at-part-requires
part_at-part-requires t c =
    (c.loop-m-test.true, omega (arith, c.loop-m.invariant.asks.near.last, c.requires.0.reach))

pub walk-requires : goal.walk-requires
walk-requires t c =
    let near = within-reach c.loop-m.invariant c.loop-m-test.true c.part_at-part.result
    c.part_at-part.ensures c.requires.0 in (
      omega (arith, near.0, c.decreases),
      (near.1, omega (arith, c.loop-m.invariant.passed.inside, length-map c.args.tree.now node_of)),
    )

pub returns-in_err-next : goal.returns-in_err-next
returns-in_err-next t c =
    let err = err_from_is_err_and c.from_residual.result c.from_residual.ensures.1 in
    rw (err.1, err.2)
    (broken c.loop-m.invariant c.loop-m-test.true c.part_at-part.result c.part_at-part.ensures
    c.in_err-next.field-0.0 c.in_err-next.ensures)

pub loop-m-preserved : goal.loop-m-preserved
loop-m-preserved t c =
    passed-part c.loop-m.invariant c.loop-m-test.true c.part_at-part.result c.part_at-part.ensures
    c.in_ok-next.next c.in_ok-next.ensures

pub returns : goal.returns
returns t c = all-passed c.loop-m.invariant (omega (arith, c.loop-m-test.false))
