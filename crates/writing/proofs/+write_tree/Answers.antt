-- `writing::write_tree` meets its contract: a root without parts is the whole tree, and behind any other
-- its parts are written one after the other.
use mathlib.Core.Path.{◌≡◌, refl, sym, ap, subst, ◌∙◌}
use mathlib.Core.List.{List, ◌∷◌}
use Prim.Native.Nat.{ℕ, ◌+◌, ◌<◌}
use lib.ListN.{length, length-set}
use lib.Seq.{get_or-set_same}
use Rattle.std.proofs.Common.{arith, rules}
use Rattle.rules.specs.Tables.{formula_of}
use Rattle.trees.specs.Nodes.{node_of}
use Rattle.trees.specs.declared.Node.{Node}
use Rattle.trees.specs.Rules.{claim}
use Rattle.trees.specs.inside.Lent.{frame_of}
use Rattle.nodes.specs.declared.Demands.{Demands}
use Rattle.nodes.proofs.Claims.{claims-length}
use Rattle.trees.specs.Least.{ones, Least}
use Rattle.theory.proofs.Horizon.{ones-atoms}
use Rattle.writing.specs.inside.Writes.{Writable, Room}
use Rattle.writing.proofs.Underway.{underway-none, underway-more, underway-done}
use Rattle.writing.proofs.Planned.{Planned, leaf-writes, countable, planned, part-is, part-near}
use Rattle.writing.proofs.Planned.{part-writable}
use Rattle.writing.proofs.Leading.{writable-inside}
use Rattle.writing.proofs.+write_tree.Goals as goal

-- no more parts than a number can count
few : {prefix loop table : List ℕ} {e i : ℕ} {work : List ℕ} {x : Node} {d : Demands}
    → Planned ones prefix loop table e i work x d → d.from + d.count < 1000000
few p = omega (arith, p.earlier.last, (writable-inside p.asked).column)

pub offset_bounds-tree-place : goal.offset_bounds-tree-place
offset_bounds-tree-place t c =
    let there = c.requires.1.room _ c.lead-root.ensures.leads.least in search rules

pub bounds-tree-place : goal.bounds-tree-place
bounds-tree-place t c = omega (arith, c.requires.1.room _ c.lead-root.ensures.leads.least)

pub overflow_add-result : goal.overflow_add-result
overflow_add-result t c = omega (arith, c.requires.1.room _ c.lead-root.ensures.leads.least)

pub returns-then-root-lt3 : goal.returns-then-root-lt3
returns-then-root-lt3 t c =
    leaf-writes ones-atoms c.requires.0 c.lead-root.result c.lead-root.ensures.leads c.word.result
    c.args.place c.args.tree.now c.word.ensures c.requires.1 c.if-root-lt3.true

pub demands_of-demands-requires : goal.demands_of-demands-requires
demands_of-demands-requires t c = (
  c.if-root-lt3.false,
  countable ones-atoms c.requires.0 c.lead-root.result c.lead-root.ensures.leads
      c.if-root-lt3.false c.lead-root.ensures.number_fits,
)

pub overflow_add-m-end : goal.overflow_add-m-end
overflow_add-m-end t c =
    let p = planned ones-atoms c.requires.0 c.lead-root.result c.lead-root.ensures.leads
    c.if-root-lt3.false c.lead-root.ensures.number_fits c.entry_at-here.ensures c.proven.ensures
    c.demands_of-demands.ensures in
    omega (arith, few p, p.earlier.one)

pub overflow_add-next : goal.overflow_add-next
overflow_add-next t c = omega (arith, c.requires.1.room _ c.lead-root.ensures.leads.least)

pub loop-m-init : goal.loop-m-init
loop-m-init t c =
    let p = planned ones-atoms c.requires.0 c.lead-root.result c.lead-root.ensures.leads
    c.if-root-lt3.false c.lead-root.ensures.number_fits c.entry_at-here.ensures c.proven.ensures
    c.demands_of-demands.ensures in
    let a = c.args in
    let w = c.word.result in
    let there = c.requires.1.room _ p.least in
    record {
      root = c.lead-root.result;
      rooted = ap node_of (get_or-set_same a.tree.now a.place w 0 (omega (arith, there))) ∙ c.word.ensures;
      plan = p;
      passed = underway-none (a.place + 1) _ (omega (arith, there, length-set a.tree.now a.place w))
          p.parts;
    }

pub write_tree-next-requires : goal.write_tree-next-requires
write_tree-next-requires t c =
    let a = c.args in
    let b = c.loop-m.invariant in
    let taken : c.loop-m.m < c.demands_of-demands.result.fixed + c.demands_of-demands.result.count = omega
    arith in
    let part = c.part_at-part.ensures in
    let own = claim (formula_of a.table.now a.entry) a.position c.demands_of-demands.result.verdict in (
      omega (arith, ap (λ p. p.entry) part, part-near ones-atoms b.plan b.passed taken own),
      subst (λ p. Writable ones a.letters.now.prefix.now a.letters.now.looped.now a.table.now p.entry
          p.position a.work.now
          × Room ones (frame_of a.letters.now) (formula_of a.table.now p.entry) p.position c.loop-m.next
          (length c.loop-m.tree))
          (sym part) (part-writable ones-atoms b.plan b.passed taken own),
    )

pub loop-m-preserved : goal.loop-m-preserved
loop-m-preserved t c =
    let a = c.args in
    let b = c.loop-m.invariant in
    let taken : c.loop-m.m < c.demands_of-demands.result.fixed + c.demands_of-demands.result.count = omega
    arith in
    let d = c.demands_of-demands.result in
    let own = claim (formula_of a.table.now a.entry) a.position d.verdict in
    let same = ap (λ p. claim (formula_of a.table.now p.entry) p.position d.verdict) c.part_at-part.ensures
    ∙ sym (part-is ones-atoms b.plan b.passed taken own) in
    record {
      root = b.root;
      rooted = b.rooted;
      plan = b.plan;
      passed = underway-more b.passed own (omega (arith, claims-length a.table.now d, taken)) _ same
          c.write_tree-next.ensures;
    }

pub returns : goal.returns
returns t c =
    let a = c.args in
    let b = c.loop-m.invariant in
    let w = c.word.result in
    let there = c.requires.1.room _ c.lead-root.ensures.leads.least in
    let is : node_of w ≡ b.root
    = ap node_of (sym (get_or-set_same a.tree.now a.place w 0 (omega (arith, there)))) ∙ b.rooted in
    underway-done b.passed
    (omega (arith, claims-length a.table.now c.demands_of-demands.result, c.loop-m-test.false)) a.place w
    a.tree.now refl refl
    (subst (λ y. Least ones (frame_of a.letters.now)
    (formula_of a.table.now a.entry) a.position (y ∷ b.plan.below))
    (sym is) b.plan.least)
