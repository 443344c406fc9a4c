-- `questions::entry_lines` meets its contract: a law at the start, one a turn, and one at the end.
use Rattle.std.proofs.Common.{arith, rules}
use Rattle.questions.specs.inside.LinesRead.{EntryFields, FieldsAt}
use Rattle.questions.proofs.Entering.{commas-low, enter-none, enter-turn}
use Rattle.questions.proofs.entry_lines.Goals as goal

pub loop-line-init : goal.loop-line-init
loop-line-init c = enter-none

pub overflow_mul-left : goal.overflow_mul-left
overflow_mul-left c = omega (arith, commas-low c.in-Some.ensures.ended.list.list 1)

pub overflow_add-kind : goal.overflow_add-kind
overflow_add-kind c =
    let low = commas-low c.in-Some.ensures.ended.list.list in omega (arith, low 0, low 1)

pub overflow_add-kind-in-Some : goal.overflow_add-kind-in-Some
overflow_add-kind-in-Some c =
    let low = commas-low c.in-Some.ensures.ended.list.list in omega (arith, low 0, low 1, low 2)

pub loop-line-preserved : goal.loop-line-preserved
loop-line-preserved c =
    let line = c.in-Some.line in
    let there : FieldsAt EntryFields 3 c.loop-line.rest.now line.numbers line.rest.now = search rules in
    enter-turn c.loop-line.invariant there c.store.ensures
