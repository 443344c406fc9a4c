-- `checking::judge` meets its contract: 10, or what the walk from the root says, a case a return.
use mathlib.Core.Path.{◌≡◌, ap, ◌∙◌}
use native.Mathlib.Omega.{arith}
use lib.ListN.{length, get_or}
use Rattle.std.proofs.lemmas.Grind.{common_steps}
use Rattle.trees.specs.Verdicts.{claimed_by}
use Rattle.checking.proofs.Limits.{question-within}
use Rattle.checking.proofs.Judging.{judged-long, judged-none, judged-bad, judged-over, judged-tree}
use Rattle.checking.proofs.judge.Goals as goal

pub returns-then-tree-gt-MAX_WORDS : goal.returns-then-tree-gt-MAX_WORDS
returns-then-tree-gt-MAX_WORDS c = judged-long _ _ c.args.passed.tests c.if-tree-gt-MAX_WORDS.true

pub returns-in_default : goal.returns-in_default
returns-in_default c =
    let none : length c.args.tree.now ≡ 0 = grind (arith, common_steps) in
    judged-none _ _ c.args.passed.tests c.if-tree-gt-MAX_WORDS.false none

pub walk-requires : goal.walk-requires
walk-requires c = (question-within _ c.args.passed.tests, omega arith)

pub returns-in-Ok : goal.returns-in-Ok
returns-in-Ok c =
    let root : c.in-Some.root.now ≡ get_or c.args.tree.now 0 0 = grind (arith, common_steps) in
    judged-tree _ _ c.args.passed.tests c.if-tree-gt-MAX_WORDS.false _
    (c.claimed-verdict.ensures ∙ ap claimed_by root)
    _ c.in-Ok.ensures (omega (arith, c.if-after-tree.true))

pub returns-in-Ok-2 : goal.returns-in-Ok-2
returns-in-Ok-2 c =
    let root : c.in-Some.root.now ≡ get_or c.args.tree.now 0 0 = grind (arith, common_steps) in
    judged-over _ _ c.args.passed.tests c.if-tree-gt-MAX_WORDS.false _
    (c.claimed-verdict.ensures ∙ ap claimed_by root)
    _ c.in-Ok.ensures (omega (arith, c.if-after-tree.false))

pub returns-in-Err : goal.returns-in-Err
returns-in-Err c =
    let root : c.in-Some.root.now ≡ get_or c.args.tree.now 0 0 = grind (arith, common_steps) in
    judged-bad _ _ c.args.passed.tests c.if-tree-gt-MAX_WORDS.false _
    (c.claimed-verdict.ensures ∙ ap claimed_by root)
    _ c.in-Err.ensures
