-- `wording::write_out` meets its contract: 11, 12, or what the writer wrote.
use native.Mathlib.Omega.{arith}
use Rattle.asking.proofs.Limits.{question-loop, work-passes}
use Rattle.wording.proofs.WritingOut.{out-large, out-short, out_written, out-writable, out-room}
use Rattle.wording.proofs.write_out.Goals as goal

pub returns-then-size-gt-MAX_WORDS : goal.returns-then-size-gt-MAX_WORDS
returns-then-size-gt-MAX_WORDS c =
    out-large _ c.requires.2 (question-loop _ c.args.passed.tests) _
    (omega (arith, c.price_in-size.ensures))

pub returns-then-tree-size : goal.returns-then-tree-size
returns-then-tree-size c =
    out-short _ c.requires.2 (question-loop _ c.args.passed.tests)
    (omega (arith, c.price_in-size.ensures)) _
    (omega (arith, c.price_in-size.ensures))

pub write_tree-requires : goal.write_tree-requires
write_tree-requires c = (
  out-writable _ _ (work-passes _ c.args.passed.tests c.requires.0) c.requires.1 c.requires.2
      (omega (arith, c.price_in-size.ensures)),
  out-room _ c.requires.2 (question-loop _ c.args.passed.tests)
      (omega (arith, c.price_in-size.ensures)) _
      (omega (arith, c.price_in-size.ensures)),
)

pub returns : goal.returns
returns c =
    out_written _ c.requires.2 (question-loop _ c.args.passed.tests)
    (omega (arith, c.price_in-size.ensures)) c.write_tree.ensures _ _
    c.price_in-size.ensures c.verdict_in.ensures
