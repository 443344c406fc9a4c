-- A question that passes its tests is within the limits of the filling.
use Prim.Native.Nat.{ℕ}
use native.Mathlib.Omega.{arith}
use borrow.Author.Tests.{leb-true}
use lib.ListN.{length}
use Rattle.schedule.specs.Tests.{AllPass}
use Rattle.rules.specs.Low.{low_at}
use Rattle.rules.proofs.Tested.{low-exact}
use Rattle.search.specs.inside.Filling.{Limited, reach_of}
use Rattle.asking.specs.Questions.{Question, work_tests}
use Rattle.asking.proofs.Limits.{question-passes, work-question, work-room}

-- With room to work in.
module _ (q : Question) (len : ℕ) (passed : AllPass (work_tests q len)) where
  -- every entry up to the asked one has low heights
  pub work-limited : Limited (length q.prefix) (length q.loop)
      (reach_of (length q.prefix) q.position) q.table q.entry len
  unfolding low_at
  work-limited =
      let p = question-passes q (work-question q len passed) in
      record {
        loop = omega (arith, p.loop);
        letters = p.letters;
        from = omega arith;
        short = omega (arith, p.letters, p.near);
        entry = omega (arith, p.inside, p.few);
        low = λ k le. leb-true _ _ ((low-exact q.table).0 p.low k (omega (arith, p.inside)));
        room = work-room q len passed;
      }
