-- A question that passes its tests is within the limits of the walk.
use native.Mathlib.Omega.{arith}
use lib.ListN.{length}
use Rattle.schedule.specs.Tests.{AllPass}
use Rattle.nodes.specs.inside.Tested.{Within}
use Rattle.asking.specs.Questions.{Question, question_tests}
use Rattle.asking.proofs.Limits.{question-passes}

module _ (q : Question) (passed : AllPass (question_tests q)) where
  pub question-within : Within (length q.prefix) (length q.loop) q.entry q.position
  question-within =
      let p = question-passes q passed in
      record {
        prefix = omega (arith, p.letters);
        loop = omega (arith, p.letters);
        entry = omega (arith, p.inside, p.few);
        reach = omega (arith, p.near);
      }
