-- The numbers of refusals: those of the entry points are 1 to 12, and a test that
-- fails is never answered with 0.
use mathlib.Core.Path.{◌≡◌, refl}
use mathlib.Core.List.{List}
use Prim.Native.Nat.{ℕ, ◌≤◌}
use native.Mathlib.Omega.{arith}
use Rattle.schedule.specs.Figures.{Figures}
use Rattle.schedule.specs.Tests.{FirstFails}
use Rattle.schedule.proofs.Tests.{lacks-fails}
use Rattle.asking.specs.Answers.{number_of}
use Rattle.asking.specs.Questions.{Question, question_tests, check_tests, work_tests}
use Rattle.asking.specs.declared.Refusal.{Refusal}
use Rattle.asking.specs.declared.Refusal.TheVariants.{EmptyLoop, TooLong, NoTable, BadEntry, TooHigh}
use Rattle.asking.specs.declared.Refusal.TheVariants.{NoEntry, TooFar, ShortWork, LongTree, TooLarge}
use Rattle.asking.specs.declared.Refusal.TheVariants.{ShortTree, NotValid}

pub refusal-number : (x : Refusal) → (1 ≤ number_of x) × (number_of x ≤ 12)
refusal-number EmptyLoop = omega arith
refusal-number TooLong = omega arith
refusal-number NoTable = omega arith
refusal-number BadEntry = omega arith
refusal-number TooHigh = omega arith
refusal-number NoEntry = omega arith
refusal-number TooFar = omega arith
refusal-number ShortWork = omega arith
refusal-number (NotValid p) = omega arith
refusal-number LongTree = omega arith
refusal-number TooLarge = omega arith
refusal-number ShortTree = omega arith

module _ (q : Question) where
  pub work-some : (len : ℕ) {r : Figures} → FirstFails (work_tests q len) r → r.number ≡ 0 → ⊥
  unfolding work_tests question_tests
  work-some len f = lacks-fails 0 refl f

  pub check-some : (words : List ℕ) {r : Figures} → FirstFails (check_tests q words) r → r.number ≡ 0 → ⊥
  unfolding check_tests question_tests
  check-some words f = lacks-fails 0 refl f
