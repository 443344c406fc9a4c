-- What the forests of a run cost, cut off: the sum of what its claims cost, and how that sum slides along.
use Prim.Native.Nat.{ℕ, zero, suc, ◌+◌, ◌*◌, ◌<◌, ◌≤◌}
use mathlib.Core.Path.{◌≡◌, ap, subst}
use native.Mathlib.Nat.{add-zero}
use native.Mathlib.Omega.{arith}
use Rattle.rules.specs.Formula.{Formula}
use Rattle.trees.specs.Rules.{Frame, claim, run}
use Rattle.trees.specs.Least.{Cost}
use Rattle.trees.specs.declared.Verdict.{Verdict}
use Rattle.theory.specs.inside.Costs.{TreeCosts, ForestCosts, CutLeast, cut_off, cut}
use Rattle.theory.specs.inside.RunCosts.{sum_run}
use Rattle.theory.proofs.Cuts.{cut_again}
use Rattle.theory.proofs.Costs.{costs-none, cut-more}

module _ {cost : Cost} {frame : Frame} {f : Formula} {s : Verdict} (price : ℕ → ℕ) where
  pub run-costs : (from n : ℕ)
      → ((j : ℕ) → from ≤ j → j < from + n → CutLeast (TreeCosts cost frame (claim f j s)) (price j))
      → CutLeast (ForestCosts cost frame (run f from n s)) (cut (sum_run price from n))
  run-costs from zero each = costs-none
  run-costs from (suc n) each = subst (CutLeast (ForestCosts cost frame (run f from (suc n) s)))
      (cut_again (price from) (sum_run price (suc from) n))
      (cut-more (run f (suc from) n s)
      (each from (omega arith) (omega arith))
      (run-costs (suc from) n (λ j ge lt. each j (omega arith) (omega arith))))

module _ (price : ℕ → ℕ) where
  pub run-grown : (from n : ℕ) → sum_run price from (suc n) ≡ sum_run price from n + price (from + n)
  run-grown from zero = omega (arith, ap price (add-zero from))
  run-grown from (suc n) =
      let at : price (suc from + n) ≡ price (from + suc n) = ap price (omega arith) in
      omega (arith, run-grown (suc from) n, at)

  pub run-slid : (from n : ℕ)
      → sum_run price (suc from) n + price from ≡ sum_run price from n + price (from + n)
  run-slid from n = omega (arith, run-grown from n)

  pub run-bound : ((j : ℕ) → price j ≤ cut_off) → (from n : ℕ) → sum_run price from n ≤ cut_off * n
  run-bound bound from zero = omega arith
  run-bound bound from (suc n) = omega (arith, bound from, run-bound bound (suc from) n)
