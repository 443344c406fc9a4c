-- Sums over a run of positions as sums over the steps from its nearer end, and how they grow.
use Prim.Native.Nat.{ℕ, zero, suc, ◌+◌, ◌-◌, ◌<◌, ◌≤◌}
use mathlib.Core.Path.{◌≡◌, refl, ap}
use mathlib.Core.Logic.{by_cases}
use native.Mathlib.Decide.{dec_le}
use native.Mathlib.Omega.{arith}
use Rattle.theory.specs.inside.RunCosts.{sum_run}
use Rattle.theory.proofs.CostsRuns.{run-grown}

module _ (price : ℕ → ℕ) where
  pub run-ahead : (i n : ℕ) → sum_run price i n ≡ sum_run (λ k. price (i + k)) 0 n
  run-ahead i zero = refl
  run-ahead i (suc n) =
      let last : price (i + (0 + n)) ≡ price (i + n) = ap price (omega arith) in
      omega (arith, run-grown price i n, run-ahead i n, run-grown (λ k. price (i + k)) 0 n, last)

  pub run-back : (i from n : ℕ) → n ≤ i + 1 → from ≡ i + 1 - n
      → sum_run price from n ≡ sum_run (λ k. price (i - k)) 0 n
  run-back i from zero le e = refl
  run-back i from (suc n) le e =
      let last : price (i - (0 + n)) ≡ price from = ap price (omega arith) in
      omega (
        arith,
        run-back i (suc from) n (omega arith) (omega arith),
        run-grown (λ k. price (i - k)) 0 n,
        last,
      )

  -- each member adds 1 at least
  pub sum-grows : (a b : ℕ) → a ≤ b → ((k : ℕ) → k < b → 1 ≤ price k)
      → sum_run price 0 a + (b - a) ≤ sum_run price 0 b
  sum-grows a zero le some = let none : a ≡ 0 = omega arith in omega (arith, ap (sum_run price 0) none)
  sum-grows a (suc b) le some =
      by_cases (dec_le a b)
      (λ in-it. let last : price (0 + b) ≡ price b = ap price (omega arith) in
      omega (
        arith,
        sum-grows a b in-it (λ k lt. some k (omega arith)),
        run-grown price 0 b,
        last,
        some b (omega arith),
      ))
      (λ all. let same : a ≡ suc b = omega arith in omega (arith, ap (sum_run price 0) same))
