-- What is true of each claim of a run is true at each of its positions, and the other way round.
use Prim.Native.Nat.{ℕ, zero, suc, ◌+◌, ◌<◌, ◌≤◌}
use mathlib.Core.Path.{subst}
use mathlib.Core.Logic.{by_cases}
use mathlib.Core.List.{List, [], ◌∷◌, ◌++◌}
use native.Mathlib.Decide.{dec_le}
use native.Mathlib.Omega.{arith}
use Rattle.rules.specs.Formula.{Formula}
use Rattle.trees.specs.Rules.{Claim, claim, run}
use Rattle.trees.specs.declared.Verdict.{Verdict}

pub data Each (P : Claim → Type 0) : List Claim → Type 0 where
  nothing : Each P []
  also : {c : Claim} {cs : List Claim} → P c → Each P cs → Each P (c ∷ cs)

pub each_both : {P : Claim → Type 0} {cs ds : List Claim} → Each P cs → Each P ds → Each P (cs ++ ds)
each_both nothing qs = qs
each_both (also p ps) qs = also p (each_both ps qs)

module _ {P : Claim → Type 0} (f : Formula) (v : Verdict) where
  pub each-run : (from n : ℕ) → Each P (run f from n v) → (k : ℕ) → from ≤ k → k < from + n → P (claim f k v)
  each-run from zero ps k ge lt = absurd (omega arith)
  each-run from (suc n) (also p ps) k ge lt = by_cases (dec_le k from)
      (λ here. subst (λ m. P (claim f m v)) (omega arith) p)
      (λ later. each-run (suc from) n ps k (omega arith) (omega arith))

  pub run-each : (from n : ℕ) → ((k : ℕ) → from ≤ k → k < from + n → P (claim f k v))
      → Each P (run f from n v)
  run-each from zero p = nothing
  run-each from (suc n) p =
      also (p from (omega arith) (omega arith))
      (run-each (suc from) n (λ k ge lt. p k (omega arith) (omega arith)))
