-- A run of claims: its length, and the claim at a place.
use mathlib.Core.Path.{◌≡◌, refl, ap, ◌∙◌}
use Prim.Native.Nat.{ℕ, zero, suc, ◌+◌, ◌<◌}
use native.Mathlib.Nat.{not-suc-le-zero, le_of_suc-le-suc}
use native.Mathlib.Omega.{arith}
use lib.ListN.{length, get_or}
use Rattle.rules.specs.Formula.{Formula}
use Rattle.trees.specs.Rules.{Claim, claim, run}
use Rattle.trees.specs.declared.Verdict.{Verdict}

pub run_length : (f : Formula) (from n : ℕ) (v : Verdict) → length (run f from n v) ≡ n
run_length f from zero v = refl
run_length f from (suc n) v = ap suc (run_length f (suc from) n v)

pub run_at : (f : Formula) (from n : ℕ) (v : Verdict) (k : ℕ) (d : Claim) → k < n
    → get_or (run f from n v) k d ≡ claim f (from + k) v
run_at f from zero v k d lt = absurd (not-suc-le-zero lt)
run_at f from (suc n) v zero d lt = ap (λ p. claim f p v) (omega arith)
run_at f from (suc n) v (suc k) d lt =
    run_at f (suc from) n v k d (le_of_suc-le-suc lt) ∙ ap (λ p. claim f p v) (omega arith)
