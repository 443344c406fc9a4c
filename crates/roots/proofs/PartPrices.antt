-- The prices of parts from their cells, and what a first part and a list cost together.
use Prim.Native.Nat.{ℕ, ◌+◌, ◌<◌, ◌≤◌}
use mathlib.Core.Path.{◌≡◌, subst}
use mathlib.Core.Bool.{Bool, true, false}
use mathlib.Core.Logic.{by_cases}
use mathlib.Core.List.{◌∷◌}
use native.Mathlib.Decide.{dec_lt}
use native.Mathlib.Omega.{arith}
use Rattle.rules.specs.Formula.{Formula}
use Rattle.trees.specs.Rules.{Frame, Claim, claim, run}
use Rattle.trees.specs.Least.{Cost}
use Rattle.trees.specs.declared.Verdict.{Verdict}
use Rattle.trees.specs.declared.Verdict.TheVariants.{Holds, Violated}
use Rattle.trees.proofs.Order.{cost-length}
use Rattle.trees.proofs.Forests.{tree-some}
use Rattle.theory.specs.inside.Costs.{ForestCosts, CutLeast, cut, cut_off}
use Rattle.theory.specs.inside.RunCosts.{sum_run}
use Rattle.theory.specs.inside.Prices.{Price}
use Rattle.theory.proofs.Cuts.{cut_again}
use Rattle.theory.proofs.Costs.{cut-more}
use Rattle.theory.proofs.CostsRuns.{run-costs}
use Rattle.cells.specs.inside.Meant.{CellFor}
use Rattle.scans.specs.inside.Scans.{price_in}

abbrev pub held_by : Verdict → Bool
held_by Holds = true
held_by Violated = false

pub part-price : {cost : Cost} {frame : Frame} {f : Formula} {i c : ℕ} (s : Verdict)
    → CellFor cost frame f i c → Price cost frame (claim f i s) (price_in (held_by s) c)
unfolding price_in
part-price Holds a = a.pro
part-price Violated a = a.con

pub price-some : {cost : Cost} {frame : Frame} {c : Claim} {p : ℕ} → Price cost frame c p → 1 ≤ p
price-some {cost} {p = p} a = by_cases (dec_lt p cut_off)
    (λ lt. let t = a.met lt in omega (arith, tree-some t.tree, t.costs, cost-length cost t.nodes))
    (λ ge. omega arith)

pub part-some : {cost : Cost} {frame : Frame} {f : Formula} {i c : ℕ} (s : Verdict) → CellFor cost frame f i c
    → 1 ≤ price_in (held_by s) c
part-some s a = price-some (part-price s a)

module _ {cost : Cost} {frame : Frame} {f : Formula} {s : Verdict} (price : ℕ → ℕ) where
  -- a list alone
  pub list-costs : (from n t : ℕ)
      → ((j : ℕ) → from ≤ j → j < from + n → Price cost frame (claim f j s) (price j))
      → sum_run price from n ≡ t → CutLeast (ForestCosts cost frame (run f from n s)) (cut t)
  list-costs from n t each e =
      subst (λ m. CutLeast (ForestCosts cost frame (run f from n s)) (cut m)) e (run-costs price from n each)

  -- and after a first part
  pub first-costs : {g : Formula} (i from n p t : ℕ) → Price cost frame (claim g i s) p
      → ((j : ℕ) → from ≤ j → j < from + n → Price cost frame (claim f j s) (price j))
      → sum_run price from n ≡ t
      → CutLeast (ForestCosts cost frame (claim g i s ∷ run f from n s)) (cut (p + t))
  first-costs {g} i from n p t first each e =
      subst (CutLeast (ForestCosts cost frame (claim g i s ∷ run f from n s))) (cut_again p t)
      (cut-more (run f from n s) first (list-costs from n t each e))
