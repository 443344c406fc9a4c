-- The verdict that a rule proves.
use mathlib.Core.Path.{◌≡◌, sym, ap}
use mathlib.Core.Bool.{cond}
use mathlib.Core.List.{List, ◌∷◌}
use Prim.Native.Nat.{ℕ, ◌-◌, ◌<◌}
use native.Mathlib.Omega.{arith}
use borrow.Author.Tests.{ne_eqb}
use lib.Dec.{eqb}
use lib.ListN.{get_or-eq_default}
use Rattle.trees.specs.Verdicts.{signs, rule_sign, sign_of, proven_by}
use Rattle.trees.specs.declared.Verdict.TheVariants.{Holds, Violated}
use Rattle.trees.specs.declared.Node.{Node}
use Rattle.trees.specs.Rules.{Frame, Claim}
use Rattle.trees.specs.Trees.{Tree, grown}
use Rattle.trees.proofs.Needs.{rule-sign}

-- the verdict that a rule proves
module _ (r : ℕ) where
  pub proven-none : r ≡ 0 → Holds ≡ proven_by r
  unfolding proven_by
  proven-none e = ap (λ k. cond (eqb (rule_sign k) 1) Holds Violated) (sym e)

  pub proven-past : 16 < r → Violated ≡ proven_by r
  unfolding proven_by
  proven-past lt =
      ap (λ k. cond (eqb k 1) Holds Violated) (sym (get_or-eq_default signs 0 {n = r - 1} (omega arith)))

  pub sign-holds : rule_sign r ≡ 1 → Holds ≡ proven_by r
  unfolding proven_by
  sign-holds e = ap (λ k. cond (eqb k 1) Holds Violated) (sym e)

  pub sign-violated : (rule_sign r ≡ 1 → ⊥) → Violated ≡ proven_by r
  unfolding proven_by
  sign-violated m = ap (λ t. cond t Holds Violated) (sym (ne_eqb (rule_sign r) 1 m))

-- what the cases of `proven` rest on
pub ruleset proven = (proven-none, proven-past, sign-holds, sign-violated)

pub root-sign : {frame : Frame} {c : Claim} {x : Node} {ws : List Node} → Tree frame c (x ∷ ws)
    → sign_of c.verdict ≡ rule_sign x.rule
root-sign (grown r fs) = rule-sign r
