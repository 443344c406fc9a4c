-- Least trees one after the other come at or before every forest of their claims,
-- since costs add and the first difference decides.
use Prim.Native.Nat.{ℕ}
use mathlib.Core.Path.{◌≡◌, refl}
use mathlib.Core.List.{List}
use native.Mathlib.Omega.{arith}
use Rattle.rules.specs.Formula.{Formula}
use Rattle.trees.specs.declared.Node.{Node}
use Rattle.trees.specs.Rules.{Frame, Claim, claim}
use Rattle.trees.specs.Trees.{Tree, Forest, none, more}
use Rattle.trees.specs.Least.{Cost, cost_of, AtOrBefore, Least}
use Rattle.trees.specs.declared.Verdict.{Verdict}
use Rattle.trees.specs.declared.Verdict.TheVariants.{Holds, Violated}
use Rattle.trees.proofs.Order.{cost-append, at-reflexive, at-append, at-antisymmetric}
use Rattle.theory.specs.inside.Frames.{Lawful}
use Rattle.theory.specs.inside.LeastForests.{LeastFor, LeastForest, no_least, next_least, sum_over}
use Rattle.theory.proofs.Verdict.{one-verdict}

module _ {cost : Cost} {frame : Frame} where
  abbrev pub least-for : {f : Formula} {i : ℕ} {ws : List Node} (l : Least cost frame f i ws)
      → LeastFor cost frame (claim f i l.verdict) ws
  least-for l = record { valid = l.valid; least = l.least }

  abbrev pub for-least : {c : Claim} {ws : List Node} → LeastFor cost frame c ws
      → Least cost frame c.formula c.position ws
  for-least {c} l = record { verdict = c.verdict; valid = l.valid; least = l.least }

  pub least-forest-valid : {cs : List Claim} {ws : List Node} → LeastForest cost frame cs ws
      → Forest frame cs ws
  least-forest-valid no_least = none
  least-forest-valid (next_least l ls) = more l.valid (least-forest-valid ls)

  pub least-forest-first : {cs : List Claim} {ws vs : List Node} → LeastForest cost frame cs ws
      → Forest frame cs vs → AtOrBefore cost ws vs
  least-forest-first no_least none = at-reflexive
  least-forest-first (next_least {c} l ls) (more t fs) =
      at-append (l.least c.verdict _ t) (least-forest-first ls fs)

  pub least-forest-one : {cs : List Claim} {ws vs : List Node} → LeastForest cost frame cs ws
      → LeastForest cost frame cs vs → ws ≡ vs
  least-forest-one ls ms =
      at-antisymmetric (least-forest-first ls (least-forest-valid ms))
      (least-forest-first ms (least-forest-valid ls))

  -- so the parts of a root cost the sum of the least costs
  pub least-forest-cost : (price : Claim → ℕ)
      → ((c : Claim) (ws : List Node) → LeastFor cost frame c ws → cost_of cost ws ≡ price c)
      → {cs : List Claim} {ws : List Node} → LeastForest cost frame cs ws
      → cost_of cost ws ≡ sum_over price cs
  least-forest-cost price priced no_least = refl
  least-forest-cost price priced (next_least {c} {ws} {vs} l ls) =
      omega (arith, priced c ws l, least-forest-cost price priced ls, cost-append cost ws vs)

-- Where a claim has a tree, no tree has the other verdict: so the first of its own trees is the first of all.
module _ {frame : Frame} (law : Lawful frame) {f : Formula} {i : ℕ} where
  pub same-verdict : (p q : Verdict) {ws vs : List Node} → Tree frame (claim f i p) ws
      → Tree frame (claim f i q) vs → p ≡ q
  same-verdict Holds Holds t s = refl
  same-verdict Holds Violated t s = absurd (one-verdict law t s)
  same-verdict Violated Holds t s = absurd (one-verdict law s t)
  same-verdict Violated Violated t s = refl

  pub own-least : {cost : Cost} {p : Verdict} {ws : List Node} → Tree frame (claim f i p) ws
      → ((vs : List Node) → Tree frame (claim f i p) vs → AtOrBefore cost ws vs)
      → LeastFor cost frame (claim f i p) ws
  own-least {p} t first = record { valid = t; least = λ q vs s. first vs (rw (same-verdict p q t s) s) }
