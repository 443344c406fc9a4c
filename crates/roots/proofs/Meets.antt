-- A root with the prices of its parts: the root of the least tree meets its price,
-- and no root before that one does.
use Prim.Native.Nat.{ℕ, ◌+◌, ◌<◌, ◌≤◌}
use mathlib.Core.Path.{◌≡◌, refl}
use mathlib.Core.List.{List, ◌∷◌}
use native.Mathlib.Omega.{arith}
use Rattle.rules.specs.Formula.{Formula}
use Rattle.trees.specs.declared.Node.{Node}
use Rattle.trees.specs.Rules.{Frame, Claim, claim, Rule}
use Rattle.trees.specs.Trees.{grown}
use Rattle.trees.specs.Least.{Cost, cost_of, NodeBefore, Least}
use Rattle.trees.specs.declared.Verdict.{Verdict}
use Rattle.trees.proofs.Order.{at-cost}
use Rattle.theory.specs.inside.Frames.{Lawful}
use Rattle.theory.specs.inside.Costs.{ForestCosts, CutLeast, cut, cut_off}
use Rattle.theory.proofs.LeastForests.{least-forest-valid, least-forest-first, same-verdict}
use Rattle.theory.proofs.LeastParts.{forest-least, least-parts}
use Rattle.theory.proofs.LeastRoot.{least-smallest}

-- A root of the claim whose parts cost t at least, cut off.
pub record Costed (cost : Cost) (frame : Frame) (c : Claim) (x : Node) (t : ℕ) : Type 0 where
  pub needs : List Claim
  pub rule : Rule frame c x needs
  pub costs : CutLeast (ForestCosts cost frame needs) (cut t)

module _ {cost : Cost} {frame : Frame} (law : Lawful frame)
    (exists : (f : Formula) (i : ℕ) → (us : List Node) × Least cost frame f i us) {f : Formula} {i : ℕ}
    {y : Node} {ws : List Node} (l : Least cost frame f i (y ∷ ws)) (small : cost_of cost (y ∷ ws) < cut_off)
    {s : Verdict} {t : ℕ} where
  pub own_meets : Costed cost frame (claim f i s) y t
      → cost.weigh y.rule y.atom + t ≡ cost_of cost (y ∷ ws)
  own_meets c =
      let parts = least-forest-valid (least-parts law exists c.rule l) in
      let up : cut t ≤ cost_of cost ws
      = c.costs.under (cost_of cost ws) (record { nodes = ws; forest = parts; costs = refl }) in
      let met = c.costs.met (omega (arith, up, small, cost.some y.rule y.atom)) in
      let down = at-cost (l.least s (y ∷ met.nodes) (grown c.rule met.forest)) in
      omega (arith, up, down, met.costs, small, cost.some y.rule y.atom)

  pub none_before : {x : Node} → Costed cost frame (claim f i s) x t
      → cost.weigh x.rule x.atom + t ≡ cost_of cost (y ∷ ws) → ¬ NodeBefore x y
  none_before {x} c e b =
      let met = c.costs.met (omega (arith, e, small, cost.some x.rule x.atom)) in
      let same = same-verdict law s l.verdict (grown c.rule met.forest) l.valid in
      let vs = forest-least law exists met.forest in
      let more = (least-smallest (λ z. Unit) l).first x c.needs vs.0 tt
      (rw same at c.rule) vs.1 b in
      omega (
        arith,
        more,
        at-cost (least-forest-first vs.1 met.forest),
        met.costs,
        e,
        small,
        cost.some x.rule x.atom,
      )
