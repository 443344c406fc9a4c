-- The root of the least tree is the smallest of those that reach the least cost with least parts.
use Prim.Native.Nat.{ℕ, ◌<◌, ◌≤◌}
use mathlib.Core.Path.{ap₂}
use mathlib.Core.List.{List, ◌∷◌, head-eq_of_cons-eq}
use native.Mathlib.Omega.{arith}
use Rattle.rules.specs.Formula.{Formula}
use Rattle.trees.specs.declared.Node.{Node}
use Rattle.trees.specs.Rules.{Frame, Claim, claim, Rule}
use Rattle.trees.specs.Trees.{Tree, grown}
use Rattle.trees.specs.Least.{Cost, cost_of, NodeBefore, here, later, AtOrBefore, cheaper, earlier, same}
use Rattle.trees.specs.Least.{Least}
use Rattle.trees.specs.declared.Verdict.{Verdict}
use Rattle.trees.proofs.Needs.{needs-one}
use Rattle.trees.proofs.Order.{less, alike, greater, node-irreflexive, node-transitive, node-compared}
use Rattle.trees.proofs.Order.{by_order, at-cost, at-later, at-transitive}
use Rattle.theory.specs.inside.Frames.{Lawful}
use Rattle.theory.specs.inside.Words.{Repeats}
use Rattle.theory.specs.inside.Repeating.{repeat_frame}
use Rattle.theory.specs.inside.Level.{Level}
use Rattle.theory.specs.inside.LeastForests.{LeastForest}
use Rattle.theory.proofs.Sound.{repeats-lawful}
use Rattle.theory.proofs.Horizon.{InWindow, NearTree, inside}
use Rattle.theory.proofs.LeastForests.{least-forest-valid, least-forest-first, least-forest-one}
use Rattle.theory.proofs.LeastForests.{own-least, for-least}
use Rattle.theory.proofs.LeastExists.{least-exists}
use Rattle.theory.proofs.LeastParts.{forest-least}

-- Among the roots Q, each above least parts, none is cheaper than x above ws, and none before x is as cheap.
pub record Smallest (cost : Cost) (frame : Frame) (Q : Node → Type 0) (c : Claim) (x : Node)
    (ws : List Node) : Type 0 where
  pub cheapest : (y : Node) (needs : List Claim) (vs : List Node) → Q y → Rule frame c y needs
      → LeastForest cost frame needs vs → cost_of cost (x ∷ ws) ≤ cost_of cost (y ∷ vs)
  pub first : (y : Node) (needs : List Claim) (vs : List Node) → Q y → Rule frame c y needs
      → LeastForest cost frame needs vs → NodeBefore y x → cost_of cost (x ∷ ws) < cost_of cost (y ∷ vs)

module _ {cost : Cost} where
  -- where the later root comes first, it is cheaper
  root-cheaper : {x y : Node} {ws vs : List Node} → NodeBefore y x → AtOrBefore cost (x ∷ ws) (y ∷ vs)
      → cost_of cost (x ∷ ws) < cost_of cost (y ∷ vs)
  root-cheaper b (cheaper h) = h
  root-cheaper b (earlier e (here h)) = absurd (node-irreflexive (node-transitive b h))
  root-cheaper b (earlier e (later c)) = absurd (node-irreflexive b)
  root-cheaper {x} {y} b (same e) = absurd (node-irreflexive (rw (head-eq_of_cons-eq e) at b))

module _ {cost : Cost} {frame : Frame} where
  pub least-smallest : (Q : Node → Type 0) {f : Formula} {i : ℕ} {x : Node} {ws : List Node}
      (l : Least cost frame f i (x ∷ ws)) → Smallest cost frame Q (claim f i l.verdict) x ws
  least-smallest Q l = record {
    cheapest = λ y needs vs q r ls. at-cost
        (l.least l.verdict (y ∷ vs) (grown r (least-forest-valid ls)));
    first = λ y needs vs q r ls b. root-cheaper b
        (l.least l.verdict (y ∷ vs) (grown r (least-forest-valid ls)));
  }

module _ {cost : Cost} {frame : Frame} {Q : Node → Type 0} {c : Claim} {x : Node} {needs : List Claim}
    {ws : List Node} (r : Rule frame c x needs) (ls : LeastForest cost frame needs ws)
    (small : Smallest cost frame Q c x ws) where
  -- against another root above least parts
  root-first : {y : Node} {ms : List Claim} {vs : List Node} → Q y → Rule frame c y ms
      → LeastForest cost frame ms vs → AtOrBefore cost (x ∷ ws) (y ∷ vs)
  root-first {y} {ms} {vs} q s ks = elim (node-compared x y) [
    | less h ↦ by_order (cost_of cost (x ∷ ws)) (cost_of cost (y ∷ vs))
        cheaper
        (λ e. earlier e (here h))
        (λ more. absurd (omega (arith, small.cheapest y ms vs q s ks)))
    | alike e ↦ same (ap₂ ◌∷◌ e (least-forest-one ls (rw (needs-one s (rw e at r)) at ks)))
    | greater h ↦ cheaper (small.first y ms vs q s ks h)
  ]

  -- and against any parts below it
  root-leads : Lawful frame → ((f : Formula) (i : ℕ) → (us : List Node) × Least cost frame f i us)
      → {y : Node} {vs : List Node} → Q y → Tree frame c (y ∷ vs) → AtOrBefore cost (x ∷ ws) (y ∷ vs)
  root-leads law exists {y} q (grown s fs) =
      let ks = forest-least law exists fs in
      at-transitive (root-first q s ks.1) (at-later y (least-forest-first ks.1 fs))

module _ {cost : Cost} {frame : Frame} (law : Lawful frame)
    (exists : (f : Formula) (i : ℕ) → (us : List Node) × Least cost frame f i us) {Q : Node → Type 0}
    {f : Formula} {i : ℕ} {s : Verdict}
    (cover : (vs : List Node) → Tree frame (claim f i s) vs → NearTree cost frame Q (claim f i s) vs) where
  pub smallest-least : {x : Node} {needs : List Claim} {ws : List Node} → Rule frame (claim f i s) x needs
      → LeastForest cost frame needs ws → Smallest cost frame Q (claim f i s) x ws
      → Least cost frame f i (x ∷ ws)
  smallest-least r ls small = for-least (own-least law (grown r (least-forest-valid ls)) (λ vs t.
      let a = cover vs t in
      at-transitive (root-leads r ls small law exists a.near a.tree) a.before))

-- Where rule 16 weighs little enough, the roots that look no further than the window are enough to look at.
module _ {cost : Cost} (lv : Level cost) {word : ℕ → ℕ} {u v : ℕ} (w : Repeats word u v) {f : Formula} {i : ℕ}
    {s : Verdict} where
  pub window-smallest-least : {x : Node} {needs : List Claim} {ws : List Node}
      → Rule (repeat_frame word u v) (claim f i s) x needs → LeastForest cost (repeat_frame word u v) needs ws
      → Smallest cost (repeat_frame word u v) (InWindow u v (claim f i s)) (claim f i s) x ws
      → Least cost (repeat_frame word u v) f i (x ∷ ws)
  window-smallest-least = smallest-least (repeats-lawful w) (least-exists cost w) (λ vs t. inside lv w t)
