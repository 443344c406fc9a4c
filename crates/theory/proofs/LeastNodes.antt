-- What a root inside the window shows, and hands down to its parts, every node of a least tree shows.
use Prim.Native.Nat.{ℕ, zero, suc, ◌≤◌}
use mathlib.Core.List.{List, [], ◌∷◌, ◌++◌}
use native.Mathlib.Omega.{arith}
use lib.ListN.{length, length-append}
use Rattle.rules.specs.Formula.{Formula}
use Rattle.trees.specs.declared.Node.{Node}
use Rattle.trees.specs.Rules.{Frame, Claim, claim, Rule}
use Rattle.trees.specs.Least.{Cost, Least}
use Rattle.trees.proofs.Forests.{tree-some}
use Rattle.theory.specs.inside.Level.{Level}
use Rattle.theory.specs.inside.LeastForests.{LeastFor, LeastForest, no_least, next_least}
use Rattle.theory.proofs.Runs.{Each, nothing, also}
use Rattle.theory.proofs.Horizon.{InWindow}
use Rattle.theory.proofs.LeastForests.{least-for, for-least}
use Rattle.theory.proofs.Windowed.{Windowed, window-least-inside, window-least-below}

pub data EachNode (P : Node → Type 0) : List Node → Type 0 where
  no_node : EachNode P []
  next_node : {x : Node} {ws : List Node} → P x → EachNode P ws → EachNode P (x ∷ ws)

pub each_append : {P : Node → Type 0} {ws vs : List Node} → EachNode P ws → EachNode P vs
    → EachNode P (ws ++ vs)
each_append no_node qs = qs
each_append (next_node p ps) qs = next_node p (each_append ps qs)

-- I is what is known of a claim, P what is to be shown of its root.
module _ {cost : Cost} {frame : Frame} {I : Claim → Type 0} {P : Node → Type 0} where
  forest-nodes : (m : ℕ)
      → ((c : Claim) (ws : List Node) → length ws ≤ m → I c → LeastFor cost frame c ws → EachNode P ws)
      → {cs : List Claim} {ws : List Node} → length ws ≤ m → Each I cs → LeastForest cost frame cs ws
      → EachNode P ws
  forest-nodes m each le nothing no_least = no_node
  forest-nodes m each le (also i is) (next_least {c} {ws} {vs} l ls) =
      each_append (each c ws (omega (arith, length-append ws vs)) i l)
      (forest-nodes m each (omega (arith, length-append ws vs)) is ls)

module _ {cost : Cost} (lv : Level cost) {frame : Frame} {u v reach : ℕ} (w : Windowed frame u v reach)
    {I : Claim → Type 0} {P : Node → Type 0}
    (show : (c : Claim) (x : Node) (needs : List Claim) → Rule frame c x needs → InWindow u v c x → I c → P x)
    (hand : (c : Claim) (x : Node) (needs : List Claim) → Rule frame c x needs → InWindow u v c x → I c
    → Each I needs) where
  root-nodes : (m : ℕ)
      → ((c : Claim) (ws : List Node) → length ws ≤ m → I c → LeastFor cost frame c ws → EachNode P ws)
      → (c : Claim) (ws : List Node) → length ws ≤ suc m → I c → LeastFor cost frame c ws → EachNode P ws
  root-nodes m each c [] le i l = no_node
  root-nodes m each c (x ∷ ws) le i l =
      let near = window-least-inside w lv (for-least l) in
      let b = window-least-below w (for-least l) in
      next_node (show c x b.needs b.rule near i)
      (forest-nodes m each (omega arith) (hand c x b.needs b.rule near i) b.parts)

  -- the bound m falls with the length: each part is shorter than the whole
  nodes-below : (m : ℕ) (c : Claim) (ws : List Node) → length ws ≤ m → I c → LeastFor cost frame c ws
      → EachNode P ws
  nodes-below zero c ws le i l = absurd (omega (arith, tree-some l.valid))
  nodes-below (suc m) c ws le i l = root-nodes m (nodes-below m) c ws le i l

  pub least-nodes : {f : Formula} {i : ℕ} {ws : List Node} (l : Least cost frame f i ws)
      → I (claim f i l.verdict) → EachNode P ws
  least-nodes {f} {i} {ws} l known =
      nodes-below (length ws) (claim f i l.verdict) ws (omega arith) known (least-for l)
