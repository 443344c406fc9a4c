-- What a tree saves against given nodes: its parts' savings add up,
-- and a run cut short saves at least 1 a member.
use Prim.Native.Nat.{ℕ, ◌+◌, ◌≤◌}
use mathlib.Core.Path.{◌≡◌, ap}
use mathlib.Core.List.{List, [], ◌∷◌, ◌++◌}
use native.Mathlib.Omega.{arith}
use lib.ListN.{length}
use Rattle.rules.specs.Formula.{Formula}
use Rattle.trees.specs.Nodes.{node}
use Rattle.trees.specs.declared.Node.{Node}
use Rattle.trees.specs.Rules.{Frame, Claim, claim, run, Rule}
use Rattle.trees.specs.Trees.{Tree, grown, Forest, none, more}
use Rattle.trees.specs.Least.{Cost, cost_of}
use Rattle.trees.specs.declared.Verdict.{Verdict}
use Rattle.trees.proofs.Claims.{run_length}
use Rattle.trees.proofs.Order.{cost-append, cost-some}
use Rattle.trees.proofs.Forests.{forest-parts, run-append}

-- A tree for the claim that costs less than the nodes ws, by m at least.
pub record Saves (cost : Cost) (frame : Frame) (m : ℕ) (c : Claim) (ws : List Node) : Type 0 where
  pub nodes : List Node
  pub tree : Tree frame c nodes
  pub less : cost_of cost nodes + m ≤ cost_of cost ws

pub record AllSave (cost : Cost) (frame : Frame) (m : ℕ) (cs : List Claim) (ws : List Node) : Type 0 where
  pub nodes : List Node
  pub forest : Forest frame cs nodes
  pub less : cost_of cost nodes + m ≤ cost_of cost ws

-- each tree of a forest costs at least 1
module _ (cost : Cost) {frame : Frame} where
  pub tree-cost : {c : Claim} {ws : List Node} → Tree frame c ws → 1 ≤ cost_of cost ws
  tree-cost (grown {x} {ws} r fs) = cost-some cost x ws

  pub forest-cost : {cs : List Claim} {ws : List Node} → Forest frame cs ws → length cs ≤ cost_of cost ws
  forest-cost none = omega arith
  forest-cost (more {ws} {vs} t fs) = omega (arith, cost-append cost ws vs, tree-cost t, forest-cost fs)

module _ {cost : Cost} {frame : Frame} where
  pub none-saves : AllSave cost frame 0 [] []
  none-saves = record { nodes = []; forest = none; less = omega arith }

  pub more-saves : {m n : ℕ} {c : Claim} {cs : List Claim} {ws vs : List Node}
      → Saves cost frame m c ws → AllSave cost frame n cs vs → AllSave cost frame (m + n) (c ∷ cs) (ws ++ vs)
  more-saves {ws} {vs} a b = record {
    nodes = a.nodes ++ b.nodes;
    forest = more a.tree b.forest;
    less = omega (arith, cost-append cost a.nodes b.nodes, cost-append cost ws vs);
  }

  -- the root's number may change
  pub grow-saves : {m : ℕ} {c : Claim} {x : Node} {needs : List Claim} {ws : List Node} → Rule frame c x needs
      → AllSave cost frame m needs ws → (n : ℕ) → Saves cost frame m c (node x.rule x.atom n ∷ ws)
  grow-saves {x} r fs n = record { nodes = x ∷ fs.nodes; tree = grown r fs.forest; less = omega arith }

  -- the same tree, at a position by another name
  pub same-saves : (f : Formula) (p k : ℕ) (s : Verdict) → p ≡ k → {ws : List Node}
      → Tree frame (claim f p s) ws → Saves cost frame 0 (claim f k s) ws
  same-saves f p k s e {ws} t = record { nodes = ws; tree = rw e at t; less = omega arith }

  -- the first n members of q
  pub cut-saves : (f : Formula) (p q k n m : ℕ) (s : Verdict) → p ≡ k → q ≡ n + m → {ws : List Node}
      → Forest frame (run f p q s) ws → AllSave cost frame m (run f k n s) ws
  cut-saves f p q k n m s e d fs =
      let parted = forest-parts (run f k n s) (rw (e, d, run-append f k n m s) at fs) in
      record {
        nodes = parted.before;
        forest = parted.first;
        less = omega (
          arith,
          forest-cost cost parted.second,
          run_length f (k + n) m s,
          ap (cost_of cost) parted.whole,
          cost-append cost parted.before parted.after,
        );
      }

  pub no-dearer : {m : ℕ} {c : Claim} {ws : List Node} → Saves cost frame m c ws → Saves cost frame 0 c ws
  no-dearer a = record { nodes = a.nodes; tree = a.tree; less = omega arith }

  pub at_least : {m n : ℕ} {cs : List Claim} {ws : List Node} → m ≤ n → AllSave cost frame n cs ws
      → AllSave cost frame m cs ws
  at_least le a = record { nodes = a.nodes; forest = a.forest; less = omega arith }
