-- The best tree of a claim, if it has any: best parts below each root that the claim
-- allows, one root after the other.
use Prim.Native.Nat.{ℕ, zero, suc, ◌+◌, ◌<◌, ◌≤◌}
use mathlib.Core.Path.{subst}
use mathlib.Core.Logic.{⊎_elim, by_cases}
use mathlib.Core.List.{List, [], ◌∷◌, ◌++◌}
use native.Mathlib.Decide.{dec_lt}
use native.Mathlib.Omega.{arith}
use Rattle.trees.specs.declared.Node.{Node}
use Rattle.trees.specs.Rules.{Frame, Claim, Rule}
use Rattle.trees.specs.Trees.{Tree, grown, Forest, more}
use Rattle.trees.specs.Least.{Cost, AtOrBefore}
use Rattle.trees.proofs.Order.{at-reflexive, at-transitive, at-later, tree-total}
use Rattle.theory.specs.inside.LeastForests.{LeastFor, LeastForest, no_least, next_least}
use Rattle.theory.proofs.LeastForests.{least-forest-valid, least-forest-first}
use Rattle.theory.proofs.Roots.{AheadOfRoot, ahead_before}
use Rattle.theory.proofs.Runs.{Each, nothing, also}

pub data Best (cost : Cost) (frame : Frame) (c : Claim) : Type 0 where
  absent : ((ws : List Node) → ¬ Tree frame c ws) → Best cost frame c
  best : (ws : List Node) → LeastFor cost frame c ws → Best cost frame c

data BestParts (cost : Cost) (frame : Frame) (cs : List Claim) : Type 0 where
  no_parts : ((ws : List Node) → ¬ Forest frame cs ws) → BestParts cost frame cs
  best_parts : (ws : List Node) → LeastForest cost frame cs ws → BestParts cost frame cs

module _ {frame : Frame} {c : Claim} {cs : List Claim} where
  first_absent : ((ws : List Node) → ¬ Tree frame c ws) → (ws : List Node) → ¬ Forest frame (c ∷ cs) ws
  first_absent n ws (more t fs) = n _ t

  rest-absent : ((ws : List Node) → ¬ Forest frame cs ws) → (ws : List Node) → ¬ Forest frame (c ∷ cs) ws
  rest-absent n ws (more t fs) = n _ fs

module _ {cost : Cost} {frame : Frame} where
  best-parts : {cs : List Claim} → Each (Best cost frame) cs → BestParts cost frame cs
  best-parts nothing = best_parts [] no_least
  best-parts (also (absent n) bs) = no_parts (first_absent n)
  best-parts (also (best ws l) bs) = elim (best-parts bs) [
    | no_parts n ↦ no_parts (rest-absent n)
    | best_parts vs ls ↦ best_parts (ws ++ vs) (next_least l ls)
  ]

-- A tree at or before the nodes ws, and ahead of the root x.
pub record Tried (cost : Cost) (frame : Frame) (c : Claim) (ws : List Node) (x : Node)
    (needs : List Claim) : Type 0 where
  pub nodes : List Node
  pub tree : Tree frame c nodes
  pub no-worse : AtOrBefore cost nodes ws
  pub ahead : AheadOfRoot cost frame nodes x needs

module _ {cost : Cost} {frame : Frame} {c : Claim} {x : Node} {needs : List Claim} {ws : List Node}
    (r : Rule frame c x needs) (t : Tree frame c ws) where
  try-parts : BestParts cost frame needs → Tried cost frame c ws x needs
  try-parts (no_parts n) = record {
    nodes = ws;
    tree = t;
    no-worse = at-reflexive;
    ahead = record { first = λ vs fs. absurd (n vs fs) };
  }
  try-parts (best_parts us ls) =
      let s = grown r (least-forest-valid ls) in
      let a : AheadOfRoot cost frame (x ∷ us) x needs
      = record { first = λ vs gs. at-later x (least-forest-first ls gs) } in
      ⊎_elim (λ old. record { nodes = ws; tree = t; no-worse = at-reflexive; ahead = ahead_before old a })
      (λ new. record { nodes = x ∷ us; tree = s; no-worse = new; ahead = a }) (tree-total t s)

  pub try : Each (Best cost frame) needs → Tried cost frame c ws x needs
  try bs = try-parts (best-parts bs)

-- The same for a root that has a count: ahead of every count from lo on, below lo + k.
pub record TriedAll (cost : Cost) (frame : Frame) (c : Claim) (ws : List Node) (x : ℕ → Node)
    (needs : ℕ → List Claim) (lo k : ℕ) : Type 0 where
  pub nodes : List Node
  pub tree : Tree frame c nodes
  pub no-worse : AtOrBefore cost nodes ws
  pub ahead : (n : ℕ) → lo ≤ n → n < lo + k → AheadOfRoot cost frame nodes (x n) (needs n)

module _ {cost : Cost} {frame : Frame} {c : Claim} {ws : List Node} (x : ℕ → Node) (needs : ℕ → List Claim)
    (t : Tree frame c ws) (bs : (n : ℕ) → Each (Best cost frame) (needs n)) where
  pub try-all : (lo k : ℕ) → ((n : ℕ) → lo ≤ n → n < lo + k → Rule frame c (x n) (needs n))
      → TriedAll cost frame c ws x needs lo k
  try-all lo zero r =
      record { nodes = ws; tree = t; no-worse = at-reflexive; ahead = λ n ge lt. absurd (omega arith) }
  try-all lo (suc k) r =
      let a = try-all lo k (λ n ge lt. r n ge (omega arith)) in
      let b = try (r (lo + k) (omega arith) (omega arith)) a.tree (bs (lo + k)) in
      record {
        nodes = b.nodes;
        tree = b.tree;
        no-worse = at-transitive b.no-worse a.no-worse;
        ahead = λ n ge lt. by_cases (dec_lt n (lo + k))
            (λ in-it. ahead_before b.no-worse (a.ahead n ge in-it))
            (λ last. subst (λ m. AheadOfRoot cost frame b.nodes (x m) (needs m)) (omega arith) b.ahead);
      }
