-- Each part of a least tree is the least tree of its claim.
use Prim.Native.Nat.{ℕ}
use mathlib.Core.Path.{◌≡◌, sym, ◌∙◌}
use mathlib.Core.List.{List, [], ◌∷◌, ◌++◌, tail-eq_of_cons-eq}
use Rattle.rules.specs.Formula.{Formula}
use Rattle.trees.specs.declared.Node.{Node}
use Rattle.trees.specs.Rules.{Frame, Claim, claim, Rule}
use Rattle.trees.specs.Trees.{Tree, grown, Forest, none, more}
use Rattle.trees.specs.Least.{Cost, Least}
use Rattle.trees.specs.declared.Verdict.{Verdict}
use Rattle.trees.proofs.Needs.{needs-one, rule-sign, sign-one}
use Rattle.trees.proofs.Order.{at-later, at-antisymmetric}
use Rattle.theory.specs.inside.Frames.{Lawful}
use Rattle.theory.specs.inside.LeastForests.{LeastFor, LeastForest, no_least, next_least}
use Rattle.theory.proofs.LeastForests.{least-for, least-forest-valid, least-forest-first, same-verdict}

-- The root of a tree, its rule, and its parts, all of them least.
pub record LeastBelow (cost : Cost) (frame : Frame) (c : Claim) (x : Node) (ws : List Node) : Type 0 where
  pub needs : List Claim
  pub rule : Rule frame c x needs
  pub parts : LeastForest cost frame needs ws

below-given : {cost : Cost} {frame : Frame} {c : Claim} {x : Node} {needs : List Claim} {ws : List Node}
    → LeastBelow cost frame c x ws → Rule frame c x needs → LeastForest cost frame needs ws
below-given b r = rw (needs-one b.rule r) at b.parts

module _ {cost : Cost} {frame : Frame} (law : Lawful frame)
    (exists : (f : Formula) (i : ℕ) → (ws : List Node) × Least cost frame f i ws) where
  -- a claim that has a tree has a least one
  tree-least : {c : Claim} {ws : List Node} → Tree frame c ws → (vs : List Node) × LeastFor cost frame c vs
  tree-least {c} t =
      let l = exists c.formula c.position in
      (l.0, rw (same-verdict law l.1.verdict c.verdict l.1.valid t) at (least-for l.1))

  pub forest-least : {cs : List Claim} {ws : List Node} → Forest frame cs ws
      → (vs : List Node) × LeastForest cost frame cs vs
  forest-least none = ([], no_least)
  forest-least (more t fs) =
      let l = tree-least t in let ls = forest-least fs in (l.0 ++ ls.0, next_least l.1 ls.1)

  -- With least parts below the same root a tree comes at or before this one, so this one has them.
  below : {c : Claim} {x : Node} {ws : List Node} → Tree frame c (x ∷ ws) → LeastFor cost frame c (x ∷ ws)
      → LeastBelow cost frame c x ws
  below {c} {x} (grown r fs) l =
      let m = forest-least fs in
      let up = l.least c.verdict (x ∷ m.0) (grown r (least-forest-valid m.1)) in
      let down = at-later x (least-forest-first m.1 fs) in
      record {
        needs = _;
        rule = r;
        parts = rw (sym (tail-eq_of_cons-eq (at-antisymmetric up down))) at m.1;
      }

  pub least-below : {f : Formula} {i : ℕ} {x : Node} {ws : List Node} (l : Least cost frame f i (x ∷ ws))
      → LeastBelow cost frame (claim f i l.verdict) x ws
  least-below l = below l.valid (least-for l)

  -- the rule may be given: claim and root leave no choice
  pub least-parts : {f : Formula} {i : ℕ} {s : Verdict} {x : Node} {needs : List Claim} {ws : List Node}
      → Rule frame (claim f i s) x needs → Least cost frame f i (x ∷ ws) → LeastForest cost frame needs ws
  least-parts {s} r l =
      let b = least-below l in
      let same : l.verdict ≡ s = sign-one (rule-sign b.rule ∙ sym (rule-sign r)) in
      below-given (rw same at b) r
