-- Valid trees: a node whose rule proves the claim, and then the trees of its parts, in order.
use Rattle.std.specs.Prelude.{List, [], ◌∷◌, ◌++◌}
use Rattle.trees.specs.declared.Node.{Node}
use Rattle.trees.specs.Rules.{Frame, Claim, Rule}

mutual
  pub data Tree (frame : Frame) : Claim → List Node → Type 0 where
    grown : {c : Claim} {x : Node} {needs : List Claim} {ws : List Node}
        → Rule frame c x needs → Forest frame needs ws → Tree frame c (x ∷ ws)

  -- a tree for each claim of a list, one after the other
  pub data Forest (frame : Frame) : List Claim → List Node → Type 0 where
    none : Forest frame [] []
    more : {c : Claim} {cs : List Claim} {ws vs : List Node}
        → Tree frame c ws → Forest frame cs vs → Forest frame (c ∷ cs) (ws ++ vs)
