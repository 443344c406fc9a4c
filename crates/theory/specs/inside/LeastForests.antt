-- The least trees of a list of claims, one after the other.
use Rattle.std.specs.Prelude.{ℕ, ◌+◌, List, [], ◌∷◌, ◌++◌}
use Rattle.trees.specs.declared.Node.{Node}
use Rattle.trees.specs.Rules.{Frame, Claim, claim}
use Rattle.trees.specs.Trees.{Tree}
use Rattle.trees.specs.Least.{Cost, AtOrBefore}
use Rattle.trees.specs.declared.Verdict.{Verdict}

-- The least tree of the claim's formula and position, and it has the claim's verdict.
pub record LeastFor (cost : Cost) (frame : Frame) (c : Claim) (ws : List Node) : Type 0 where
  pub valid : Tree frame c ws
  pub least : (s : Verdict) (vs : List Node) → Tree frame (claim c.formula c.position s) vs
      → AtOrBefore cost ws vs

pub data LeastForest (cost : Cost) (frame : Frame) : List Claim → List Node → Type 0 where
  no_least : LeastForest cost frame [] []
  next_least : {c : Claim} {cs : List Claim} {ws vs : List Node}
      → LeastFor cost frame c ws → LeastForest cost frame cs vs → LeastForest cost frame (c ∷ cs) (ws ++ vs)

-- What the claims of a list cost together, by what each of them costs.
abbrev pub sum_over : (Claim → ℕ) → List Claim → ℕ
sum_over price [] = 0
sum_over price (c ∷ cs) = price c + sum_over price cs
