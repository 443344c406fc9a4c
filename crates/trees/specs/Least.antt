-- The order of trees, and the least tree of a formula at a position.
use Rattle.std.specs.Prelude.{ℕ, ◌+◌, ◌<◌, ◌≤◌, ◌≡◌, List, [], ◌∷◌}
use Rattle.std.proofs.Common.{le_refl}
use Rattle.rules.specs.Formula.{Formula}
use Rattle.trees.specs.declared.Node.{Node}
use Rattle.trees.specs.Rules.{Frame, claim}
use Rattle.trees.specs.Trees.{Tree}
use Rattle.trees.specs.declared.Verdict.{Verdict}

-- A cost gives each node a number of at least 1 that depends on its rule and its atom alone.
pub record Cost : Type 0 where
  pub weigh : ℕ → ℕ → ℕ
  pub some : (r a : ℕ) → 1 ≤ weigh r a

abbrev pub cost_of : Cost → List Node → ℕ
cost_of cost [] = 0
cost_of cost (x ∷ ws) = cost.weigh x.rule x.atom + cost_of cost ws

-- Each node costs 1, so a tree costs its number of nodes.
abbrev pub ones : Cost
ones = record { weigh = λ r a. 1; some = λ r a. le_refl 1 }

-- The smaller word: by rule, then atom, then number.
pub data NodeBefore : Node → Node → Type 0 where
  by_rule : {x y : Node} → x.rule < y.rule → NodeBefore x y
  by_atom : {x y : Node} → x.rule ≡ y.rule → x.atom < y.atom → NodeBefore x y
  by_number : {x y : Node} → x.rule ≡ y.rule → x.atom ≡ y.atom → x.number < y.number → NodeBefore x y

-- The smaller word at the first place where they differ.
pub data Before : List Node → List Node → Type 0 where
  here : {x y : Node} {ws vs : List Node} → NodeBefore x y → Before (x ∷ ws) (y ∷ vs)
  later : {x : Node} {ws vs : List Node} → Before ws vs → Before (x ∷ ws) (x ∷ vs)

-- Cheaper, or as cheap and the same or with the smaller word at the first place where they differ.
pub data AtOrBefore (cost : Cost) (ws vs : List Node) : Type 0 where
  cheaper : cost_of cost ws < cost_of cost vs → AtOrBefore cost ws vs
  earlier : cost_of cost ws ≡ cost_of cost vs → Before ws vs → AtOrBefore cost ws vs
  same : ws ≡ vs → AtOrBefore cost ws vs

-- The least tree: valid, and at or before every valid tree of either verdict.
pub record Least (cost : Cost) (frame : Frame) (f : Formula) (i : ℕ) (ws : List Node) : Type 0 where
  pub verdict : Verdict
  pub valid : Tree frame (claim f i verdict) ws
  pub least : (s : Verdict) (vs : List Node) → Tree frame (claim f i s) vs → AtOrBefore cost ws vs
