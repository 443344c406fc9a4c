-- What the valid trees of a claim cost, and the least number of a set, cut off.
use Rattle.std.specs.Prelude.{ℕ, ◌+◌, ◌<◌, ◌≤◌, min, ◌≡◌, List}
use Rattle.trees.specs.declared.Node.{Node}
use Rattle.trees.specs.Rules.{Frame, Claim}
use Rattle.trees.specs.Trees.{Tree, Forest}
use Rattle.trees.specs.Least.{Cost, cost_of}
use Rattle.schedule.specs.Limits.{max_words}

-- A valid tree of the claim costs n.
pub record TreeCosts (cost : Cost) (frame : Frame) (c : Claim) (n : ℕ) : Type 0 where
  pub nodes : List Node
  pub tree : Tree frame c nodes
  pub costs : cost_of cost nodes ≡ n

-- Valid trees of the claims, one each, cost n together.
pub record ForestCosts (cost : Cost) (frame : Frame) (cs : List Claim) (n : ℕ) : Type 0 where
  pub nodes : List Node
  pub forest : Forest frame cs nodes
  pub costs : cost_of cost nodes ≡ n

-- One more than the greatest cost that is told apart.
abbrev pub cut_off : ℕ
cut_off = max_words + 1

abbrev pub cut : ℕ → ℕ
cut n = min n cut_off

-- The least number of a set, or 4,096 if it has none below.
pub record CutLeast (P : ℕ → Type 0) (p : ℕ) : Type 0 where
  pub top : p ≤ cut_off
  pub under : (n : ℕ) → P n → p ≤ n
  pub met : p < cut_off → P p

-- A number of one set and a number of another, added up.
pub record Sum (P Q : ℕ → Type 0) (n : ℕ) : Type 0 where
  pub first : ℕ
  pub second : ℕ
  pub one : P first
  pub other : Q second
  pub adds : first + second ≡ n

-- A number of the set, and k.
pub record Raised (k : ℕ) (P : ℕ → Type 0) (n : ℕ) : Type 0 where
  pub from : ℕ
  pub one : P from
  pub adds : k + from ≡ n
