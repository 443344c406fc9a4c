-- What the writer relies on, and what it leaves in the tree buffer:
-- the least tree from a place on, all else as found.
use Rattle.std.specs.Prelude.{ℕ, suc, ◌+◌, ◌<◌, ◌≤◌, ◌≡◌, List, ◌∷◌, map, length}
use Rattle.rules.specs.Formula.{Formula}
use Rattle.rules.specs.Tables.{formula_of}
use Rattle.trees.specs.Nodes.{node_of}
use Rattle.trees.specs.declared.Node.{Node}
use Rattle.trees.specs.Rules.{Frame}
use Rattle.trees.specs.Frames.{schedule_frame}
use Rattle.trees.specs.Least.{Cost, cost_of, Least}
use Rattle.theory.specs.inside.Cols.{cols}
use Rattle.theory.specs.inside.Costs.{cut_off}
use Rattle.rows.specs.inside.Rows.{row_of}
use Rattle.search.specs.inside.Filling.{FilledBelow, Limited}
use Rattle.roots.specs.inside.Rooted.{cell_price}
use Rattle.schedule.specs.Buffers.{put}

-- The rows up to the entry are filled for some reach, the position lies in its row,
-- and its tree is not too large.
pub record Writable (cost : Cost) (prefix loop table : List ℕ) (e i : ℕ) (work : List ℕ) : Type 0 where
  pub reach : ℕ
  pub limited : Limited (length prefix) (length loop) reach table e (length work)
  pub filled : FilledBelow cost (schedule_frame prefix loop) table reach (length loop) (suc e) work
  pub near : i < cols reach (length loop) (formula_of table e)
  pub small : cell_price (row_of work e i) < cut_off

-- The words of the least tree fit from a place on.
pub record Room (cost : Cost) (frame : Frame) (f : Formula) (i at len : ℕ) : Type 0 where
  pub room : (ws : List Node) → Least cost frame f i ws → at + length ws ≤ len

-- The node is the root of the least tree, whose cost is a price.
pub record RootOfLeast (cost : Cost) (frame : Frame) (f : Formula) (i price : ℕ) (x : Node) : Type 0 where
  pub below : List Node
  pub least : Least cost frame f i (x ∷ below)
  pub priced : cost_of cost (x ∷ below) ≡ price

-- So is a root that was found, and its fields fit a word.
pub record Rooted (cost : Cost) (frame : Frame) (f : Formula) (i price : ℕ) (r : Node) : Type 0 where
  pub leads : RootOfLeast cost frame f i price r
  pub rule_fits : r.rule < 256
  pub atom-fits : r.atom < 256
  pub number_fits : r.number < 65536

-- The words of the least tree stand from a place to the next.
pub record Writes (cost : Cost) (frame : Frame) (f : Formula) (i at : ℕ) (found left : List ℕ)
    (next : ℕ) : Type 0 where
  pub words : List ℕ
  pub least : Least cost frame f i (map node_of words)
  pub ends : next ≡ at + length words
  pub inside : next ≤ length found
  pub leaves : left ≡ put at words found
