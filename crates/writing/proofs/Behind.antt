-- What the writer keeps from part to part: the root whose word stands at a place, and what stands behind it.
use Prim.Native.Nat.{ℕ, ◌+◌}
use mathlib.Core.Path.{◌≡◌}
use mathlib.Core.List.{List}
use lib.ListN.{get_or}
use Rattle.trees.specs.Nodes.{node_of}
use Rattle.trees.specs.declared.Node.{Node}
use Rattle.trees.specs.Frames.{schedule_frame}
use Rattle.trees.specs.Least.{ones}
use Rattle.nodes.specs.inside.Demands.{claims_of}
use Rattle.nodes.specs.declared.Demands.{Demands}
use Rattle.writing.proofs.Underway.{Underway}
use Rattle.writing.proofs.Planned.{Planned}

pub record StandsBehind (prefix loop table : List ℕ) (e i at : ℕ) (work : List ℕ) (demands : Demands)
    (found tree : List ℕ) (next m : ℕ) : Type 0 where
  pub root : Node
  pub rooted : node_of (get_or found at 0) ≡ root
  pub plan : Planned ones prefix loop table e i work root demands
  pub passed : Underway ones (schedule_frame prefix loop) (claims_of table demands) plan.below (at + 1)
      found tree next m
