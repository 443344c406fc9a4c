-- What the walk answers.
use Rattle.std.specs.Prelude.{ℕ, ◌-◌, ◌<◌, ◌≤◌, List, ◌∷◌, length, drop, Result, Ok, Err}
use Rattle.std.proofs.Math.Seq.{slice}
use Rattle.trees.specs.declared.Node.{Node}
use Rattle.trees.specs.Rules.{Frame, Claim}
use Rattle.trees.specs.Trees.{Tree}
use Rattle.trees.specs.Place.{Breaks}
use Rattle.walks.specs.declared.Broken.{Broken}

-- A tree stands from one place to the next, or no tree stands there and the words break off at a place,
-- whatever claims were to follow.
abbrev pub Walks : Frame → Claim → List Node → ℕ → Result ℕ Broken → Type 0
Walks frame c nodes at (Ok k) = (at < k) × (k ≤ length nodes) × Tree frame c (slice at k nodes)
Walks frame c nodes at (Err e) =
    (at ≤ e.place) × (e.place ≤ length nodes)
    × ((rest : List Claim) → Breaks frame (c ∷ rest) (drop at nodes) (e.place - at))
    × ((k : ℕ) → k ≤ length nodes → ¬ Tree frame c (slice at k nodes))
