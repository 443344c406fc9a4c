-- What the test of one node relies on and answers.
use Rattle.std.specs.Prelude.{ℕ, ◌+◌, ◌*◌, ◌^◌, ◌<◌, ◌≤◌, Bool, true, false, List}
use Rattle.schedule.specs.Limits.{max_letters, max_entries}
use Rattle.trees.specs.declared.Node.{Node}
use Rattle.trees.specs.Rules.{Frame, Claim, Rule}
use Rattle.trees.specs.Place.{NoRule}

-- Within the limits: the lengths of prefix and loop, and an entry and a position from which no part
-- lies too far off to be a number.
pub record Within (u v e i : ℕ) : Type 0 where
  pub prefix : u ≤ max_letters
  pub loop : v ≤ max_letters
  pub entry : e < max_entries
  pub reach : i + 65536 * e < 2 ^ 40

-- A rule of the table makes the node prove the claim, or the node is wrong for it.
pub data Tested (frame : Frame) (c : Claim) (x : Node) : Bool → Type 0 where
  fits : {needs : List Claim} → Rule frame c x needs → Tested frame c x true
  unfit : NoRule frame c x → Tested frame c x false
