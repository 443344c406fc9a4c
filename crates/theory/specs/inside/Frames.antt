-- When rule 16 may be trusted: its count reaches so far that what is violated all through
-- the window is violated for ever.
use Rattle.std.specs.Prelude.{ℕ, ◌+◌, ◌<◌, ◌≤◌}
use Rattle.rules.specs.Formula.{Formula, height}
use Rattle.rules.specs.Meaning.{Meant}
use Rattle.rules.specs.declared.Side.TheVariants.{Past}
use Rattle.trees.specs.Rules.{Frame}

pub record Lawful (frame : Frame) : Type 0 where
  pub ever : (g : Formula) (i : ℕ)
      → ((k : ℕ) → i ≤ k → k < i + frame.count i (height Past g) → ¬ Meant frame.letter g k) → (k : ℕ)
      → i ≤ k → ¬ Meant frame.letter g k
