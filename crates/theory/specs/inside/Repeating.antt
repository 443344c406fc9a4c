-- What the rules ask of a word that repeats from u on with the lap v; a schedule's frame is one of these.
use Rattle.std.specs.Prelude.{ℕ}
use Rattle.trees.specs.Rules.{Frame}
use Rattle.trees.specs.Frames.{window_count}

abbrev pub repeat_frame : (ℕ → ℕ) → ℕ → ℕ → Frame
repeat_frame word u v = record { letter = word; count = window_count u v }
