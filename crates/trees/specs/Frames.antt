-- What the rules ask of a schedule of two lists.
use Rattle.std.specs.Prelude.{ℕ, ◌+◌, ◌-◌, ◌*◌, max, List, length}
use Rattle.schedule.specs.Letters.{letter_at}
use Rattle.trees.specs.Rules.{Frame}

-- The count of rule 16: m + v - i, where m is the larger of i and u + v × past height.
abbrev pub window_count : ℕ → ℕ → ℕ → ℕ → ℕ
window_count u v i h = max i (u + v * h) + v - i

abbrev pub schedule_frame : List ℕ → List ℕ → Frame
schedule_frame prefix loop =
    record { letter = letter_at prefix loop; count = window_count (length prefix) (length loop) }
