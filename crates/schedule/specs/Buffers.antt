-- What is left in lent memory.
use Rattle.std.specs.Prelude.{ℕ, ◌+◌, List, ◌++◌, length, take, drop, replicate}
use Rattle.schedule.specs.Limits.{work_length}

-- Words from a place on, all else as found.
unfoldable pub put : ℕ → List ℕ → List ℕ → List ℕ
put at words found = take at found ++ (words ++ drop (at + length words) found)

-- The work slice cleared: its first 16,384 numbers are 0, and those past them are as found.
unfoldable pub cleared : List ℕ → List ℕ
cleared work = replicate work_length 0 ++ drop work_length work
