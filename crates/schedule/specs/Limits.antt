-- The limits of the job.
use Rattle.std.specs.Prelude.{ℕ}

-- Letters of prefix and loop together.
abbrev pub max_letters : ℕ
max_letters = 48

-- Entries of a table.
abbrev pub max_entries : ℕ
max_entries = 32

-- The two heights of an entry together.
abbrev pub max_height : ℕ
max_height = 5

-- The largest position that can be asked.
abbrev pub max_position : ℕ
max_position = 255

-- The most words of a tree.
abbrev pub max_words : ℕ
max_words = 4095

-- The least length of a work slice.
abbrev pub work_length : ℕ
work_length = 16384
