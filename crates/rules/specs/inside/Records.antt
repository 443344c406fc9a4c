-- The record that a list of words is read into.
use Rattle.std.specs.Prelude.{ℕ, ◌-◌, List, ◌++◌, length, replicate}
use Rattle.schedule.specs.Limits.{max_entries}
use Rattle.rules.specs.declared.Table.{Table}

-- The record of a list of at most 32 words: the words and their count, the places past them 0.
abbrev pub table_of : List ℕ → Table
table_of list = record { words = list ++ replicate (max_entries - length list) 0; len = length list }
