-- The word of an entry.
use Rattle.std.specs.Prelude.{ℕ, ◌+◌, ◌*◌}

-- kind × 65,536 + left × 256 + right.
abbrev pub entry_word : ℕ → ℕ → ℕ → ℕ
entry_word kind left right = kind * 65536 + left * 256 + right
