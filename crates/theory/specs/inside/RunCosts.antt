-- What a run of positions costs together, by what each of them costs.
use Rattle.std.specs.Prelude.{ℕ, zero, suc, ◌+◌}

-- The sum of price from, price (from + 1), and so on, n terms.
abbrev pub sum_run : (ℕ → ℕ) → ℕ → ℕ → ℕ
sum_run price from zero = 0
sum_run price from (suc n) = price from + sum_run price (suc from) n
