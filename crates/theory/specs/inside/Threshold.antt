-- Where the meaning of a formula begins to repeat, u + v × past height,
-- and the window in which a first time lies, if there is one.
use Rattle.std.specs.Prelude.{ℕ, ◌+◌, ◌*◌, max}
use Rattle.rules.specs.Formula.{Formula, height}
use Rattle.rules.specs.declared.Side.TheVariants.{Past}

abbrev pub threshold : ℕ → ℕ → Formula → ℕ
threshold u v f = u + v * height Past f

-- The first position past the window of g at i: the window begins at i and ends a whole lap after
-- both i and the threshold of g.
abbrev pub window_end : ℕ → ℕ → Formula → ℕ → ℕ
window_end u v g i = max i (threshold u v g) + v
