-- Formulas of linear temporal logic with past and future, and their two heights.
use Rattle.std.specs.Prelude.{ℕ, ◌+◌, max}
use Rattle.rules.specs.declared.Side.{Side}
use Rattle.rules.specs.declared.Side.TheVariants.{Past, Future}

pub data Formula : Type 0 where
  atom : ℕ → Formula
  notᶠ : Formula → Formula
  orᶠ : Formula → Formula → Formula
  andᶠ : Formula → Formula → Formula
  since : Formula → Formula → Formula
  until : Formula → Formula → Formula

-- What since adds to a height, and what until adds.
abbrev pub since_adds : Side → ℕ
since_adds Past = 1
since_adds Future = 0

abbrev pub until_adds : Side → ℕ
until_adds Past = 0
until_adds Future = 1

-- The greatest height of the parts, plus 1 for since on the past side and for until on
-- the future side; an atom has 0.
abbrev pub height : Side → Formula → ℕ
height s (atom a) = 0
height s (notᶠ f) = height s f
height s (orᶠ f g) = max (height s f) (height s g)
height s (andᶠ f g) = max (height s f) (height s g)
height s (since f g) = max (height s f) (height s g) + since_adds s
height s (until f g) = max (height s f) (height s g) + until_adds s
