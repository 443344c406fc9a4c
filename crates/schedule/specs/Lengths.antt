-- What two lengths make: refusal 1 if the loop is empty, else 2 if there are more than 48
-- letters in all, else the schedule.
use Rattle.std.specs.Prelude.{ℕ, ◌+◌, List, [], ◌∷◌, ◌≡◌, leb, ltb, Result, Ok, Err}
use Rattle.schedule.specs.Limits.{max_letters}
use Rattle.schedule.specs.Figures.{Figures, refusal}
use Rattle.schedule.specs.Tests.{Test, test, AllPass, FirstFails}
use Rattle.schedule.specs.declared.Schedule.{Schedule}
use Rattle.schedule.specs.declared.LengthError.{LengthError}
use Rattle.schedule.specs.declared.LengthError.TheVariants.{EmptyLoop, TooLong}

-- The figures of each case.
abbrev pub made_figures : Result Schedule LengthError → Figures
made_figures (Err EmptyLoop) = refusal 1
made_figures (Err TooLong) = refusal 2
made_figures (Ok s) = refusal 0

abbrev pub length_tests : ℕ → ℕ → List Test
length_tests u v = test 1 (ltb 0 v) ∷ test 2 (leb (u + v) max_letters) ∷ []

-- The constructor answers the first test that fails; where none does, the schedule has the two lengths.
abbrev pub Makes : ℕ → ℕ → Result Schedule LengthError → Type 0
Makes u v (Err e) = FirstFails (length_tests u v) (made_figures (Err e))
Makes u v (Ok s) = AllPass (length_tests u v) × (s ≡ record { prefix = u; looped = v })
