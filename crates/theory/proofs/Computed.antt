-- Truth by search computes: small schedules, each answer by computation alone.
use Prim.Native.Nat.{ℕ}
use mathlib.Core.Path.{◌≡◌, refl}
use mathlib.Core.Bool.{Bool, true, false}
use mathlib.Core.List.{[], ◌∷◌}
use Rattle.schedule.specs.Letters.{letter_at}
use Rattle.rules.specs.Formula.{Formula, atom, notᶠ, orᶠ, andᶠ, since, until}
use Rattle.theory.specs.inside.Truth.{truth}

-- prefix 1, loop 4 2: atom 0 at 0 alone, atom 2 at 1, 3, 5 .., atom 1 at 2, 4, 6 .., atom 3 nowhere
abbrev seam : Formula → ℕ → Bool
seam = truth (letter_at (1 ∷ []) (4 ∷ 2 ∷ [])) 1 2

-- atom 0 breaks off at 1, before atom 1 comes
until-broken : seam (until (atom 0) (atom 1)) 0 ≡ false
until-broken = refl

until-bridged : seam (until (orᶠ (atom 0) (atom 2)) (atom 1)) 0 ≡ true
until-bridged = refl

-- the left side holds for ever, and that is not enough
until-never : seam (until (notᶠ (atom 3)) (atom 3)) 7 ≡ false
until-never = refl

since-beginning : seam (since (notᶠ (atom 0)) (atom 0)) 9 ≡ true
since-beginning = refl

since-broken : seam (since (atom 1) (atom 0)) 2 ≡ false
since-broken = refl

-- always eventually atom 1
always-again : seam (notᶠ (until (notᶠ (atom 3)) (notᶠ (until (notᶠ (atom 3)) (atom 1))))) 5 ≡ true
always-again = refl

-- no prefix, loop 1 2: the first atom 0 with an atom 1 behind it stands at 2, a lap past the prefix, in the
-- window because of its past height
past-counts : truth (letter_at [] (1 ∷ 2 ∷ [])) 0 2
    (until (notᶠ (atom 3)) (andᶠ (atom 0) (since (notᶠ (atom 3)) (atom 1)))) 0
    ≡ true
past-counts = refl
