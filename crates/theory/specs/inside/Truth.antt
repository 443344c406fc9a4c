-- Truth by search: what a formula is at a position of a word that repeats,
-- found by looking at finitely many positions.
use Rattle.std.specs.Prelude.{ℕ, zero, suc, ◌-◌, ◌/◌, ◌%◌, ◌^◌, Bool, false, not, ◌&&◌, ◌||◌, eqb}
use Rattle.rules.specs.Formula.{Formula, atom, notᶠ, orᶠ, andᶠ, since, until}
use Rattle.theory.specs.inside.Threshold.{window_end}

-- In each case below a `let` binds what need not be looked at, so that it is computed only if it is.

-- From i down to 0: b here, or a here and the same one position earlier.
abbrev pub since_back : (ℕ → Bool) → (ℕ → Bool) → ℕ → Bool
since_back a b zero = b zero
since_back a b (suc i) =
    let earlier = since_back a b i in
    let on = a (suc i) && earlier in
    b (suc i) || on

-- From i upwards over n positions: b here, or a here and the same one position later.
abbrev pub until_ahead : (ℕ → Bool) → (ℕ → Bool) → ℕ → ℕ → Bool
until_ahead a b zero i = false
until_ahead a b (suc n) i =
    let later = until_ahead a b n (suc i) in
    let on = a i && later in
    b i || on

-- What f is at i, in a word that repeats from u on with the lap v.
-- Until looks as far as the window of its right side.
abbrev pub truth : (ℕ → ℕ) → ℕ → ℕ → Formula → ℕ → Bool
truth word u v (atom a) i = eqb (word i / 2 ^ a % 2) 1
truth word u v (notᶠ f) i = not (truth word u v f i)
truth word u v (orᶠ f g) i = let right = truth word u v g i in truth word u v f i || right
truth word u v (andᶠ f g) i = let right = truth word u v g i in truth word u v f i && right
truth word u v (since f g) i = since_back (truth word u v f) (truth word u v g) i
truth word u v (until f g) i = until_ahead (truth word u v f) (truth word u v g) (window_end u v g i - i) i
