-- Truth by search is the meaning: whatever the word that repeats, the formula and the position.
use Prim.Native.Nat.{ℕ, zero, suc, ◌+◌, ◌-◌, ◌<◌, ◌≤◌}
use mathlib.Core.Path.{◌≡◌}
use mathlib.Core.Logic.{◌↔◌, by_cases}
use mathlib.Core.Bool.{Bool, true}
use mathlib.Core.List.{List}
use native.Mathlib.Decide.{dec_lt}
use native.Mathlib.Omega.{arith}
use lib.ListN.{length}
use Rattle.schedule.specs.Letters.{letter_at}
use Rattle.rules.specs.Formula.{Formula, atom, notᶠ, orᶠ, andᶠ, since, until}
use Rattle.rules.specs.Meaning.{Meant, SinceMeant, UntilMeant}
use Rattle.theory.specs.inside.Words.{Repeats}
use Rattle.theory.specs.inside.Threshold.{window_end}
use Rattle.theory.specs.inside.Truth.{truth, since_back, until_ahead}
use Rattle.theory.proofs.Words.{schedule-repeats}
use Rattle.theory.proofs.Window.{violated-ever}
use Rattle.theory.proofs.Says.{Says, wrong, says-exact, says-decided, says-follows, says-alike}
use Rattle.theory.proofs.Says.{says-not, says-or, says-and, says-equal}
use Rattle.rules.proofs.Neighbours.{since-first, since-unrolled, until-unrolled}

-- until with a place below an end
abbrev pub UntilBelow : (A B : ℕ → Type 0) (end i : ℕ) → Type 0
UntilBelow A B end i = UntilMeant A (λ k. B k × (k < end)) i

module _ {A B : ℕ → Type 0} {end i : ℕ} where
  pub below-until : UntilBelow A B end i → UntilMeant A B i
  below-until w = record { place = w.place; order = w.order; there = w.there.0; between = w.between }

  -- every right side up to the place is a place too
  until-below : (w : UntilMeant A B i) (k : ℕ) → i ≤ k → k ≤ w.place → k < end → B k → UntilBelow A B end i
  until-below w k ge le lt h =
      record {
        place = k;
        order = ge;
        there = (h, lt);
        between = λ m from to. w.between m from (omega arith);
      }

  -- A place at or past the end means that the left side held all the way to the end,
  -- so no right side lies before it.
  pub below_none : (((k : ℕ) → i ≤ k → k < end → ¬ B k) → (k : ℕ) → i ≤ k → ¬ B k) → ¬ UntilBelow A B end i
      → ¬ UntilMeant A B i
  below_none ever none w =
      by_cases (dec_lt w.place end)
      (λ near. none (until-below w w.place w.order (omega arith) near w.there))
      (λ far. ever (λ k ge lt h. none (until-below w k ge (omega arith) lt h)) w.place
      w.order w.there)

module _ {A B : ℕ → Type 0} {a b : ℕ → Bool} (sa : (k : ℕ) → Says (A k) (a k))
    (sb : (k : ℕ) → Says (B k) (b k)) where
  since_back-says : (i : ℕ) → Says (SinceMeant A B i) (since_back a b i)
  since_back-says zero = says-alike since-first (sb zero)
  since_back-says (suc i) =
      says-alike (since-unrolled i) (says-or (sb (suc i)) (says-and (sa (suc i)) (since_back-says i)))

  until_ahead-says : (end n i : ℕ) → i + n ≡ end → Says (UntilBelow A B end i) (until_ahead a b n i)
  until_ahead-says end zero i e = wrong (λ w. omega (arith, w.there.1))
  until_ahead-says end (suc n) i e =
      says-alike (until-unrolled i)
      (says-or (says-alike (λ h. (h, omega arith), λ h. h.0) (sb i))
      (says-and (sa i) (until_ahead-says end n (suc i) (omega arith))))

module _ {word : ℕ → ℕ} {u v : ℕ} (w : Repeats word u v) where
  pub truth-says : (f : Formula) (i : ℕ) → Says (Meant word f i) (truth word u v f i)
  truth-says (atom a) i = says-equal _ 1
  truth-says (notᶠ f) i = says-not (truth-says f i)
  truth-says (orᶠ f g) i = says-or (truth-says f i) (truth-says g i)
  truth-says (andᶠ f g) i = says-and (truth-says f i) (truth-says g i)
  truth-says (since f g) i = since_back-says (truth-says f) (truth-says g) i
  truth-says (until f g) i =
      says-follows below-until (below_none (violated-ever w g i))
      (until_ahead-says (truth-says f) (truth-says g) (window_end u v g i) (window_end u v g i - i)
      i (omega arith))

  pub truth-exact : (f : Formula) (i : ℕ) → (truth word u v f i ≡ true) ↔ Meant word f i
  truth-exact f i = says-exact (truth-says f i)

  pub decided : (f : Formula) (i : ℕ) → Dec (Meant word f i)
  decided f i = says-decided (truth-says f i)

module _ (prefix loop : List ℕ) (some : 0 < length loop) where
  pub schedule-truth-exact : (f : Formula) (i : ℕ)
      → (truth (letter_at prefix loop) (length prefix) (length loop) f i ≡ true)
      ↔ Meant (letter_at prefix loop) f i
  schedule-truth-exact = truth-exact (schedule-repeats prefix loop some)
