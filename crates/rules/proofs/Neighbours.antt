-- since and until, one position at a time: the right side here, or the left side here
-- and the same at the neighbour.
use Prim.Native.Nat.{ℕ, zero, suc}
use mathlib.Core.Path.{subst}
use mathlib.Core.Logic.{◌↔◌, ◌⊎◌, inl, inr, ⊎_elim, by_cases}
use native.Mathlib.Decide.{dec_le}
use native.Mathlib.Omega.{arith}
use Rattle.rules.specs.Meaning.{SinceMeant, UntilMeant}

module _ {A B : ℕ → Type 0} where
  since-here : (i : ℕ) → B i → SinceMeant A B i
  since-here i h =
      record { place = i; order = omega arith; there = h; between = λ k lt le. absurd (omega arith) }

  pub since-first : B zero ↔ SinceMeant A B zero
  since-first = (since-here zero, λ s. subst B (omega arith) s.there)

  pub since-unrolled : (i : ℕ) → (B (suc i) ⊎ (A (suc i) × SinceMeant A B i)) ↔ SinceMeant A B (suc i)
  since-unrolled i = (⊎_elim (since-here (suc i)) (λ h. on h.0 h.1), apart)
    where
      on : A (suc i) → SinceMeant A B i → SinceMeant A B (suc i)
      on h s = record {
        place = s.place;
        order = omega arith;
        there = s.there;
        between = λ k lt le. by_cases (dec_le k i) (λ before. s.between k lt before)
            (λ here. subst A (omega arith) h);
      }

      apart : SinceMeant A B (suc i) → B (suc i) ⊎ (A (suc i) × SinceMeant A B i)
      apart s = by_cases (dec_le s.place i)
          (λ before. inr (
            s.between (suc i) (omega arith) (omega arith),
            record {
              place = s.place;
              order = before;
              there = s.there;
              between = λ k lt le. s.between k lt (omega arith);
            },
          ))
          (λ here. inl (subst B (omega arith) s.there))

  pub until-unrolled : (i : ℕ) → (B i ⊎ (A i × UntilMeant A B (suc i))) ↔ UntilMeant A B i
  until-unrolled i = (⊎_elim here (λ h. on h.0 h.1), apart)
    where
      here : B i → UntilMeant A B i
      here h = record { place = i; order = omega arith; there = h; between = λ k le lt. absurd (omega arith) }

      on : A i → UntilMeant A B (suc i) → UntilMeant A B i
      on h w = record {
        place = w.place;
        order = omega arith;
        there = w.there;
        between = λ k le lt. by_cases (dec_le (suc i) k) (λ after. w.between k after lt)
            (λ now. subst A (omega arith) h);
      }

      apart : UntilMeant A B i → B i ⊎ (A i × UntilMeant A B (suc i))
      apart w = by_cases (dec_le (suc i) w.place)
          (λ after. inr (
            w.between i (omega arith) after,
            record {
              place = w.place;
              order = after;
              there = w.there;
              between = λ k le lt. w.between k (omega arith) lt;
            },
          ))
          (λ now. inl (subst B (omega arith) w.there))
