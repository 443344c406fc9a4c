-- What recurs from t on: the connectives keep t, since adds a lap, until keeps t.
use Prim.Native.Nat.{ℕ, ◌+◌, ◌-◌, ◌≤◌}
use mathlib.Core.Logic.{◌⊎◌, ⊎_map, by_cases}
use native.Mathlib.Decide.{dec_le}
use native.Mathlib.Nat.{sub-add_cancel}
use native.Mathlib.Omega.{arith}
use Rattle.rules.specs.Meaning.{SinceMeant, UntilMeant}
use Rattle.theory.specs.inside.Words.{Recurs}

module _ {P : ℕ → Type 0} {t v : ℕ} (p : Recurs P t v) where
  pub recurs-later : {s : ℕ} → t ≤ s → Recurs P s v
  recurs-later le =
      record { forth = λ k ge. p.forth k (omega arith); back = λ k ge. p.back k (omega arith) }

  -- forth and back by the later position of the two
  pub recurs-up : (k : ℕ) → t + v ≤ k → P (k - v) → P k
  recurs-up k ge h = let le : v ≤ k = omega arith in rw sub-add_cancel at (p.forth (k - v) (omega arith) h)

  pub recurs-down : (k : ℕ) → t + v ≤ k → P k → P (k - v)
  recurs-down k ge h = let le : v ≤ k = omega arith in p.back (k - v) (omega arith) (rw sub-add_cancel h)

  pub not-recurs : Recurs (λ k. ¬ P k) t v
  not-recurs = record { forth = λ k ge n h. n (p.back k ge h); back = λ k ge n h. n (p.forth k ge h) }

module _ {A B : ℕ → Type 0} {t v : ℕ} (a : Recurs A t v) (b : Recurs B t v) where
  pub or-recurs : Recurs (λ k. A k ⊎ B k) t v
  or-recurs = record {
    forth = λ k ge. ⊎_map (a.forth k ge) (b.forth k ge);
    back = λ k ge. ⊎_map (a.back k ge) (b.back k ge);
  }

  pub and-recurs : Recurs (λ k. A k × B k) t v
  and-recurs = record {
    forth = λ k ge h. (a.forth k ge h.0, b.forth k ge h.1);
    back = λ k ge h. (a.back k ge h.0, b.back k ge h.1);
  }

  -- At t or past it the place moves along. Before t it stays, and the left side,
  -- which held a whole lap long, holds one lap more.
  since-forth : (k : ℕ) → t + v ≤ k → SinceMeant A B k → SinceMeant A B (k + v)
  since-forth k ge s = by_cases (dec_le t s.place)
      (λ at. record {
        place = s.place + v;
        order = omega arith;
        there = b.forth s.place at s.there;
        between = λ m lt le. recurs-up a m (omega arith) (s.between (m - v) (omega arith) (omega arith));
      })
      (λ before. record {
        place = s.place;
        order = omega arith;
        there = s.there;
        between = λ m lt le. by_cases (dec_le m k)
            (λ near. s.between m lt near)
            (λ far. recurs-up a m (omega arith) (s.between (m - v) (omega arith) (omega arith)));
      })

  -- A place at or before k stays; one past k, more than a lap past t, moves a lap down.
  since-back : (k : ℕ) → t + v ≤ k → SinceMeant A B (k + v) → SinceMeant A B k
  since-back k ge s = by_cases (dec_le s.place k)
      (λ near. record {
        place = s.place;
        order = near;
        there = s.there;
        between = λ m lt le. s.between m lt (omega arith);
      })
      (λ far. record {
        place = s.place - v;
        order = omega arith;
        there = recurs-down b s.place (omega arith) s.there;
        between = λ m lt le. a.back m (omega arith) (s.between (m + v) (omega arith) (omega arith));
      })

  pub since-recurs : Recurs (SinceMeant A B) (t + v) v
  since-recurs = record { forth = since-forth; back = since-back }

  pub until-recurs : Recurs (UntilMeant A B) t v
  until-recurs = record {
    forth = λ k ge w. record {
      place = w.place + v;
      order = omega arith;
      there = b.forth w.place (omega arith) w.there;
      between = λ m le lt. recurs-up a m (omega arith) (w.between (m - v) (omega arith) (omega arith));
    };
    back = λ k ge w. record {
      place = w.place - v;
      order = omega arith;
      there = recurs-down b w.place (omega arith) w.there;
      between = λ m le lt. a.back m (omega arith) (w.between (m + v) (omega arith) (omega arith));
    };
  }
