-- Why since and until are violated: the left side is violated before any right side is met,
-- or the right side is violated all along.
use Prim.Native.Nat.{ℕ, zero, suc, ◌+◌, ◌<◌, ◌≤◌}
use mathlib.Core.Path.{subst}
use mathlib.Core.Logic.{inl, inr, by_cases}
use native.Mathlib.Decide.{dec_le}
use native.Mathlib.Omega.{arith}
use Rattle.rules.specs.Meaning.{SinceMeant, UntilMeant}
use Rattle.rules.proofs.Neighbours.{since-first, since-unrolled, until-unrolled}

-- from i back to 0, or to a position m with the left side violated
pub data FailsBack (A B : ℕ → Type 0) (i : ℕ) : Type 0 where
  never_back : ((k : ℕ) → k ≤ i → ¬ B k) → FailsBack A B i
  cut_back : (m : ℕ) → m ≤ i → ¬ A m → ((k : ℕ) → m ≤ k → k ≤ i → ¬ B k) → FailsBack A B i

-- from i over n positions, or to a position m with the left side violated
pub data FailsAhead (A B : ℕ → Type 0) (n i : ℕ) : Type 0 where
  never_ahead : ((k : ℕ) → i ≤ k → k < i + n → ¬ B k) → FailsAhead A B n i
  cut_ahead : (m : ℕ) → i ≤ m → ¬ A m → ((k : ℕ) → i ≤ k → k ≤ m → ¬ B k) → FailsAhead A B n i

module _ {A B : ℕ → Type 0} where
  further-back : {i : ℕ} → ¬ B (suc i) → FailsBack A B i → FailsBack A B (suc i)
  further-back {i} here (never_back ns) =
      never_back (λ k le. by_cases (dec_le k i) (ns k) (λ last. subst (λ j. ¬ B j) (omega arith) here))
  further-back {i} here (cut_back m le a ns) =
      cut_back m (omega arith) a
      (λ k ge to. by_cases (dec_le k i) (ns k ge) (λ last. subst (λ j. ¬ B j) (omega arith) here))

  further-ahead : {n i : ℕ} → ¬ B i → FailsAhead A B n (suc i) → FailsAhead A B (suc n) i
  further-ahead {n} {i} here (never_ahead ns) = never_ahead (λ k ge lt. by_cases (dec_le (suc i) k)
      (λ after. ns k after (omega arith))
      (λ first. subst (λ j. ¬ B j) (omega arith) here))
  further-ahead {n} {i} here (cut_ahead m le a ns) =
      cut_ahead m (omega arith) a
      (λ k ge to. by_cases (dec_le (suc i) k) (λ after. ns k after to)
      (λ first. subst (λ j. ¬ B j) (omega arith) here))

module _ {A B : ℕ → Type 0} (decide : (k : ℕ) → Dec (A k)) where
  pub since-fails : (i : ℕ) → ¬ SinceMeant A B i → FailsBack A B i
  since-fails zero n = never_back (λ k le h. n (since-first.0 (subst B (omega arith) h)))
  since-fails (suc i) n =
      by_cases (decide (suc i))
      (λ a. further-back (λ h. n ((since-unrolled i).0 (inl h)))
      (since-fails i (λ s. n ((since-unrolled i).0 (inr (a, s))))))
      (λ a. cut_back (suc i) (omega arith) a
      (λ k ge le h. n ((since-unrolled i).0 (inl (subst B (omega arith) h)))))

  pub until-fails : (n i : ℕ) → ¬ UntilMeant A B i → FailsAhead A B n i
  until-fails zero i n = never_ahead (λ k ge lt. absurd (omega arith))
  until-fails (suc m) i n =
      by_cases (decide i)
      (λ a. further-ahead (λ h. n ((until-unrolled i).0 (inl h)))
      (until-fails m (suc i) (λ w. n ((until-unrolled i).0 (inr (a, w))))))
      (λ a. cut_ahead i (omega arith) a
      (λ k ge le h. n ((until-unrolled i).0 (inl (subst B (omega arith) h)))))
