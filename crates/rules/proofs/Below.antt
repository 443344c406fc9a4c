-- A test at every index below a bound: what it says of each, and that chains over a range and over a list's
-- elements test just that.
use mathlib.Core.Path.{◌≡◌, refl, sym, ap, ◌∙◌}
use mathlib.Core.Bool.{Bool, true, ◌&&◌, and-true}
use mathlib.Core.List.{List, [], ◌∷◌}
use mathlib.Core.Logic.{◌↔◌, ⊎_elim}
use Prim.Native.Nat.{ℕ, zero, suc, ◌+◌, ◌<◌}
use native.Mathlib.Nat.{not-suc-le-zero, le_of_suc-le-suc, eq-or-lt_of_le, suc_inj, le_step}
use native.Mathlib.Nat.{le_refl, suc-add, zero-add}
use Rattle.std.proofs.Math.Bool.{and_assoc}
use native.Mathlib.Numerals.{unary_clauses}
use lib.ListN.{length, get_or}
use Rattle.std.specs.List.{list_all, range_with_len, enumerate_from}
use Rattle.rules.specs.Tables.{all_below}
use Rattle.schedule.proofs.Tests.{and_both}

module _ (test : ℕ → Bool) where
  pub all-at : (n k : ℕ) → all_below n test ≡ true → k < n → test k ≡ true
  all-at zero k all lt = absurd (not-suc-le-zero lt)
  all-at (suc n) k all lt =
      let both = and_both (all_below n test) (test n) all in
      ⊎_elim (λ e. ap test (suc_inj e) ∙ both.1)
      (λ below. all-at n k both.0 (le_of_suc-le-suc below))
      (eq-or-lt_of_le lt)

  every : (n : ℕ) → ((k : ℕ) → k < n → test k ≡ true) → all_below n test ≡ true
  every zero each = refl
  every (suc n) each = simp (every n (λ k lt. each k (le_step lt)), each n (le_refl (suc n)))

  pub all-exact : (n : ℕ) → (all_below n test ≡ true) ↔ ((k : ℕ) → k < n → test k ≡ true)
  all-exact n = (λ all k lt. all-at n k all lt, every n)

-- the first index apart from those after it
all_first : (n : ℕ) (test : ℕ → Bool) → all_below (suc n) test ≡ (test 0 && all_below n (λ k. test (suc k)))
all_first zero test = sym (and-true (test 0))
all_first (suc n) test =
    ap (λ b. b && test (suc n)) (all_first n test) ∙ and_assoc (test 0) (all_below n (λ k. test (suc k))) _

-- of indices from k on, and of elements numbered from k on
all_ranged : (n k : ℕ) (test : ℕ → Bool)
    → list_all test (range_with_len k n) ≡ all_below n (λ j. test (k + j))
all_ranged zero k test = refl
all_ranged (suc n) k test =
    let rest = ap (λ b. test k && b) (all_ranged n (k + 1) test) in
    simp (all_first n (λ j. test (k + j)), unary_clauses) (simp (unary_clauses, suc-add) at rest)

all_numbered : (xs : List ℕ) (k : ℕ) (test : ℕ → ℕ → Bool)
    → list_all (λ p. test p.0 p.1) (enumerate_from k xs)
    ≡ all_below (length xs) (λ j. test (k + j) (get_or xs j 0))
all_numbered [] k test = refl
all_numbered (x ∷ xs) k test =
    let rest = ap (λ b. test k x && b) (all_numbered xs (k + 1) test) in
    simp (all_first (length xs) (λ j. test (k + j) (get_or (x ∷ xs) j 0)), unary_clauses)
    (simp (unary_clauses, suc-add) at rest)

pub all_range : (n : ℕ) (test : ℕ → Bool) → list_all test (range_with_len 0 n) ≡ all_below n test
all_range n test = all_ranged n 0 test ∙ simp zero-add

pub all_enumerated : (xs : List ℕ) (test : ℕ → ℕ → Bool)
    → list_all (λ p. test p.0 p.1) (enumerate_from 0 xs) ≡ all_below (length xs) (λ j. test j (get_or xs j 0))
all_enumerated xs test = all_numbered xs 0 test ∙ simp zero-add
