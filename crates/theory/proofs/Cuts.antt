-- Least numbers of sets, cut off: of the same set, of two sets taken together, of sums.
use Prim.Native.Nat.{ℕ, ◌+◌, ◌≤◌, min}
use mathlib.Core.Path.{◌≡◌, subst}
use mathlib.Core.Logic.{◌⊎◌, inl, inr, ⊎_elim, by_cases}
use native.Mathlib.Decide.{dec_le, dec_lt}
use native.Mathlib.Omega.{arith}
use Rattle.theory.specs.inside.Costs.{cut_off, cut, CutLeast, Sum, Raised}

-- The least number is one.
cut-at-most : {P : ℕ → Type 0} {p q : ℕ} → CutLeast P p → CutLeast P q → p ≤ q
cut-at-most {P} {p} {q} a b =
    by_cases (dec_lt q cut_off) (λ h. a.under q (b.met h)) (λ h. omega (arith, a.top, h))

pub cut-one : {P : ℕ → Type 0} {p q : ℕ} → CutLeast P p → CutLeast P q → p ≡ q
cut-one a b = omega (arith, cut-at-most a b, cut-at-most b a)

-- Only which numbers are in the set counts.
pub cut-same : {P Q : ℕ → Type 0} {p : ℕ} → ((n : ℕ) → P n → Q n) → ((n : ℕ) → Q n → P n) → CutLeast P p
    → CutLeast Q p
cut-same to from a = record { top = a.top; under = λ n q. a.under n (from n q); met = λ h. to _ (a.met h) }

pub cut-none : {P : ℕ → Type 0} → ((n : ℕ) → ¬ P n) → CutLeast P cut_off
cut-none never =
    record { top = omega arith; under = λ n p. absurd (never n p); met = λ h. absurd (omega (arith, h)) }

pub cut_or : {P Q : ℕ → Type 0} {p q : ℕ} → CutLeast P p → CutLeast Q q → CutLeast (λ n. P n ⊎ Q n) (min p q)
cut_or {P} {Q} {p} {q} a b = record {
  top = omega (arith, a.top);
  under = λ n h. ⊎_elim (λ x. omega (arith, a.under n x)) (λ y. omega (arith, b.under n y)) h;
  met = λ h. by_cases (dec_le p q)
      (λ e. inl (subst P (omega (arith, e)) (a.met (omega (arith, h, e)))))
      (λ e. inr (subst Q (omega (arith, e)) (b.met (omega (arith, h, e)))));
}

pub cut-raised : {P : ℕ → Type 0} {p : ℕ} (k : ℕ) → CutLeast P p → CutLeast (Raised k P) (cut (k + p))
cut-raised k a = record {
  top = omega arith;
  under = λ n r. omega (arith, a.under r.from r.one, r.adds);
  met = λ h. record { from = _; one = a.met (omega (arith, h)); adds = omega (arith, h) };
}

pub cut_sum : {P Q : ℕ → Type 0} {p q : ℕ} → CutLeast P p → CutLeast Q q → CutLeast (Sum P Q) (cut (p + q))
cut_sum a b = record {
  top = omega arith;
  under = λ n s. omega (arith, a.under s.first s.one, b.under s.second s.other, s.adds);
  met = λ h. record {
    first = _;
    second = _;
    one = a.met (omega (arith, h));
    other = b.met (omega (arith, h));
    adds = omega (arith, h);
  };
}

-- cut off again is cut off once
pub cut_again : (k n : ℕ) → cut (k + cut n) ≡ cut (k + n)
cut_again k n = omega arith
