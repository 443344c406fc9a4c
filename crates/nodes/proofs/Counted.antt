-- Rules 11 to 16: which counts each allows, and what it asks then.
use mathlib.Core.Path.{◌≡◌}
use mathlib.Core.Bool.{true}
use Prim.Native.Nat.{ℕ, ◌+◌, ◌-◌}
use native.Mathlib.Omega.{arith}
use borrow.Author.Tests.{eq-eqb, ne_eqb}
use lib.Dec.{eqb, leb}
use Rattle.trees.specs.declared.Verdict.{Verdict}
use Rattle.forms.specs.inside.Forms.{within}
use Rattle.nodes.specs.inside.Fits.{count_fits}
use Rattle.nodes.specs.inside.Demands.{list_demands, count_demands}

module _ (r l t i n w : ℕ) (s : Verdict) where
  pub count-11 : r ≡ 11
      → (leb n i ≡ count_fits r i n w)
      × (list_demands r t (i - n) l (i - n + 1) n s ≡ count_demands r l t i n s)
  unfolding count_fits count_demands
  count-11 e = (simp (eq-eqb r 11 e), simp (eq-eqb r 11 e))

  pub count-12 : r ≡ 12
      → (within 1 (i + 1) n ≡ count_fits r i n w)
      × (list_demands r l (i + 1 - n) t (i + 1 - n) n s ≡ count_demands r l t i n s)
  unfolding count_fits count_demands
  count-12 e = (
    simp (ne_eqb r 11 (λ f. omega arith), eq-eqb r 12 e),
    simp (ne_eqb r 11 (λ f. omega arith), eq-eqb r 12 e),
  )

  pub count-13 : r ≡ 13
      → (eqb n (i + 1) ≡ count_fits r i n w) × (list_demands r l 0 t 0 n s ≡ count_demands r l t i n s)
  unfolding count_fits count_demands
  count-13 e = (
    simp (ne_eqb r 11 (λ f. omega arith), ne_eqb r 12 (λ f. omega arith), eq-eqb r 13 e),
    simp (ne_eqb r 11 (λ f. omega arith), ne_eqb r 12 (λ f. omega arith), eq-eqb r 13 e),
  )

  pub count-14 : r ≡ 14
      → (true ≡ count_fits r i n w) × (list_demands r t (i + n) l i n s ≡ count_demands r l t i n s)
  unfolding count_fits count_demands
  count-14 e = (
    simp (
      ne_eqb r 11 (λ f. omega arith),
      ne_eqb r 12 (λ f. omega arith),
      ne_eqb r 13 (λ f. omega arith),
      eq-eqb r 14 e,
    ),
    simp (
      ne_eqb r 11 (λ f. omega arith),
      ne_eqb r 12 (λ f. omega arith),
      ne_eqb r 13 (λ f. omega arith),
      eq-eqb r 14 e,
    ),
  )

  pub count-15 : r ≡ 15
      → (leb 1 n ≡ count_fits r i n w) × (list_demands r l (i + n - 1) t i n s ≡ count_demands r l t i n s)
  unfolding count_fits count_demands
  count-15 e = (
    simp (
      ne_eqb r 11 (λ f. omega arith),
      ne_eqb r 12 (λ f. omega arith),
      ne_eqb r 13 (λ f. omega arith),
      ne_eqb r 14 (λ f. omega arith),
      eq-eqb r 15 e,
    ),
    simp (
      ne_eqb r 11 (λ f. omega arith),
      ne_eqb r 12 (λ f. omega arith),
      ne_eqb r 13 (λ f. omega arith),
      ne_eqb r 14 (λ f. omega arith),
      eq-eqb r 15 e,
    ),
  )

  pub count-16 : (r ≡ 11 → ⊥) → (r ≡ 12 → ⊥) → (r ≡ 13 → ⊥) → (r ≡ 14 → ⊥) → (r ≡ 15 → ⊥)
      → (eqb n w ≡ count_fits r i n w) × (list_demands r l 0 t i n s ≡ count_demands r l t i n s)
  unfolding count_fits count_demands
  count-16 a b c d e = (
    simp (ne_eqb r 11 a, ne_eqb r 12 b, ne_eqb r 13 c, ne_eqb r 14 d, ne_eqb r 15 e),
    simp (ne_eqb r 11 a, ne_eqb r 12 b, ne_eqb r 13 c, ne_eqb r 14 d, ne_eqb r 15 e),
  )
