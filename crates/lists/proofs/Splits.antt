-- Where bytes are split at a byte that the front does not have, they are split in one way.
use mathlib.Core.Path.{◌≡◌, refl, sym}
use mathlib.Core.List.{List, [], ◌∷◌, ◌++◌, head-eq_of_cons-eq, tail-eq_of_cons-eq, cons-ne-nil}
use Prim.Native.Nat.{ℕ, ◌<◌}
use native.Mathlib.Omega.{arith}
use Rattle.decimals.proofs.Digits.{Digits}

abbrev pub Without : ℕ → List ℕ → Type 0
Without stop [] = Unit
Without stop (b ∷ bs) = (¬ (b ≡ stop)) × Without stop bs

pub without-append : (stop : ℕ) (xs bs : List ℕ) → Without stop xs → Without stop bs → Without stop (xs ++ bs)
without-append stop [] bs p q = q
without-append stop (a ∷ xs) bs p q = (p.0, without-append stop xs bs p.1 q)

pub digits-without : (stop : ℕ) (ds : List ℕ) → stop < 48 → Digits ds → Without stop ds
digits-without stop [] lt digits = tt
digits-without stop (d ∷ ds) lt digits =
    (λ e. omega (arith, digits.0), digits-without stop ds lt digits.2)

pub no_stop : (stop : ℕ) (xs bs rest : List ℕ) → Without stop xs → xs ≡ bs ++ stop ∷ rest → ⊥
no_stop stop [] [] rest p e = cons-ne-nil stop rest (sym e)
no_stop stop [] (b ∷ bs) rest p e = cons-ne-nil b (bs ++ stop ∷ rest) (sym e)
no_stop stop (a ∷ xs) [] rest p e = p.0 (head-eq_of_cons-eq e)
no_stop stop (a ∷ xs) (b ∷ bs) rest p e = no_stop stop xs bs rest p.1 (tail-eq_of_cons-eq e)

pub split_one : (stop : ℕ) (xs bs rest others : List ℕ) → Without stop xs → Without stop bs
    → xs ++ stop ∷ rest ≡ bs ++ stop ∷ others → (xs ≡ bs) × (rest ≡ others)
split_one stop [] [] rest others p q e = (refl, tail-eq_of_cons-eq e)
split_one stop [] (b ∷ bs) rest others p q e = absurd (q.0 (sym (head-eq_of_cons-eq e)))
split_one stop (a ∷ xs) [] rest others p q e = absurd (p.0 (head-eq_of_cons-eq e))
split_one stop (a ∷ xs) (b ∷ bs) rest others p q e =
    let s = split_one stop xs bs rest others p.1 q.1 (tail-eq_of_cons-eq e) in
    (λ i. head-eq_of_cons-eq e i ∷ s.0 i, s.1)
