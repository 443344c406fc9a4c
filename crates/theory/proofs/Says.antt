-- A Boolean says whether a statement holds: what follows from it, and what the Boolean connectives say.
use Prim.Native.Nat.{ℕ}
use mathlib.Core.Path.{◌≡◌, refl}
use mathlib.Core.Logic.{◌↔◌, ◌⊎◌, inl, inr, ⊎_elim}
use mathlib.Core.Bool.{Bool, true, false, not, ◌&&◌, ◌||◌, false≢true}
use lib.Dec.{eqb}
use borrow.Author.Tests.{eqb-true, eqb-false}

pub data Says (P : Type 0) : Bool → Type 0 where
  right : P → Says P true
  wrong : ¬ P → Says P false

pub says-exact : {P : Type 0} {b : Bool} → Says P b → (b ≡ true) ↔ P
says-exact (right p) = (λ _. p, λ _. refl)
says-exact (wrong n) = (λ e. absurd (false≢true e), λ p. absurd (n p))

pub says-decided : {P : Type 0} {b : Bool} → Says P b → Dec P
says-decided (right p) = yes p
says-decided (wrong n) = no n

-- what it says of P it says of Q, if Q holds where P does and is violated where P is
pub says-follows : {P Q : Type 0} {b : Bool} → (P → Q) → (¬ P → ¬ Q) → Says P b → Says Q b
says-follows f g (right p) = right (f p)
says-follows f g (wrong n) = wrong (g n)

pub says-alike : {P Q : Type 0} {b : Bool} → P ↔ Q → Says P b → Says Q b
says-alike e = says-follows e.0 (λ n q. n (e.1 q))

pub says-not : {P : Type 0} {b : Bool} → Says P b → Says (¬ P) (not b)
says-not (right p) = wrong (λ n. n p)
says-not (wrong n) = right n

pub says-or : {P Q : Type 0} {b c : Bool} → Says P b → Says Q c → Says (P ⊎ Q) (b || c)
says-or (right p) q = right (inl p)
says-or (wrong n) (right q) = right (inr q)
says-or (wrong n) (wrong m) = wrong (⊎_elim n m)

pub says-and : {P Q : Type 0} {b c : Bool} → Says P b → Says Q c → Says (P × Q) (b && c)
says-and (right p) (right q) = right (p, q)
says-and (right p) (wrong m) = wrong (λ h. m h.1)
says-and (wrong n) q = wrong (λ h. n h.0)

pub says-equal : (m n : ℕ) → Says (m ≡ n) (eqb m n)
says-equal m n = go (eqb m n) refl
  where
    go : (b : Bool) → eqb m n ≡ b → Says (m ≡ n) b
    go true e = right (eqb-true m n e)
    go false e = wrong (eqb-false m n e)
