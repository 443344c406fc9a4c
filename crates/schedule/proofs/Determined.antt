-- Two results that meet a public function's contract coincide.
use mathlib.Core.Path.{◌≡◌, refl, sym, ap, ◌∙◌}
use mathlib.Core.Logic.{by_cases}
use mathlib.Core.List.{List}
use Prim.Native.Nat.{ℕ, ◌/◌, ◌%◌, ◌^◌}
use native.Mathlib.Decide.{dec_lt}
use native.Mathlib.Omega.{arith}
use lib.ListN.{length}
use denote.Ref.{Bor}
use Rattle.schedule.specs.Lengths.{Makes}
use Rattle.schedule.specs.Letters.{Rest, View, letter_at}
use Rattle.std.specs.Prelude.{Result, Ok, Err}
use Rattle.schedule.specs.declared.Schedule.{Schedule}
use Rattle.schedule.specs.declared.LengthError.{LengthError}
use Rattle.schedule.specs.declared.LengthError.TheVariants.{EmptyLoop, TooLong}
use Rattle.schedule.proofs.Tests.{fails-one, fails-or-passes}

-- Where a contract is an equation.
pub equal-one {ℓ} : {A : Type ℓ} {x a b : A} → a ≡ x → b ≡ x → a ≡ b
equal-one p q = p ∙ sym q

-- Two cases of the constructor for the same lengths: refused by the same test, or none.
pub new-one : (u v : ℕ) (m n : Result Schedule LengthError) → Makes u v m → Makes u v n → m ≡ n
new-one u v (Err EmptyLoop) (Err EmptyLoop) p q = refl
new-one u v (Err EmptyLoop) (Err TooLong) p q = absurd (omega (arith, ap (λ f. f.number) (fails-one p q)))
new-one u v (Err EmptyLoop) (Ok s) p q = absurd (fails-or-passes p q.0)
new-one u v (Err TooLong) (Err EmptyLoop) p q = absurd (omega (arith, ap (λ f. f.number) (fails-one p q)))
new-one u v (Err TooLong) (Err TooLong) p q = refl
new-one u v (Err TooLong) (Ok s) p q = absurd (fails-or-passes p q.0)
new-one u v (Ok s) (Err EmptyLoop) p q = absurd (fails-or-passes q p.0)
new-one u v (Ok s) (Err TooLong) p q = absurd (fails-or-passes q p.0)
new-one u v (Ok s) (Ok t) p q = ap Ok (p.1 ∙ sym q.1)

-- One part of the caller's memory, with one list of letters. (A reference's
-- ghost name is no part of a result.)
abbrev Same : Bor (List ℕ) → Bor (List ℕ) → Type 0
Same part other = (part.now ≡ other.now) × (part.ref_ptr.0 ≡ other.ref_ptr.0)
    × (part.ref_ptr.1 ≡ other.ref_ptr.1)

rest-one : {lent part other : Bor (List ℕ)} {from : ℕ} → Rest lent from part → Rest lent from other
    → Same part other
rest-one a b =
    (equal-one a.letters b.letters, equal-one a.block b.block, equal-one a.offset b.offset)

pub view-one : (prefix loop part other : Bor (List ℕ)) (i : ℕ) → View prefix loop i part
    → View prefix loop i other → Same part other
view-one prefix loop part other i w z =
    by_cases (dec_lt i (length prefix.now))
    (λ lt. rest-one (w.opening lt) (z.opening lt))
    (λ ge. by_cases (dec_lt 0 (length loop.now))
    (λ some. rest-one (w.looping (omega arith) some) (z.looping (omega arith) some))
    (λ none. rest-one (w.nothing (omega arith) (omega arith)) (z.nothing (omega arith) (omega arith))))

pub letter-one : (prefix loop : List ℕ) (i a b : ℕ) → a ≡ letter_at prefix loop i
    → b ≡ letter_at prefix loop i
    → a ≡ b
letter-one prefix loop i a b p q = equal-one p q

pub bit-one : (letter atom a b : ℕ) → a ≡ letter / 2 ^ atom % 2 → b ≡ letter / 2 ^ atom % 2 → a ≡ b
bit-one letter atom a b p q = equal-one p q
