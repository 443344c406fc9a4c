-- The letter in the prefix, and past it; the letter at a position is the first of the view there.
use mathlib.Core.Path.{◌≡◌, refl, sym, ◌∙◌, ap}
use mathlib.Core.List.{List, [], ◌∷◌}
use mathlib.Core.Logic.{by_cases}
use Prim.Native.Nat.{ℕ, zero, suc, ◌-◌, ◌%◌, ◌<◌, ◌≤◌}
use native.Mathlib.Decide.{dec_lt}
use native.Mathlib.Nat.{add-zero, not-suc-le-zero, le_of_suc-le-suc}
use native.Mathlib.Omega.{arith}
use lib.ListN.{length, get_or, get_or-eq_default}
use lib.Seq.{get_or-drop}
use denote.Ref.{Bor}
use Rattle.schedule.specs.Letters.{Rest, View, letter_at}

-- within a list the default plays no part
in_list : (l : List ℕ) (i d e : ℕ) → i < length l → get_or l i d ≡ get_or l i e
in_list [] i d e lt = absurd (not-suc-le-zero lt)
in_list (x ∷ l) zero d e lt = refl
in_list (x ∷ l) (suc i) d e lt = in_list l i d e (le_of_suc-le-suc lt)

pub letter-opening : (prefix loop : List ℕ) (i : ℕ) → i < length prefix
    → letter_at prefix loop i ≡ get_or prefix i 0
letter-opening prefix loop i lt = in_list prefix i (get_or loop ((i - length prefix) % length loop) 0) 0 lt

pub letter-looping : (prefix loop : List ℕ) (i : ℕ) → length prefix ≤ i
    → letter_at prefix loop i ≡ get_or loop ((i - length prefix) % length loop) 0
letter-looping prefix loop i le =
    get_or-eq_default prefix (get_or loop ((i - length prefix) % length loop) 0) le

rest-first : (lent part : Bor (List ℕ)) (from : ℕ) → Rest lent from part
    → get_or part.now 0 0 ≡ get_or lent.now from 0
rest-first lent part from r = ap (λ l. get_or l 0 0) r.letters ∙ get_or-drop from lent.now 0 0 ∙ rw add-zero

-- 0 where the view has none
pub letter-first : (prefix loop part : Bor (List ℕ)) (i : ℕ) → View prefix loop i part
    → get_or part.now 0 0 ≡ letter_at prefix.now loop.now i
letter-first prefix loop part i w =
    by_cases (dec_lt i (length prefix.now))
    (λ lt. rest-first prefix part i (w.opening lt) ∙ sym (letter-opening prefix.now loop.now i lt))
    (λ ge. by_cases (dec_lt 0 (length loop.now))
    (λ some. rest-first loop part ((i - length prefix.now) % length loop.now)
    (w.looping (omega arith) some)
    ∙ sym (letter-looping prefix.now loop.now i (omega arith)))
    (λ none. rest-first loop part 0 (w.nothing (omega arith) (omega arith))
    ∙ get_or-eq_default loop.now 0 (omega arith)
    ∙ sym (letter-looping prefix.now loop.now i (omega arith)
    ∙ get_or-eq_default loop.now 0 (omega arith))))
