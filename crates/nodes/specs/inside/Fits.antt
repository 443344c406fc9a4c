-- What one node is tested for, past its form: kind, sign, count, position, letter.
use Rattle.std.specs.Prelude.{ℕ, ◌+◌, ◌-◌, ◌/◌, ◌%◌, ◌^◌, ◌<◌, ◌≤◌, Bool, true, cond, ◌&&◌, List, length, eqb}
use Rattle.std.specs.Prelude.{leb}
use Rattle.schedule.specs.Limits.{max_letters, max_entries}
use Rattle.rules.specs.Formula.{height}
use Rattle.rules.specs.Tables.{formula_of}
use Rattle.rules.specs.declared.Side.TheVariants.{Past}
use Rattle.rules.specs.declared.Entry.{Entry}
use Rattle.rules.specs.declared.Entry.TheVariants.{Atom, One, Two, Broken}
use Rattle.rules.specs.declared.Binary.TheVariants.{Or, And, Since, Until}
use Rattle.trees.specs.Frames.{window_count}
use Rattle.trees.specs.Verdicts.{rule_sign, sign_of}
use Rattle.trees.specs.inside.Table.{rule_kind}
use Rattle.trees.specs.declared.Verdict.{Verdict}
use Rattle.forms.specs.inside.Forms.{within}

-- (A broken entry reads as atom 0.)
abbrev pub kind_of : Entry → ℕ
kind_of (Atom a) = 0
kind_of (One op l) = 1
kind_of (Two Or l r) = 2
kind_of (Two And l r) = 3
kind_of (Two Since l r) = 4
kind_of (Two Until l r) = 5
kind_of Broken = 0

abbrev pub left_of : Entry → ℕ
left_of (Atom a) = a
left_of (One op l) = l
left_of (Two op l r) = l
left_of Broken = 0

abbrev pub right_of : Entry → ℕ
right_of (Atom a) = 0
right_of (One op l) = 0
right_of (Two op l r) = r
right_of Broken = 0

-- Kind and sign of a rule are the entry's and the needed verdict's.
unfoldable pub fits_of : ℕ → Entry → Verdict → Bool
fits_of r x s = eqb (rule_kind r) (kind_of x) && eqb (rule_sign r) (sign_of s)

-- Rules 1 and 2, past kind and sign: the atom's number, position, letter.
unfoldable pub atom_agrees : ℕ → ℕ → ℕ → Verdict → ℕ → ℕ → Bool
atom_agrees letter named i s a n = eqb a named && (eqb n i && eqb (letter / 2 ^ a % 2) (2 - sign_of s))

-- Rules 1 and 2, at a position with a letter: kind with the atom's number, sign, position, letter.
unfoldable pub atom_fits : ℕ → Entry → ℕ → Verdict → ℕ → ℕ → ℕ → Bool
atom_fits letter x i s r a n = fits_of r x s && atom_agrees letter (left_of x) i s a n

-- Rules 11 to 16: which counts are allowed at a position. The window is rule 16's count.
unfoldable pub count_fits : ℕ → ℕ → ℕ → ℕ → Bool
count_fits r i n window =
    cond (eqb r 11) (leb n i)
    (cond (eqb r 12) (within 1 (i + 1) n)
    (cond (eqb r 13) (eqb n (i + 1))
    (cond (eqb r 14) true
    (cond (eqb r 15) (leb 1 n)
    (eqb n window)))))

-- The count of rule 16 over a right part: of two lists of letters, at a position.
abbrev pub window_at : List ℕ → List ℕ → List ℕ → ℕ → ℕ → ℕ
window_at prefix loop table right i =
    window_count (length prefix) (length loop) i (height Past (formula_of table right))

-- Rules 11 to 16, at a position of a schedule of two lengths: kind, sign, count.
unfoldable pub list_fits : ℕ → ℕ → List ℕ → Entry → ℕ → Verdict → ℕ → ℕ → Bool
list_fits u v table x i s r n =
    fits_of r x s && count_fits r i n (window_count u v i (height Past (formula_of table (right_of x))))

-- What the sums of a count may rely on.
pub record Counts (u v right i r n : ℕ) : Type 0 where
  pub prefix : u ≤ max_letters
  pub loop : v ≤ max_letters
  pub part : right < max_entries
  pub position : i < 2 ^ 40
  pub low : 11 ≤ r
  pub high : r ≤ 16
  pub number : n < 65536
