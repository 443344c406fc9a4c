-- What a word of a table says at its index: the kind table of the document, row by row.
use Rattle.std.specs.Prelude.{ℕ, ◌/◌, ◌%◌, Bool, true, false, cond, ◌&&◌, eqb, ltb, leb}
use Rattle.rules.specs.declared.Entry.{Entry}
use Rattle.rules.specs.declared.Entry.TheVariants.{Atom, One, Two, Broken}
use Rattle.rules.specs.declared.Unary.TheVariants.{Not}
use Rattle.rules.specs.declared.Binary.{Binary}
use Rattle.rules.specs.declared.Binary.TheVariants.{Or, And, Since, Until}

-- A field below a bound, and the other 0.
abbrev pub is_alone : ℕ → ℕ → ℕ → Bool
is_alone bound l r = ltb l bound && eqb r 0

-- Two earlier entries.
abbrev pub are_earlier : ℕ → ℕ → ℕ → Bool
are_earlier i l r = ltb l i && ltb r i

-- Kinds 2 to 5: or, and, since, until.
abbrev pub binary_of : ℕ → Binary
binary_of k = cond (eqb k 2) Or (cond (eqb k 3) And (cond (eqb k 4) Since Until))

-- Of two earlier entries. There is no kind above 5.
abbrev pub pair_of : ℕ → ℕ → ℕ → ℕ → Entry
pair_of i k l r = cond (are_earlier i l r && (leb 2 k && leb k 5)) (Two (binary_of k) l r) Broken

-- Kind 0: atom 0 to 31, right 0. Kind 1: not an earlier entry, right 0.
abbrev pub entry_from : ℕ → ℕ → ℕ → ℕ → Entry
entry_from i k l r =
    cond (eqb k 0) (cond (is_alone 32 l r) (Atom l) Broken)
    (cond (eqb k 1) (cond (is_alone i l r) (One Not l) Broken)
    (pair_of i k l r))

-- A word is kind × 65,536 + left × 256 + right.
unfoldable pub entry_of : ℕ → ℕ → Entry
entry_of i w = entry_from i (w / 65536) (w / 256 % 256) (w % 256)

abbrev pub is_kept : Entry → Bool
is_kept (Atom a) = true
is_kept (One op l) = true
is_kept (Two op l r) = true
is_kept Broken = false
