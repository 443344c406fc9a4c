-- Tables of entries: the entry at an index, its formula, and whether every entry keeps the kind table.
use Rattle.std.specs.Prelude.{ℕ, zero, suc, Bool, true, ◌&&◌, List, length, get_or}
use Rattle.rules.specs.Formula.{Formula, atom, notᶠ, orᶠ, andᶠ, since, until}
use Rattle.rules.specs.Entries.{entry_of, is_kept}
use Rattle.rules.specs.declared.Entry.{Entry}
use Rattle.rules.specs.declared.Entry.TheVariants.{Atom, One, Two, Broken}
use Rattle.rules.specs.declared.Unary.{Unary}
use Rattle.rules.specs.declared.Unary.TheVariants.{Not}
use Rattle.rules.specs.declared.Binary.{Binary}
use Rattle.rules.specs.declared.Binary.TheVariants.{Or, And, Since, Until}

-- The entry at an index of a table; past its end the word 0 is read.
abbrev pub entry_at : List ℕ → ℕ → Entry
entry_at table e = entry_of e (get_or table e 0)

-- The formula that an operator makes of its part, or of its two.
abbrev pub applied : Unary → Formula → Formula
applied Not f = notᶠ f

abbrev pub joined : Binary → Formula → Formula → Formula
joined Or f g = orᶠ f g
joined And f g = andᶠ f g
joined Since f g = since f g
joined Until f g = until f g

-- The formula of an entry, from the formulas of its parts. (A broken entry reads as atom 0;
-- no table that passes has one.)
abbrev pub build : (ℕ → Formula) → Entry → Formula
build part (Atom a) = atom a
build part (One op l) = applied op (part l)
build part (Two op l r) = joined op (part l) (part r)
build part Broken = atom 0

-- The parts followed down n times. Parts have smaller indices, so suc e times reach
-- every atom that e is built from.
abbrev pub unrolled : ℕ → List ℕ → ℕ → Formula
unrolled zero table e = atom 0
unrolled (suc n) table e = build (unrolled n table) (entry_at table e)

unfoldable pub formula_of : List ℕ → ℕ → Formula
formula_of table e = unrolled (suc e) table e

-- A test passes at every index below n.
abbrev pub all_below : ℕ → (ℕ → Bool) → Bool
all_below zero test = true
all_below (suc n) test = all_below n test && test n

abbrev pub kept_at : List ℕ → ℕ → Bool
kept_at table e = is_kept (entry_at table e)

-- Every entry keeps the kind table.
unfoldable pub keeps_all : List ℕ → Bool
keeps_all table = all_below (length table) (kept_at table)
