-- The first root of each kind, in the order of the words, that meets a price.
use Rattle.std.specs.Prelude.{ℕ, ◌+◌, ◌<◌, ◌≡◌, Bool, true, false, cond, List, eqb}
use Rattle.schedule.specs.Limits.{max_entries}
use Rattle.rules.specs.declared.Entry.{Entry}
use Rattle.rules.specs.declared.Entry.TheVariants.{Atom, One, Two, Broken}
use Rattle.rules.specs.declared.Unary.TheVariants.{Not}
use Rattle.rules.specs.declared.Binary.TheVariants.{Or, And, Since, Until}
use Rattle.cells.specs.inside.Cells.{pro_of, con_of}
use Rattle.rows.specs.inside.Rows.{row_of}
use Rattle.scans.specs.inside.Scans.{prices_from, Reached, Scanned}
use Rattle.scans.specs.declared.Met.{Met}
use Rattle.trees.specs.declared.Node.{Node}

abbrev pub root_with : ℕ → ℕ → ℕ → Node
root_with r a n = record { rule = r; atom = a; number = n }

unfoldable pub sided_of : Bool → ℕ → ℕ
sided_of held rule = cond held rule (rule + 1)

unfoldable pub or_rule : Bool → ℕ → ℕ → ℕ
or_rule held left price = cond held (cond (eqb (1 + pro_of left) price) 5 6) 7

unfoldable pub and_rule : Bool → ℕ → ℕ → ℕ
and_rule held left price = cond held 8 (cond (eqb (1 + con_of left) price) 9 10)

-- The rules of a list: what holds has the first of three, what is violated the second,
-- or the third where its list stands alone.
unfoldable pub list_rule : ℕ → Bool → Bool → ℕ
list_rule rule held alone = cond held rule (cond alone (rule + 2) (rule + 1))

-- The witness is the right part where the whole holds, the left where it is
-- violated; the members are the other.
pub record ListRoot (work : List ℕ) (left right i : ℕ) (held ahead : Bool) (price rule : ℕ)
    (r : Node) : Type 0 where
  pub met : Met
  pub scanned : Scanned (prices_from (row_of work (cond held right left)) held ahead i)
      (prices_from (row_of work (cond held left right)) held ahead i) held price met
  pub is : r ≡ root_with (list_rule rule held met.alone) 0 met.count

abbrev pub ListReached : List ℕ → ℕ → ℕ → ℕ → Bool → Bool → ℕ → Type 0
ListReached work left right i held ahead price =
    (left < max_entries) × (right < max_entries)
    × Reached (prices_from (row_of work (cond held right left)) held ahead i)
    (prices_from (row_of work (cond held left right)) held ahead i) held ahead i price

-- What the parts' rows must have for a root to be found.
abbrev pub Readable : List ℕ → Entry → ℕ → Bool → ℕ → Type 0
Readable work (Atom a) i held price = Unit
Readable work (One op l) i held price = Unit
Readable work (Two Or l r) i held price = l < max_entries
Readable work (Two And l r) i held price = l < max_entries
Readable work (Two Since l r) i held price = ListReached work l r i held false price
Readable work (Two Until l r) i held price = ListReached work l r i held true price
Readable work Broken i held price = Unit

abbrev pub RootFor : List ℕ → Entry → ℕ → Bool → ℕ → Node → Type 0
RootFor work (Atom a) i held price x = x ≡ root_with (sided_of held 1) a i
RootFor work (One Not l) i held price x = x ≡ root_with (sided_of held 3) 0 0
RootFor work (Two Or l r) i held price x = x ≡ root_with (or_rule held (row_of work l i) price) 0 0
RootFor work (Two And l r) i held price x = x ≡ root_with (and_rule held (row_of work l i) price) 0 0
RootFor work (Two Since l r) i held price x = ListRoot work l r i held false price 11 x
RootFor work (Two Until l r) i held price x = ListRoot work l r i held true price 14 x
RootFor work Broken i held price x = x ≡ root_with (sided_of held 1) 0 i
