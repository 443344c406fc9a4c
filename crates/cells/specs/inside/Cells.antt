-- A cell of the work slice: the verdict of a formula at a position,
-- and the price of its trees, cut off at 4,096.
use Rattle.std.specs.Prelude.{ℕ, zero, suc, ◌+◌, ◌-◌, ◌/◌, ◌%◌, ◌^◌, min, max, ◌≡◌, Bool, true, false, not}
use Rattle.std.specs.Prelude.{◌&&◌, ◌||◌, cond, eqb, leb}
use Rattle.theory.specs.inside.Costs.{cut_off, cut}
use Rattle.theory.specs.inside.RunCosts.{sum_run}
use Rattle.cells.specs.inside.Stands.{Stand}
use Rattle.cells.specs.declared.Connective.{Connective}
use Rattle.cells.specs.declared.Connective.TheVariants.{Not, Or, And}

-- The price, and 8,192 more where the formula holds.
abbrev pub held_from : ℕ
held_from = 8192

unfoldable pub holds_in : ℕ → Bool
holds_in c = leb held_from c

-- The price of a tree that says it holds, or 4,096.
unfoldable pub pro_of : ℕ → ℕ
pro_of c = cond (leb held_from c) (c - held_from) cut_off

-- The price of a tree that says it is violated, or 4,096.
unfoldable pub con_of : ℕ → ℕ
con_of c = cond (leb held_from c) cut_off c

unfoldable pub cell_of : Stand → ℕ
cell_of x = cond x.holds (held_from + x.pro) x.con

-- Of an atom, from its letter's bit: a tree of one node, whatever it says.
unfoldable pub atom_state : ℕ → Stand
atom_state bit = record { holds = eqb bit 1; pro = 1; con = 1 }

unfoldable pub atom_cell : (ℕ → ℕ) → ℕ → ℕ → ℕ
atom_cell word a p = cell_of (atom_state (word p / 2 ^ a % 2))

-- A negation, a disjunction and a conjunction from the cells of their parts at the same position.
unfoldable pub not_state : ℕ → Stand
not_state a = record { holds = not (holds_in a); pro = cut (1 + con_of a); con = cut (1 + pro_of a) }

unfoldable pub or_state : ℕ → ℕ → Stand
or_state a b = record {
  holds = holds_in a || holds_in b;
  pro = cut (min (1 + pro_of a) (1 + pro_of b));
  con = cut (1 + con_of a + con_of b);
}

unfoldable pub and_state : ℕ → ℕ → Stand
and_state a b = record {
  holds = holds_in a && holds_in b;
  pro = cut (1 + pro_of a + pro_of b);
  con = cut (min (1 + con_of a) (1 + con_of b));
}

-- What makes a state, by the kind. (It computes, so what is said of a kind is said of that state.)
abbrev pub plain_state : Connective → ℕ → ℕ → Stand
plain_state Not = λ a b. not_state a
plain_state Or = or_state
plain_state And = and_state

-- A cell of one of these three, by what makes a state of the cells of the parts.
unfoldable pub plain_cell : (ℕ → ℕ → Stand) → (ℕ → ℕ) → (ℕ → ℕ) → ℕ → ℕ
plain_cell make a b p = cell_of (make (a p) (b p))

-- A witness here, or one at the neighbour and the left part here.
unfoldable pub goes_on : Bool → ℕ → ℕ → Bool
goes_on x a b = holds_in b || (holds_in a && x)

-- From the neighbour's state and the cells of left and right here: a witness here,
-- or the neighbour's trees with a member more.
unfoldable pub stepped : Stand → ℕ → ℕ → Stand
stepped x a b = record {
  holds = goes_on x.holds a b;
  pro = cut (min (1 + pro_of b) (x.pro + pro_of a));
  con = cut (min (1 + con_of a + con_of b) (x.con + con_of b));
}

-- Since before the position e: at 0 nothing has held, and rule 13 has no member.
unfoldable pub since_state : (ℕ → ℕ) → (ℕ → ℕ) → ℕ → Stand
since_state a b zero = record { holds = false; pro = cut_off; con = 1 }
since_state a b (suc e) = stepped (since_state a b e) (a e) (b e)

unfoldable pub since_cell : (ℕ → ℕ) → (ℕ → ℕ) → ℕ → ℕ
since_cell a b p = cell_of (since_state a b (suc p))

-- Until at d positions before the top, with a witness below the top alone.
unfoldable pub until_state : (ℕ → ℕ) → (ℕ → ℕ) → ℕ → ℕ → Stand
until_state a b top zero = record { holds = false; pro = cut_off; con = cut_off }
until_state a b top (suc d) = stepped (until_state a b top d) (a (top - suc d)) (b (top - suc d))

-- An until's state with rule 16 beside it, whose members cost the sum together.
unfoldable pub closed : Stand → ℕ → Stand
closed x sum = record { holds = x.holds; pro = x.pro; con = cut (min x.con (1 + sum)) }

-- The cell of an until: the right side repeats from start on, and rule 16 has a lap
-- from there or from the position.
unfoldable pub until_cell : (ℕ → ℕ) → (ℕ → ℕ) → ℕ → ℕ → ℕ → ℕ → ℕ
until_cell a b cols lap start p =
    cell_of (closed (until_state a b (cols + lap) (cols + lap - p))
    (sum_run (λ q. con_of (b q)) p (max p start + lap - p)))

-- A sum with a member more, and where the right side repeats without its last.
pub record Slid (sum come gone : ℕ) (repeats : Bool) (r : ℕ) : Type 0 where
  pub slides : repeats ≡ true → r + gone ≡ sum + come
  pub grows : repeats ≡ false → r ≡ sum + come
