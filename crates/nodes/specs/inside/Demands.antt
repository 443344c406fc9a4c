-- What a node asks of its parts.
use Rattle.std.specs.Prelude.{ℕ, ◌+◌, ◌-◌, ◌^◌, ◌<◌, ◌≤◌, ◌≡◌, cond, ◌||◌, List, ◌++◌, eqb, leb, ltb}
use Rattle.rules.specs.Tables.{formula_of}
use Rattle.rules.specs.declared.Entry.{Entry}
use Rattle.trees.specs.Rules.{Claim, run, Frame, claim, Rule}
use Rattle.trees.specs.inside.Table.{rule_fixed}
use Rattle.trees.specs.declared.Verdict.{Verdict}
use Rattle.trees.specs.declared.Verdict.TheVariants.{Holds, Violated}
use Rattle.nodes.specs.declared.Demands.{Demands}
use Rattle.nodes.specs.declared.Part.{Part}
use Rattle.trees.specs.declared.Node.{Node}
use Rattle.nodes.specs.inside.Fits.{right_of, left_of}

abbrev pub opposite : Verdict → Verdict
opposite Holds = Violated
opposite Violated = Holds

-- Rules 6 and 10 have the right part alone.
abbrev pub first_of : Entry → ℕ → ℕ
first_of x r = cond (eqb r 6 || eqb r 10) (right_of x) (left_of x)

-- Rules 3 and 4 turn the verdict.
abbrev pub verdict_of : Verdict → ℕ → Verdict
verdict_of s r = cond (eqb r 3 || eqb r 4) (opposite s) s

-- Rules 3 to 10: one part or two, at the same position.
unfoldable pub plain_demands : Entry → ℕ → Verdict → ℕ → Demands
plain_demands x i s r = record {
  fixed = 1;
  first = record { entry = first_of x r; position = i };
  member = right_of x;
  from = i;
  count = rule_fixed r - 1;
  verdict = verdict_of s r;
}

-- A first part and a list, or a list alone, of one verdict.
abbrev pub list_demands : ℕ → ℕ → ℕ → ℕ → ℕ → ℕ → Verdict → Demands
list_demands r first place member from n s =
    record {
      fixed = rule_fixed r;
      first = record { entry = first; position = place };
      member = member;
      from = from;
      count = n;
      verdict = s;
    }

-- and what they ask, from the left and the right part.
unfoldable pub count_demands : ℕ → ℕ → ℕ → ℕ → ℕ → Verdict → Demands
count_demands r l t i n s =
    cond (eqb r 11) (list_demands r t (i - n) l (i - n + 1) n s)
    (cond (eqb r 12) (list_demands r l (i + 1 - n) t (i + 1 - n) n s)
    (cond (eqb r 13) (list_demands r l 0 t 0 n s)
    (cond (eqb r 14) (list_demands r t (i + n) l i n s)
    (cond (eqb r 15) (list_demands r l (i + n - 1) t i n s)
    (list_demands r l 0 t i n s)))))

-- What a node of rules 3 to 16 asks of its parts, by its rule and its number.
unfoldable pub demands_of : Entry → ℕ → Verdict → ℕ → ℕ → Demands
demands_of x i s r n = cond (leb r 10) (plain_demands x i s r)
    (count_demands r (left_of x) (right_of x) i n s)

-- What the sums and differences of a count rely on.
pub record Countable (r i n : ℕ) : Type 0 where
  pub high : r ≤ 16
  pub position : i < 2 ^ 40
  pub number : n < 65536
  pub eleven : r ≡ 11 → n ≤ i
  pub twelve : r ≡ 12 → n ≤ i + 1
  pub fifteen : r ≡ 15 → 1 ≤ n

-- The part that stands at a place in tree order.
unfoldable pub part_of : Demands → ℕ → Part
part_of d m =
    cond (ltb m d.fixed) d.first
    (record { entry = d.member; position = d.from + (m - d.fixed) })

-- The claims of the parts, in tree order.
abbrev pub claims_of : List ℕ → Demands → List Claim
claims_of table d =
    run (formula_of table d.first.entry) d.first.position d.fixed d.verdict
    ++ run (formula_of table d.member) d.from d.count d.verdict

-- The parts' entries are earlier, and their positions within reach of them.
pub record Earlier (e i : ℕ) (d : Demands) : Type 0 where
  pub one : d.fixed ≤ 1
  pub first : 0 < d.fixed → d.first.entry < e
  pub place : d.first.position ≤ i + 65535
  pub member : 0 < d.count → d.member < e
  pub last : d.from + d.count ≤ i + 65536

-- The node proves its claim from the claims of its parts, which are earlier.
pub record Asks (frame : Frame) (table : List ℕ) (e i : ℕ) (s : Verdict) (x : Node)
    (d : Demands) : Type 0 where
  pub rule : Rule frame (claim (formula_of table e) i s) x (claims_of table d)
  pub near : Earlier e i d
