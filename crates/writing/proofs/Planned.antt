-- The root of the least tree once its parts are planned: they are least,
-- they lie inside their rows, and each can be written.
use Prim.Native.Nat.{ℕ, zero, suc, ◌+◌, ◌<◌, ◌≤◌}
use mathlib.Core.Path.{◌≡◌, refl, sym, ap, subst, ◌∙◌}
use mathlib.Core.List.{List, ◌∷◌}
use native.Mathlib.Nat.{not-suc-le-zero, le_of_suc-le-suc}
use native.Mathlib.Omega.{arith}
use lib.ListN.{length, get_or, set, length-append, length-set}
use Rattle.rules.specs.Tables.{entry_at, formula_of}
use Rattle.rules.specs.declared.Entry.{Entry}
use Rattle.trees.specs.Nodes.{node_of}
use Rattle.trees.specs.declared.Node.{Node}
use Rattle.trees.specs.Rules.{Claim, claim}
use Rattle.trees.specs.Frames.{schedule_frame}
use Rattle.trees.specs.Least.{Cost, cost_of, Least}
use Rattle.nodes.specs.inside.Demands.{claims_of, part_of, Countable, demands_of, Earlier, Asks}
use Rattle.trees.specs.Verdicts.{proven_by}
use Rattle.nodes.specs.inside.Tested.{Within}
use Rattle.trees.specs.declared.Verdict.{Verdict}
use Rattle.nodes.specs.declared.Demands.{Demands}
use Rattle.trees.proofs.Needs.{rule-proves}
use Rattle.nodes.proofs.JudgedNodes.{rule-asks, rule-countable}
use Rattle.trees.proofs.Shapes.{leaf-needs}
use Rattle.nodes.proofs.Claims.{claims-length, claims-at, part-within}
use Rattle.theory.specs.inside.Cols.{InReach}
use Rattle.theory.specs.inside.Level.{ByAtoms}
use Rattle.trees.proofs.Order.{cost-append, least-one}
use Rattle.theory.specs.inside.LeastForests.{LeastForest}
use Rattle.theory.proofs.Runs.{Each, nothing, also}
use Rattle.theory.proofs.Words.{schedule-repeats}
use Rattle.theory.proofs.Sound.{repeats-lawful}
use Rattle.theory.proofs.Cols.{cols-parts}
use Rattle.theory.proofs.Horizon.{atoms-level}
use Rattle.theory.proofs.Windowed.{Windowed, repeats-windowed, window-least-inside, window-least-below}
use Rattle.theory.proofs.Windowed.{window-least-parts}
use Rattle.theory.proofs.LeastForests.{for-least}
use Rattle.rows.specs.inside.Rows.{row_of}
use Rattle.search.proofs.Driven.{limited-earlier}
use Rattle.roots.specs.inside.Rooted.{cell_price}
use Rattle.writing.specs.inside.Writes.{Writable, Room, RootOfLeast, Writes}
use Rattle.writing.proofs.Leading.{cell-priced, writable-inside}
use Rattle.writing.proofs.Underway.{Underway, underway-none, underway-sum, underway-cost}
use Rattle.writing.proofs.Underway.{underway-length, underway-next, underway-done}

each_at : {P : Claim → Type 0} {cs : List Claim} → Each P cs → (m : ℕ) (z : Claim) → m < length cs
    → P (get_or cs m z)
each_at nothing m z lt = absurd (not-suc-le-zero lt)
each_at (also p ps) zero z lt = p
each_at (also p ps) (suc m) z lt = each_at ps m z (le_of_suc-le-suc lt)

-- The root of the least tree, and the demands of its parts.
pub record Planned (cost : Cost) (prefix loop table : List ℕ) (e i : ℕ) (work : List ℕ) (x : Node)
    (d : Demands) : Type 0 where
  pub asked : Writable cost prefix loop table e i work
  pub below : List Node
  pub least : Least cost (schedule_frame prefix loop) (formula_of table e) i (x ∷ below)
  pub priced : cost_of cost (x ∷ below) ≡ cell_price (row_of work e i)
  pub parts : LeastForest cost (schedule_frame prefix loop) (claims_of table d) below
  pub placed : Each (InReach asked.reach (length loop)) (claims_of table d)
  pub earlier : Earlier e i d

module _ {cost : Cost} {weight : ℕ → ℕ} (by-atoms : ByAtoms cost weight) {prefix loop table : List ℕ}
    {e i : ℕ} {work : List ℕ} (a : Writable cost prefix loop table e i work) where
  pub writable-within : Within (length prefix) (length loop) e i
  writable-within =
      let n = writable-inside a in
      record {
        prefix = omega (arith, a.limited.letters);
        loop = omega (arith, a.limited.letters);
        entry = n.row;
        reach = omega (arith, n.row, n.column);
      }

  module _ (x : Node)
      (l : RootOfLeast cost (schedule_frame prefix loop) (formula_of table e) i
      (cell_price (row_of work e i)) x) where
    abbrev windowed : Windowed (schedule_frame prefix loop) (length prefix) (length loop) a.reach
    windowed = repeats-windowed a.reach (schedule-repeats prefix loop a.limited.loop)

    -- a root without parts is the whole tree
    pub leaf-writes : (w at : ℕ) (found : List ℕ) → node_of w ≡ x
        → Room cost (schedule_frame prefix loop) (formula_of table e) i at (length found) → x.rule < 3
        → Writes cost (schedule_frame prefix loop) (formula_of table e) i at found (set found at w) (at + 1)
    leaf-writes w at found is room lt =
        let b = window-least-below windowed l.least in
        let none = leaf-needs b.rule lt in
        let parts = subst (λ cs. LeastForest cost (schedule_frame prefix loop) cs l.below)
        none b.parts in
        underway-done (underway-none (at + 1) (set found at w)
        (omega (arith, room.room _ l.least, length-set found at w)) parts)
        (omega arith) at w found refl refl
        (subst (λ y. Least cost (schedule_frame prefix loop) (formula_of table e) i (y ∷ l.below))
        (sym is) l.least)

    module _ (low : 3 ≤ x.rule) (small : x.number < 65536) where
      pub countable : Countable x.rule i x.number
      countable =
          let b = window-least-below windowed l.least in
          rule-countable prefix loop table e i l.least.verdict x b.needs b.rule low small
          (omega (arith, (writable-inside a).column))

      -- what the code has worked out of its parts
      pub planned : {y : Entry} {v : Verdict} {d : Demands} → y ≡ entry_at table e → v ≡ proven_by x.rule
          → d ≡ demands_of y i v x.rule x.number → Planned cost prefix loop table e i work x d
      planned {d} ey ev ed =
          let b = window-least-below windowed l.least in
          let verdict = ev ∙ rule-proves b.rule in
          let j = subst (Asks (schedule_frame prefix loop) table e i l.least.verdict x)
          (sym (ed ∙ (λ k. demands_of (ey k) i (verdict k) x.rule x.number)))
          (rule-asks prefix loop table e i l.least.verdict x b.needs b.rule low small) in
          record {
            asked = a;
            below = l.below;
            least = l.least;
            priced = l.priced;
            parts = window-least-parts windowed j.rule l.least;
            placed = cols-parts windowed a.limited.from j.rule
                (window-least-inside windowed (atoms-level by-atoms) l.least)
                (record { low = a.limited.low e (omega arith); near = a.near });
            earlier = j.near;
          }

-- Each part can be written, where the parts before it are.
module _ {cost : Cost} {weight : ℕ → ℕ} (by-atoms : ByAtoms cost weight) {prefix loop table : List ℕ}
    {e i : ℕ} {work : List ℕ} {x : Node} {d : Demands} (p : Planned cost prefix loop table e i work x d)
    {at next m : ℕ} {found tree : List ℕ}
    (u : Underway cost (schedule_frame prefix loop) (claims_of table d) p.below at found tree next m)
    (lt : m < d.fixed + d.count) (z : Claim) where
  short : m < length (claims_of table d)
  short = omega (arith, claims-length table d, lt)

  -- the claim at a place is that of the part at it
  pub part-is : get_or (claims_of table d) m z
      ≡ claim (formula_of table (part_of d m).entry) (part_of d m).position d.verdict
  part-is = claims-at table d m z p.earlier.one lt

  pub part-near : (part_of d m).entry < e
  part-near = (part-within _ _ e i d m (writable-within by-atoms p.asked) p.earlier lt).0

  pub part-writable : Writable cost prefix loop table (part_of d m).entry (part_of d m).position work
      × Room cost (schedule_frame prefix loop) (formula_of table (part_of d m).entry) (part_of d m).position
      next (length tree)
  part-writable =
      let n = underway-next u z short in
      let near = subst (InReach p.asked.reach (length loop)) part-is (each_at p.placed m z short) in
      let cell = p.asked.filled.rows (part_of d m).entry (part_of d m).position
      (omega (arith, part-near)) near.near in
      let own = subst (λ c. Least cost (schedule_frame prefix loop) c.formula c.position n.first)
      part-is (for-least n.least) in
      let price = cell-priced (repeats-lawful (schedule-repeats prefix loop p.asked.limited.loop))
      cell own in
      let sum = underway-sum u in
      let costs = underway-cost u in
      let costs-left : cost_of cost u.rest ≡ cost_of cost n.first + cost_of cost n.others
      = ap (cost_of cost) n.is ∙ cost-append cost n.first n.others in
      let left : length u.rest ≡ length n.first + length n.others
      = ap length n.is ∙ length-append n.first n.others in (
        record {
          reach = p.asked.reach;
          limited = limited-earlier (omega (arith, part-near)) refl p.asked.limited;
          filled = record { rows = λ k q lt. p.asked.filled.rows k q (omega (arith, lt, part-near)) };
          near = near.near;
          small = omega (arith, price, costs-left, costs, p.priced, p.asked.small);
        },
        record {
          room = λ ws l. omega (
            arith,
            ap length (least-one l own),
            left,
            sum,
            u.ends,
            u.inside,
            underway-length u,
          );
        },
      )
