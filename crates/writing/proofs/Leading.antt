-- The root of the least tree, from the filled rows: what an entry's kind finds
-- in the rows of its parts is it.
use Prim.Native.Nat.{ℕ, suc, ◌+◌, ◌-◌, ◌<◌, ◌≤◌}
use mathlib.Core.Path.{◌≡◌, refl, sym, ap, subst, ◌∙◌}
use mathlib.Core.Bool.{Bool, true, false}
use mathlib.Core.List.{List, [], ◌∷◌}
use native.Mathlib.Nat.{mul-le-mul_left}
use native.Mathlib.Omega.{arith}
use lib.ListN.{length, get_or}
use Rattle.schedule.specs.Limits.{max_letters, max_height, work_length}
use Rattle.rules.specs.Formula.{Formula, until, height}
use Rattle.rules.specs.declared.Side.TheVariants.{Future}
use Rattle.rules.specs.Tables.{formula_of, build, entry_at}
use Rattle.rules.specs.declared.Entry.{Entry}
use Rattle.rules.specs.declared.Entry.TheVariants.{Atom, One, Two, Broken}
use Rattle.rules.specs.declared.Unary.TheVariants.{Not}
use Rattle.rules.specs.declared.Binary.TheVariants.{Or, And, Since, Until}
use Rattle.rules.proofs.Entries.{PartsBelow, parts-earlier}
use Rattle.rules.proofs.Unrolls.{formula-unrolls}
use Rattle.trees.specs.Nodes.{node}
use Rattle.trees.specs.declared.Node.{Node}
use Rattle.trees.specs.Rules.{Frame, Claim, claim, Rule, rule5, rule9, rule11, rule12, rule14, rule15}
use Rattle.trees.specs.Trees.{Tree}
use Rattle.trees.specs.Frames.{schedule_frame}
use Rattle.trees.specs.Least.{Cost, cost_of, Least}
use Rattle.trees.specs.declared.Verdict.{Verdict}
use Rattle.trees.specs.declared.Verdict.TheVariants.{Holds, Violated}
use Rattle.trees.proofs.Forests.{tree-some}
use Rattle.trees.proofs.Needs.{formula_atom, rule-numbers}
use Rattle.theory.specs.inside.Frames.{Lawful}
use Rattle.theory.specs.inside.Threshold.{window_end}
use Rattle.theory.specs.inside.Cols.{cols, InReach}
use Rattle.theory.specs.inside.Costs.{cut, cut_off}
use Rattle.theory.specs.inside.Level.{ByAtoms}
use Rattle.theory.proofs.Cuts.{cut-one}
use Rattle.theory.proofs.Runs.{Each, also}
use Rattle.theory.proofs.Sound.{sound}
use Rattle.theory.proofs.Prices.{least-price}
use Rattle.theory.proofs.Cols.{cols-parts}
use Rattle.theory.proofs.Horizon.{InWindow, atoms-level}
use Rattle.theory.proofs.Windowed.{Windowed, repeats-windowed, window-least-inside, window-least-below}
use Rattle.theory.proofs.LeastNodes.{EachNode, next_node}
use Rattle.theory.proofs.Small.{least-small}
use Rattle.theory.proofs.Words.{schedule-repeats}
use Rattle.cells.specs.inside.Cells.{holds_in}
use Rattle.rows.specs.inside.Rows.{row_of}
use Rattle.cells.specs.inside.Meant.{CellFor}
use Rattle.search.specs.inside.Filling.{FilledBelow}
use Rattle.search.proofs.Filling.{cols-small}
use Rattle.scans.specs.inside.Scans.{price_in}
use Rattle.roots.specs.inside.Roots.{Readable, RootFor}
use Rattle.roots.specs.inside.Rooted.{cell_price}
use Rattle.writing.specs.inside.Writes.{Writable, RootOfLeast, Rooted}
use Rattle.writing.proofs.Atoms.{atom-small}
use Rattle.roots.proofs.PartPrices.{held_by, part-price}
use Rattle.roots.proofs.PlainFinds.{atom-found, not_found, or-found, and-found}
use Rattle.roots.proofs.ListFinds.{ListFound, since-found, until-found}

-- The verdict of a cell is that of the least tree, and its price is that tree's, cut off.
module _ {cost : Cost} {frame : Frame} (law : Lawful frame) {f : Formula} {i c : ℕ}
    (cell : CellFor cost frame f i c) where
  pub cell-held : (s : Verdict) {us : List Node} → Tree frame (claim f i s) us → held_by s ≡ holds_in c
  cell-held Holds t = sym (cell.truth.1 (sound law t))
  cell-held Violated t = by (holds_in c) refl where
    by : (b : Bool) → holds_in c ≡ b → false ≡ holds_in c
    by true e = absurd (sound law t (cell.truth.0 e))
    by false e = sym e

  pub cell-priced : {us : List Node} → Least cost frame f i us → cell_price c ≡ cut (cost_of cost us)
  unfolding cell_price
  cell-priced l =
      ap (λ b. price_in b c) (sym (cell-held l.verdict l.valid))
      ∙ cut-one (part-price l.verdict cell) (least-price l)

-- The least tree of a formula at a position, as the cell has it: its root, its rule, and how far that looks.
pub record LeastAt (cost : Cost) (u v : ℕ) (frame : Frame) (f : Formula) (i c : ℕ) : Type 0 where
  pub root : Node
  pub below : List Node
  pub least : Least cost frame f i (root ∷ below)
  pub priced : cost_of cost (root ∷ below) ≡ cell_price c
  pub held : held_by least.verdict ≡ holds_in c
  pub needs : List Claim
  pub rule : Rule frame (claim f i least.verdict) root needs
  pub near : InWindow u v (claim f i least.verdict) root

module _ {cost : Cost} {weight : ℕ → ℕ} (by-atoms : ByAtoms cost weight) {frame : Frame} {u v reach : ℕ}
    (w : Windowed frame u v reach) {f : Formula} {i c : ℕ} (cell : CellFor cost frame f i c)
    (small : cell_price c < cut_off) where
  rooted : (us : List Node) → Least cost frame f i us → LeastAt cost u v frame f i c
  rooted [] l = absurd (omega (arith, tree-some l.valid))
  rooted (y ∷ ws) l = let b = window-least-below w l in record {
    root = y;
    below = ws;
    least = l;
    priced = omega (arith, cell-priced w.lawful cell l, small);
    held = cell-held w.lawful cell l.verdict l.valid;
    needs = b.needs;
    rule = b.rule;
    near = window-least-inside w (atoms-level by-atoms) l;
  }

  pub cell-root : LeastAt cost u v frame f i c
  cell-root = let l = w.exists cost f i in rooted l.0 l.1

-- The node y is what an entry's kind finds.
pub record Finds (work : List ℕ) (x : Entry) (i : ℕ) (held : Bool) (price : ℕ) (y : Node) : Type 0 where
  pub readable : Readable work x i held price
  pub found : (r : Node) → RootFor work x i held price r → y ≡ node r.rule r.atom r.number

each_first : {P : Claim → Type 0} {c : Claim} {cs : List Claim} → Each P (c ∷ cs) → P c
each_first (also p ps) = p

root-node : {y : Node} {r a n : ℕ} (x : Node) → x ≡ record { rule = r; atom = a; number = n } → y ≡ node r a n
    → y ≡ node x.rule x.atom x.number
root-node x e p = p ∙ ap (λ z. node z.rule z.atom z.number) (sym e)

module _ {work : List ℕ} {l r i price : ℕ} {s : Verdict} {y : Node} (ll : l < 32) (lr : r < 32) where
  since-finds : ListFound work l r i s false price 11 y → Finds work (Two Since l r) i (held_by s) price y
  since-finds a = record {
    readable = (ll, lr, a.reached);
    found = λ x m. root-node x m.is (a.found m.met m.scanned);
  }

  until-finds : ListFound work l r i s true price 14 y → Finds work (Two Until l r) i (held_by s) price y
  until-finds a = record {
    readable = (ll, lr, a.reached);
    found = λ x m. root-node x m.is (a.found m.met m.scanned);
  }

-- A formula asked inside its columns, over rows that are filled: positions of its parts lie inside theirs.
module _ {cost : Cost} {weight : ℕ → ℕ} (by-atoms : ByAtoms cost weight) {frame : Frame} {u v reach : ℕ}
    (w : Windowed frame u v reach) (from : u ≤ reach) (short : reach ≤ 256) (fits : u + v ≤ max_letters)
    {table work : List ℕ} {e : ℕ} (below : e ≤ 32)
    (filled : FilledBelow cost frame table reach v e work) where
  part-cells : (l end : ℕ) → l < e → end ≤ cols reach v (formula_of table l) → (k : ℕ) → k < end
      → CellFor cost frame (formula_of table l) k (row_of work l k)
  part-cells l end lt room k h = filled.rows l k lt (omega (arith, room, h))

  pub kind-finds : {i c : ℕ} (x : Entry) → cell_price c < cut_off → PartsBelow e x
      → ((s : Verdict) → InReach reach v (claim (build (formula_of table) x) i s))
      → (d : LeastAt cost u v frame (build (formula_of table) x) i c)
      → Finds work x i (held_by d.least.verdict) (cell_price c) d.root
  kind-finds (Atom a) small lt p d =
      record { readable = tt; found = λ r e. root-node r e (atom-found d.rule) }
  kind-finds (One Not l) small lt p d =
      record { readable = tt; found = λ r e. root-node r e (not_found d.rule) }
  kind-finds {i} (Two Or l r) small lt p d =
      let at = each_first (cols-parts w from rule5 (omega arith) (p Holds)) in
      record {
        readable = omega (arith, lt.0, below);
        found = λ x e. root-node x e
            (or-found by-atoms w.lawful (w.exists cost) (filled.rows l i lt.0 at.near) small
            d.least d.priced d.rule);
      }
  kind-finds {i} (Two And l r) small lt p d =
      let at = each_first (cols-parts w from rule9 (omega arith) (p Violated)) in
      record {
        readable = omega (arith, lt.0, below);
        found = λ x e. root-node x e
            (and-found by-atoms w.lawful (w.exists cost) (filled.rows l i lt.0 at.near) small
            d.least d.priced d.rule);
      }
  kind-finds {i} (Two Since l r) small lt p d =
      let f = formula_of table l in
      let g = formula_of table r in
      let right = (each_first (cols-parts w from (rule11 {f = f} {g = g} {i = i} {n = 0} (omega arith))
      (omega arith) (p Holds))).near in
      let left = (each_first (cols-parts w from
      (rule12 {f = f} {g = g} {i = i} {n = 1} (omega arith) (omega arith)) (omega arith)
      (p Violated))).near in
      let a = since-found by-atoms w.lawful (w.exists cost) work l r
      (omega (arith, right, cols-small reach v g short (omega (arith, fits))))
      (λ k h. part-cells l (suc i) lt.0 (omega (arith, left)) k (omega (arith, h)))
      (λ k h. part-cells r (suc i) lt.1 (omega (arith, right)) k (omega (arith, h))) d.least d.priced
      small d.rule in
      since-finds (omega (arith, lt.0, below)) (omega (arith, lt.1, below)) a
  kind-finds {i} (Two Until l r) small lt p d =
      let f = formula_of table l in
      let g = formula_of table r in
      let end = window_end u v g i in
      let lap : max_height - height Future (until f g) ≤ max_height = omega arith in
      let there : i < window_end u v g i = w.some g i
      (omega (arith, (p Holds).near, mul-le-mul_left v lap)) in
      let right = (each_first (cols-parts w from (rule14 {f = f} {g = g} {i = i} {n = end - 1 - i})
      (omega (arith, there)) (p Holds))).near in
      let left = (each_first (cols-parts w from
      (rule15 {f = f} {g = g} {i = i} {n = end - i} (omega (arith, there))) (omega (arith, there))
      (p Violated))).near in
      let a = until-found by-atoms w work l r i there
      (omega (arith, right, cols-small reach v g short (omega (arith, fits)), there))
      (λ k h. part-cells l end lt.0 (omega (arith, left, there)) k h)
      (λ k h. part-cells r end lt.1 (omega (arith, right, there)) k h) d.least d.priced small
      d.near d.rule in
      until-finds (omega (arith, lt.0, below)) (omega (arith, lt.1, below)) a
  kind-finds Broken small lt p d =
      record { readable = tt; found = λ r e. root-node r e (atom-found d.rule) }

  -- the same for the formula of an entry
  pub entry-finds : {i c : ℕ} {g : Formula} → g ≡ build (formula_of table) (entry_at table e)
      → cell_price c < cut_off → ((s : Verdict) → InReach reach v (claim g i s))
      → (d : LeastAt cost u v frame g i c)
      → Finds work (entry_at table e) i (held_by d.least.verdict) (cell_price c) d.root
  entry-finds {i} {c} {g} same small =
      subst (λ h. ((s : Verdict) → InReach reach v (claim h i s)) → (d : LeastAt cost u v frame h i c)
      → Finds work (entry_at table e) i (held_by d.least.verdict) (cell_price c) d.root)
      (sym same) (kind-finds (entry_at table e) small (parts-earlier e (get_or table e 0)))

-- What the writer asks of the root that it looks for: that it is found,
-- that it leads the least tree, that its fields fit a word.
pub record Led (cost : Cost) (prefix loop table : List ℕ) (e i : ℕ) (work : List ℕ) : Type 0 where
  pub root : Node
  pub finds : Finds work (entry_at table e) i (holds_in (row_of work e i)) (cell_price (row_of work e i)) root
  pub leads : RootOfLeast cost (schedule_frame prefix loop) (formula_of table e) i
      (cell_price (row_of work e i)) root
  pub rule-small : root.rule < 256
  pub atom-fits : root.atom < 256
  pub number_small : root.number < 65536

each-head : {P : Node → Type 0} {x : Node} {ws : List Node} → EachNode P (x ∷ ws) → P x
each-head (next_node p ps) = p

pub led : {cost : Cost} {weight : ℕ → ℕ} → ByAtoms cost weight
    → (prefix loop table : List ℕ) (e i : ℕ) (work : List ℕ) → Writable cost prefix loop table e i work
    → Led cost prefix loop table e i work
led by-atoms prefix loop table e i work a =
    let w = repeats-windowed a.reach (schedule-repeats prefix loop a.limited.loop) in
    let c = row_of work e i in
    let placed : (s : Verdict) → InReach a.reach (length loop) (claim (formula_of table e) i s)
    = λ s. record { low = a.limited.low e (omega arith); near = a.near } in
    let same = formula-unrolls table e in
    let d = cell-root by-atoms w (a.filled.rows e i (omega arith) a.near) a.small in
    let fits = rule-numbers d.rule in
    let n = each-head (least-small w a.limited.letters a.limited.from a.limited.short
    (atoms-level by-atoms) d.least (placed d.least.verdict)) in
    record {
      root = d.root;
      finds = subst (λ h. Finds work (entry_at table e) i h (cell_price c) d.root) d.held
          (entry-finds by-atoms w a.limited.from a.limited.short a.limited.letters
          (omega (arith, a.limited.entry))
          (record { rows = λ k p lt. a.filled.rows k p (omega (arith, lt)) }) same a.small placed d);
      leads = record { below = d.below; least = d.least; priced = d.priced };
      rule-small = omega (arith, fits.high);
      atom-fits = omega (
        arith,
        fits.named,
        ap formula_atom same,
        atom-small e (get_or table e 0) (formula_of table),
      );
      number_small = omega (arith, n.small);
    }

-- The same for what the code has read: the entry, the verdict of its cell and the price.
module _ {cost : Cost} {prefix loop table : List ℕ} {e i : ℕ} {work : List ℕ}
    (d : Led cost prefix loop table e i work) where
  pub read-finds : {x : Entry} {cell price : ℕ} {held : Bool} → x ≡ entry_at table e → cell ≡ row_of work e i
      → held ≡ holds_in cell → price ≡ price_in held cell → Finds work x i held price d.root
  unfolding cell_price
  read-finds {x} {cell} {price} {held} ex ec eh es =
      let c = row_of work e i in
      let held-in : held ≡ holds_in c = eh ∙ ap holds_in ec in
      let priced : price ≡ price_in held c = es ∙ ap (price_in held) ec in
      subst (λ y. Finds work y i held price d.root) (sym ex)
      (subst (λ n. Finds work (entry_at table e) i held n d.root) (sym priced)
      (subst (λ h. Finds work (entry_at table e) i h (price_in h c) d.root) (sym held-in) d.finds))

-- a root that is found leads the least tree, and fits a word
pub led-root : {cost : Cost} {prefix loop table : List ℕ} {e i : ℕ} {work : List ℕ}
    (d : Led cost prefix loop table e i work) {r : Node} → d.root ≡ r
    → Rooted cost (schedule_frame prefix loop) (formula_of table e) i (cell_price (row_of work e i)) r
led-root {cost} {prefix} {loop} {table} {e} {i} {work} d is = record {
  leads = subst
      (RootOfLeast cost (schedule_frame prefix loop) (formula_of table e) i (cell_price (row_of work e i)))
      is d.leads;
  rule_fits = omega (arith, d.rule-small, ap (λ n. n.rule) is);
  atom-fits = omega (arith, d.atom-fits, ap (λ n. n.atom) is);
  number_fits = omega (arith, d.number_small, ap (λ n. n.number) is);
}

-- What is written lies inside the rows.
pub record Inside (e i len : ℕ) : Type 0 where
  pub row : e < 32
  pub column : i < 496
  pub room : work_length ≤ len

pub writable-inside : {cost : Cost} {prefix loop table : List ℕ} {e i : ℕ} {work : List ℕ}
    → Writable cost prefix loop table e i work → Inside e i (length work)
writable-inside {loop = loop} {table} {e} a = record {
  row = a.limited.entry;
  column = omega (
    arith,
    a.near,
    cols-small a.reach (length loop) (formula_of table e) a.limited.short
        (omega (arith, a.limited.letters)),
  );
  room = a.limited.room;
}
