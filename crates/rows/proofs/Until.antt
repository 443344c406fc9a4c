-- The loop of an until: a lap in, then falling along the row, with the sum of the window of rule 16.
use mathlib.Core.Path.{◌≡◌, sym, ap, ◌∙◌}
use mathlib.Core.List.{List}
use mathlib.Core.Bool.{true, false}
use Prim.Native.Nat.{ℕ, suc, ◌+◌, ◌-◌, ◌*◌, ◌<◌, ◌≤◌, max}
use mathlib.Core.Logic.{by_cases}
use native.Mathlib.Decide.{dec_le}
use native.Mathlib.Omega.{arith}
use lib.Dec.{leb}
use borrow.Author.Tests.{leb-true, le-leb, lt-leb}
use lib.ListN.{length, set}
use Rattle.theory.specs.inside.RunCosts.{sum_run}
use Rattle.theory.specs.inside.Costs.{cut_off}
use Rattle.theory.proofs.CostsRuns.{run-slid}
use Rattle.cells.specs.inside.Cells.{con_of, cell_of, stepped, until_state, closed, until_cell, Slid}
use Rattle.cells.specs.inside.Stands.{Stand}
use Rattle.rows.specs.inside.Rows.{row_of, RowReady, row_length}
use Rattle.rows.proofs.Rows.{Partly, partly_none, partly-down, right-read, stepped-read}

-- a step down
until-less : (a b : ℕ → ℕ) (top p e : ℕ) → e ≡ suc p → p < top
    → stepped (until_state a b top (top - e)) (a p) (b p) ≡ until_state a b top (top - p)
unfolding until_state
until-less a b top p e at lt =
    let d : top - p ≡ suc (top - e) = omega arith in
    let q : top - suc (top - e) ≡ p = omega arith in
    sym
    (ap (until_state a b top) d
    ∙ ap (λ n. stepped (until_state a b top (top - e)) (a n) (b n)) q)

-- from p to the top, nothing stored
pub record RunsIn (a b : ℕ → ℕ) (top p : ℕ) (x : Stand) (sum : ℕ) : Type 0 where
  pub state : x ≡ until_state a b top (top - p)
  pub sums : sum ≡ sum_run (λ q. con_of (b q)) p (top - p)
  pub bound : sum ≤ 65535 * (top - p)

module _ (a b : ℕ → ℕ) (top : ℕ) where
  pub runs_none : (sum : ℕ) → sum ≡ 0
      → RunsIn a b top top (record { holds = false; pro = cut_off; con = cut_off }) sum
  unfolding until_state
  runs_none sum none =
      let d : 0 ≡ top - top = omega arith in
      record {
        state = ap (until_state a b top) d;
        sums = none ∙ ap (sum_run (λ q. con_of (b q)) top) d;
        bound = omega arith;
      }

  pub runs-turn : {p e sum con : ℕ} {x y : Stand} → RunsIn a b top e x sum → e ≡ suc p → p < top
      → y ≡ stepped x (a p) (b p) → con ≡ con_of (b p) → con ≤ 65535 → RunsIn a b top p y (sum + con)
  runs-turn {p} {e} {sum} {con} r at lt ye ce le =
      let d : top - p ≡ suc (top - e) = omega arith in
      let split : sum_run (λ q. con_of (b q)) p (top - p)
      ≡ con_of (b p) + sum_run (λ q. con_of (b q)) (suc p) (top - e)
      = ap (sum_run (λ q. con_of (b q)) p) d in
      let from : sum_run (λ q. con_of (b q)) e (top - e) ≡ sum_run (λ q. con_of (b q)) (suc p) (top - e)
      = ap (λ n. sum_run (λ q. con_of (b q)) n (top - e)) at in
      record {
        state = ye ∙ ap (λ s. stepped s (a p) (b p)) r.state ∙ until-less a b top p e at lt;
        sums = omega (arith, r.sums, split, from, ce);
        bound = omega (arith, r.bound);
      }

-- rule 16's count at a position
abbrev pub count : ℕ → ℕ → ℕ → ℕ
count lap start p = max p start + lap - p

-- the last cell can be taken away where the right side repeats
pub may-slide : (price : ℕ → ℕ) (lap start p sum : ℕ) → start ≤ p
    → sum ≡ sum_run price (suc p) (count lap start (suc p)) → price (p + lap) ≤ sum + price p
may-slide price lap start p sum le e =
    let n : count lap start (suc p) ≡ lap = omega arith in
    let s : sum_run price (suc p) (count lap start (suc p)) ≡ sum_run price (suc p) lap
    = ap (sum_run price (suc p)) n in
    omega (arith, s, e, run-slid price p lap)

pub slid-on : (price : ℕ → ℕ) (lap start p sum r : ℕ) → start ≤ p
    → sum ≡ sum_run price (suc p) (count lap start (suc p)) → r + price (p + lap) ≡ sum + price p
    → r ≡ sum_run price p (count lap start p)
slid-on price lap start p sum r le e s =
    let n : count lap start (suc p) ≡ lap = omega arith in
    let m : count lap start p ≡ lap = omega arith in
    let ns : sum_run price (suc p) (count lap start (suc p)) ≡ sum_run price (suc p) lap
    = ap (sum_run price (suc p)) n in
    let ms : sum_run price p (count lap start p) ≡ sum_run price p lap = ap (sum_run price p) m in
    omega (arith, ns, ms, e, s, run-slid price p lap)

pub grown-on : (price : ℕ → ℕ) (lap start p sum r : ℕ) → p < start
    → sum ≡ sum_run price (suc p) (count lap start (suc p)) → r ≡ sum + price p
    → r ≡ sum_run price p (count lap start p)
grown-on price lap start p sum r lt e s =
    let m : count lap start p ≡ suc (count lap start (suc p)) = omega arith in
    let ms : sum_run price p (count lap start p) ≡ sum_run price p (suc (count lap start (suc p)))
    = ap (sum_run price p) m in
    omega (arith, ms, e, s)

-- The row of an until filled from p on, the rest as found, with the state and the sum there.
pub record Falls (row left right cols lap start : ℕ) (found : List ℕ) (p : ℕ) (here : List ℕ) (x : Stand)
    (sum : ℕ) : Type 0 where
  pub state : x ≡ until_state (row_of found left) (row_of found right) (cols + lap) (cols + lap - p)
  pub sums : sum ≡ sum_run (λ q. con_of (row_of found right q)) p (count lap start p)
  pub bound : sum ≤ 65535 * (cols + lap - p)
  pub part : Partly row p cols (until_cell (row_of found left) (row_of found right) cols lap start) found here

module _ {row left right cols lap start : ℕ} {found : List ℕ} where
  pub falls-none : {x : Stand} {sum : ℕ} → start ≤ cols
      → x ≡ until_state (row_of found left) (row_of found right) (cols + lap) lap
      → sum ≡ sum_run (λ q. con_of (row_of found right q)) cols lap → sum ≤ 65535 * lap
      → Falls row left right cols lap start found cols found x sum
  falls-none le st su bo =
      let n : lap ≡ cols + lap - cols = omega arith in
      let m : lap ≡ count lap start cols = omega arith in
      record {
        state = st ∙ ap (until_state (row_of found left) (row_of found right) (cols + lap)) n;
        sums = su ∙ ap (sum_run (λ q. con_of (row_of found right q)) cols) m;
        bound = omega arith;
        part = partly_none row cols _ found;
      }

  module _ {p e sum : ℕ} {here : List ℕ} {x : Stand}
      (f : Falls row left right cols lap start found e here x sum)
      (ready : RowReady row left right cols (length found)) (most : cols + lap ≤ row_length) (at : e ≡ suc p)
      (lt : p < cols) where
    -- what stands in the row of the right part at the two ends of the window
    come : con_of (row_of here right p) ≡ con_of (row_of found right p)
    come = ap con_of (right-read ready f.part p (omega arith))

    gone : p + lap < row_length → con_of (row_of here right (p + lap)) ≡ con_of (row_of found right (p + lap))
    gone small = ap con_of (right-read ready f.part (p + lap) small)

    sums-here : sum ≡ sum_run (λ q. con_of (row_of found right q)) (suc p) (count lap start (suc p))
    sums-here = f.sums ∙ ap (λ s. sum_run (λ q. con_of (row_of found right q)) s (count lap start s)) at

    pub falls-slides : leb start p ≡ true
        → con_of (row_of here right (p + lap)) ≤ sum + con_of (row_of here right p)
    falls-slides t =
        let g = gone (omega arith) in
        omega (
          arith,
          come,
          g,
          may-slide (λ q. con_of (row_of found right q)) lap start p sum (leb-true start p t) sums-here,
        )

    sums_next : {r : ℕ}
        → Slid sum (con_of (row_of here right p)) (con_of (row_of here right (p + lap))) (leb start p) r
        → r ≡ sum_run (λ q. con_of (row_of found right q)) p (count lap start p)
    sums_next {r} s =
        let g = gone (omega arith) in
        by_cases (dec_le start p)
        (λ le. slid-on (λ q. con_of (row_of found right q)) lap start p sum r le sums-here
        (omega (arith, come, g, s.slides (le-leb start p le))))
        (λ gt. grown-on (λ q. con_of (row_of found right q)) lap start p sum r (omega arith) sums-here
        (omega (arith, come, s.grows (lt-leb start p (omega arith)))))

    state-next : {y : Stand} → y ≡ stepped x (row_of here left p) (row_of here right p)
        → y ≡ until_state (row_of found left) (row_of found right) (cols + lap) (cols + lap - p)
    state-next ye =
        ye ∙ ap (λ s. stepped s (row_of here left p) (row_of here right p)) f.state
        ∙ stepped-read ready f.part _ p (omega arith)
        ∙ until-less (row_of found left) (row_of found right) (cols + lap) p e at (omega arith)

    pub falls-turn : {y : Stand} {r v : ℕ} → y ≡ stepped x (row_of here left p) (row_of here right p)
        → Slid sum (con_of (row_of here right p)) (con_of (row_of here right (p + lap))) (leb start p) r
        → r ≤ sum + 65535 → v ≡ cell_of (closed y r)
        → Falls row left right cols lap start found p (set here (row * row_length + p) v) y r
    unfolding until_cell
    falls-turn {y} {r} {v} ye s rb ve = record {
      state = state-next ye;
      sums = sums_next s;
      bound = omega (arith, f.bound);
      part = partly-down v f.part (omega arith) lt
          (omega (arith, ready.room, ready.row_below, ready.cols-below))
          (ve ∙ ap (λ z. cell_of (closed z r)) (state-next ye)
          ∙ ap (λ z. cell_of (closed (until_state (row_of found left) (row_of found right) (cols + lap)
          (cols + lap - p)) z)) (sums_next s));
    }
