-- Filling a row of the work slice, from either end: what a loop has filled so far, and the laws of one turn.
use mathlib.Core.Path.{◌≡◌, refl, sym, ap, ◌∙◌}
use mathlib.Core.List.{List}
use mathlib.Core.Logic.{by_cases}
use Prim.Native.Nat.{ℕ, ◌+◌, ◌*◌, ◌<◌, ◌≤◌, ◌/◌, ◌%◌, ◌^◌}
use native.Mathlib.Omega.{arith}
use native.Mathlib.Decide.{dec_lt, dec_le}
use native.Mathlib.Numerals.{add-one}
use lib.ListN.{length, length-set, get_or, set}
use lib.Seq.{get_or-set_same, get_or-set_other}
use Rattle.cells.specs.inside.Cells.{cell_of, plain_cell, stepped, since_state, since_cell}
use Rattle.cells.specs.inside.Cells.{atom_state}
use Rattle.cells.specs.inside.Cells.{atom_cell}
use Rattle.cells.specs.inside.Stands.{Stand}
use Rattle.rows.specs.inside.Rows.{row_of, RowReady, row_length}
use Rattle.schedule.specs.Limits.{work_length}

-- The cells of a row from one position to another are given by a function, all else is as found.
pub record Partly (row from to : ℕ) (cell : ℕ → ℕ) (found work : List ℕ) : Type 0 where
  pub same_length : length work ≡ length found
  pub cells : (p : ℕ) → from ≤ p → p < to → row_of work row p ≡ cell p
  pub before : (k : ℕ) → k < row * row_length + from → get_or work k 0 ≡ get_or found k 0
  pub after : (k : ℕ) → row * row_length + to ≤ k → get_or work k 0 ≡ get_or found k 0

pub partly_none : (row p : ℕ) (cell : ℕ → ℕ) (found : List ℕ) → Partly row p p cell found found
partly_none row p cell found = record {
  same_length = refl;
  cells = λ q le lt. absurd (omega arith);
  before = λ k lt. refl;
  after = λ k le. refl;
}

-- a cell more, at either end
module _ {row from to : ℕ} {cell : ℕ → ℕ} {found work : List ℕ} (v : ℕ) where
  pub partly-up : Partly row from to cell found work → from ≤ to → row * row_length + to < length found
      → v ≡ cell to → Partly row from (to + 1) cell found (set work (row * row_length + to) v)
  partly-up part le room e =
      let other : (k : ℕ) → (k ≡ row * row_length + to → ⊥)
      → get_or (set work (row * row_length + to) v) k 0 ≡ get_or work k 0
      = λ k ne. get_or-set_other work (row * row_length + to) k v 0 ne in
      record {
        same_length = length-set work (row * row_length + to) v ∙ part.same_length;
        cells = λ p ge lt. by_cases (dec_lt p to)
            (λ old. other (row * row_length + p) (λ same. omega arith) ∙ part.cells p ge old)
            (λ new. let same : p ≡ to = omega arith in
            ap (λ q. row_of (set work (row * row_length + to) v) row q) same
            ∙ get_or-set_same work (row * row_length + to) v 0 (omega (arith, part.same_length)) ∙ e
            ∙ ap cell (sym same));
        before = λ k lt. other k (λ same. omega arith) ∙ part.before k lt;
        after = λ k ge. other k (λ same. omega arith) ∙ part.after k (omega arith);
      }

  pub partly-down : {p : ℕ} → Partly row from to cell found work → p + 1 ≡ from → p < to
      → row * row_length + p < length found → v ≡ cell p
      → Partly row p to cell found (set work (row * row_length + p) v)
  partly-down {p} part at lt room e =
      let other : (k : ℕ) → (k ≡ row * row_length + p → ⊥)
      → get_or (set work (row * row_length + p) v) k 0 ≡ get_or work k 0
      = λ k ne. get_or-set_other work (row * row_length + p) k v 0 ne in
      record {
        same_length = length-set work (row * row_length + p) v ∙ part.same_length;
        cells = λ q ge less. by_cases (dec_le from q)
            (λ old. other (row * row_length + q) (λ same. omega arith) ∙ part.cells q old less)
            (λ new. let same : q ≡ p = omega arith in
            ap (λ j. row_of (set work (row * row_length + p) v) row j) same
            ∙ get_or-set_same work (row * row_length + p) v 0 (omega (arith, part.same_length)) ∙ e
            ∙ ap cell (sym same));
        before = λ k less. other k (λ same. omega arith) ∙ part.before k (omega arith);
        after = λ k ge. other k (λ same. omega arith) ∙ part.after k ge;
      }

-- Earlier rows are read as found.
pub partly-read : {row from to : ℕ} {cell : ℕ → ℕ} {found work : List ℕ} → Partly row from to cell found work
    → (e p : ℕ) → e < row → p < row_length → row_of work e p ≡ row_of found e p
partly-read part e p lt small = part.before (e * row_length + p) (omega arith)

-- What the rows of the parts hold while a row is filled is what they held when it was begun.
module _ {row left right cols from to : ℕ} {cell : ℕ → ℕ} {found work : List ℕ}
    (ready : RowReady row left right cols (length found)) (part : Partly row from to cell found work) where
  pub left-read : (p : ℕ) → p < row_length → row_of work left p ≡ row_of found left p
  left-read p small = partly-read part left p ready.left_below small

  pub right-read : (p : ℕ) → p < row_length → row_of work right p ≡ row_of found right p
  right-read p small = partly-read part right p ready.right-below small

  -- so what a step makes of them is the same
  pub stepped-read : (x : Stand) (p : ℕ) → p < row_length
      → stepped x (row_of work left p) (row_of work right p)
      ≡ stepped x (row_of found left p) (row_of found right p)
  stepped-read x p small =
      ap (λ n. stepped x n (row_of work right p)) (left-read p small)
      ∙ ap (stepped x (row_of found left p)) (right-read p small)

-- A since, a turn: the state and the cells.
pub since-turn : {row left right cols p v : ℕ} {found work : List ℕ} {x y : Stand}
    → RowReady row left right cols (length found) → p < cols
    → x ≡ since_state (row_of found left) (row_of found right) p
    → Partly row 0 p (since_cell (row_of found left) (row_of found right)) found work
    → y ≡ stepped x (row_of work left p) (row_of work right p) → v ≡ cell_of y
    → (y ≡ since_state (row_of found left) (row_of found right) (p + 1))
    × Partly row 0 (p + 1) (since_cell (row_of found left) (row_of found right)) found
    (set work (row * row_length + p) v)
unfolding since_state since_cell
since-turn {left = left} {right} {p = p} {v} {found} {work} ready lt at part ey ev =
    let a = row_of found left in
    let b = row_of found right in
    let reached = ey
    ∙ ap (λ s. stepped s (row_of work left p) (row_of work right p)) at
    ∙ stepped-read ready part (since_state a b p) p (omega (arith, ready.cols-below)) in (
      reached ∙ ap (since_state a b) (sym (add-one p)),
      partly-up v part (omega arith) (omega (arith, ready.room, ready.row_below, ready.cols-below))
          (ev ∙ ap cell_of reached),
    )

-- The plain kinds, a turn.
pub plain_turn : (make : ℕ → ℕ → Stand) {row left right cols p v : ℕ} {found work : List ℕ} {y : Stand}
    → RowReady row left right cols (length found) → p < cols
    → Partly row 0 p (plain_cell make (row_of found left) (row_of found right)) found work
    → y ≡ make (row_of work left p) (row_of work right p) → v ≡ cell_of y
    → Partly row 0 (p + 1) (plain_cell make (row_of found left) (row_of found right)) found
    (set work (row * row_length + p) v)
unfolding plain_cell
plain_turn make {left = left} {right} {p = p} {v} {found} {work} ready lt part ey ev =
    let small : p < row_length = omega (arith, ready.cols-below) in
    partly-up v part (omega arith) (omega (arith, ready.room, ready.row_below, ready.cols-below))
    (ev
    ∙ ap cell_of
    (ey ∙ ap (λ n. make n (row_of work right p)) (left-read ready part p small)
    ∙ ap (make (row_of found left p)) (right-read ready part p small)))

-- An atom, a turn.
pub atom-turn : (word : ℕ → ℕ) (atom : ℕ) {row cols p v n : ℕ} {found work : List ℕ}
    → work_length ≤ length found → row < 32 → cols ≤ row_length → p < cols
    → Partly row 0 p (atom_cell word atom) found work
    → n ≡ word p → v ≡ cell_of (atom_state (n / 2 ^ atom % 2))
    → Partly row 0 (p + 1) (atom_cell word atom) found (set work (row * row_length + p) v)
unfolding atom_cell
atom-turn word atom {v = v} room below small lt part en ev =
    partly-up v part (omega arith) (omega (arith, room, below, small))
    (ev ∙ ap (λ n. cell_of (atom_state (n / 2 ^ atom % 2))) en)
