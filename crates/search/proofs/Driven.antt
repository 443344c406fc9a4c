-- A row's bounds and its filling by kind, as the code has them: the columns by
-- the height that was worked out.
use Prim.Native.Nat.{ℕ, suc, ◌+◌, ◌-◌, ◌*◌, ◌<◌, ◌≤◌}
use mathlib.Core.Path.{◌≡◌, refl, sym, ◌∙◌, ap, subst}
use mathlib.Core.List.{List}
use native.Mathlib.Nat.{mul-le-mul, mul-le-mul_left}
use native.Mathlib.Numerals.{add-one}
use native.Mathlib.Omega.{arith}
use lib.ListN.{length, get_or}
use Rattle.schedule.specs.Letters.{letter_at}
use Rattle.schedule.specs.Limits.{max_height, work_length}
use Rattle.rules.specs.Formula.{until, height}
use Rattle.rules.specs.Tables.{formula_of, build, entry_at}
use Rattle.rules.specs.declared.Entry.{Entry}
use Rattle.rules.specs.declared.Entry.TheVariants.{Atom, One, Two, Broken}
use Rattle.rules.specs.declared.Unary.TheVariants.{Not}
use Rattle.rules.specs.declared.Binary.TheVariants.{Or, And, Since, Until}
use Rattle.rules.specs.declared.Side.TheVariants.{Past, Future}
use Rattle.rules.proofs.Entries.{PartsBelow, parts-earlier}
use Rattle.rules.proofs.Unrolls.{formula-unrolls}
use Rattle.trees.specs.Rules.{Frame}
use Rattle.trees.specs.Least.{Cost, ones}
use Rattle.theory.proofs.Horizon.{ones-atoms}
use Rattle.trees.specs.Frames.{schedule_frame}
use Rattle.theory.specs.inside.Cols.{cols}
use Rattle.theory.proofs.Words.{schedule-repeats}
use Rattle.theory.proofs.Windowed.{Windowed, repeats-windowed}
use Rattle.cells.specs.inside.Cells.{atom_cell, not_state, or_state, and_state, plain_cell}
use Rattle.cells.specs.inside.Cells.{since_cell, until_cell}
use Rattle.rows.specs.inside.Rows.{row_of, RowReady, Filled, row_length}
use Rattle.search.specs.inside.Filling.{FilledBelow, Limited, Fills}
use Rattle.search.proofs.Filling.{atom-filled, broken-filled, not-filled, or-filled, and-filled}
use Rattle.search.proofs.Filling.{since-filled, until-filled}

-- A row within the limits, and h is its entry's height into the future, as the code has worked it out.
pub record Measured (prefix loop table : List ℕ) (e len reach h : ℕ) : Type 0 where
  pub limits : Limited (length prefix) (length loop) reach table e len
  pub high : h ≡ height Future (formula_of table e)

module _ {prefix loop table : List ℕ} {e len reach h : ℕ} (m : Measured prefix loop table e len reach h) where
  loop-small : length loop ≤ 48
  loop-small = omega (arith, m.limits.letters)

  pub height-small : h ≤ 5
  height-small = omega (arith, m.high, m.limits.low e (omega arith))

  pub lap-small : length loop * (5 - h) ≤ 240
  lap-small =
      let k : 5 - h ≤ 5 = omega arith in
      mul-le-mul loop-small k

  pub atom-ready : (work_length ≤ len) × (e < 32) × (reach + length loop * (5 - h) ≤ row_length)
  atom-ready = (m.limits.room, m.limits.entry, omega (arith, lap-small, m.limits.short))

  pub row-ready : (l r : ℕ) → l < e → r < e → RowReady e l r (reach + length loop * (5 - h)) len
  row-ready l r ll lr = record {
    room = m.limits.room;
    row_below = m.limits.entry;
    left_below = ll;
    right-below = lr;
    cols-below = omega (arith, lap-small, m.limits.short);
  }

  pub parts-of : (x : Entry) → entry_at table e ≡ x → PartsBelow e x
  parts-of x at = subst (PartsBelow e) at (parts-earlier e (get_or table e 0))

  windowed : Windowed (schedule_frame prefix loop) (length prefix) (length loop) reach
  windowed = repeats-windowed reach (schedule-repeats prefix loop m.limits.loop)

  -- the columns by their definition
  cols-are : reach + length loop * (5 - h) ≡ cols reach (length loop) (formula_of table e)
  cols-are = ap (λ k. reach + length loop * (5 - k)) m.high

  whole : {found left : List ℕ} (cell : ℕ → ℕ) → length found ≡ len
      → Filled e (reach + length loop * (5 - h)) cell found left
      → (Filled e (cols reach (length loop) (formula_of table e)) cell found left
      → FilledBelow ones (schedule_frame prefix loop) table reach (length loop) (suc e) left)
      → Fills ones (schedule_frame prefix loop) table reach (length loop) (suc e) found left
  whole {found} {left} cell el f on = record {
    filled = on (subst (λ n. Filled e n cell found left) cols-are f);
    same_length = f.same_length;
    beyond = λ k past. f.after k (omega (arith, lap-small, m.limits.short, m.limits.entry));
  }

  module _ {found left : List ℕ} (el : length found ≡ len)
      (below : FilledBelow ones (schedule_frame prefix loop) table reach (length loop) e found) where
    pub atom-driven : (a : ℕ) → entry_at table e ≡ Atom a
        → Filled e (reach + length loop * (5 - h)) (atom_cell (letter_at prefix loop) a) found left
        → Fills ones (schedule_frame prefix loop) table reach (length loop) (suc e) found left
    atom-driven a at f =
        whole _ el f
        (atom-filled ones-atoms windowed m.limits.from m.limits.short loop-small below a refl at)

    pub broken-driven : entry_at table e ≡ Broken
        → Filled e (reach + length loop * (5 - h)) (atom_cell (letter_at prefix loop) 0) found left
        → Fills ones (schedule_frame prefix loop) table reach (length loop) (suc e) found left
    broken-driven at f =
        whole _ el f
        (broken-filled ones-atoms windowed m.limits.from m.limits.short loop-small below refl at)

    pub not-driven : (l : ℕ) → entry_at table e ≡ One Not l
        → Filled e (reach + length loop * (5 - h))
        (plain_cell (λ a b. not_state a) (row_of found l) (row_of found l)) found left
        → Fills ones (schedule_frame prefix loop) table reach (length loop) (suc e) found left
    not-driven l at f =
        let p = parts-of (One Not l) at in
        whole _ el f
        (not-filled ones-atoms windowed m.limits.from m.limits.short loop-small below l at p)

    module _ (l r : ℕ) where
      pub or-driven : entry_at table e ≡ Two Or l r
          → Filled e (reach + length loop * (5 - h))
          (plain_cell or_state (row_of found l) (row_of found r)) found left
          → Fills ones (schedule_frame prefix loop) table reach (length loop) (suc e) found left
      or-driven at f =
          let p = parts-of (Two Or l r) at in
          whole _ el f
          (or-filled ones-atoms windowed m.limits.from m.limits.short loop-small below
          l r p.0 p.1 at)

      pub and-driven : entry_at table e ≡ Two And l r
          → Filled e (reach + length loop * (5 - h))
          (plain_cell and_state (row_of found l) (row_of found r)) found left
          → Fills ones (schedule_frame prefix loop) table reach (length loop) (suc e) found left
      and-driven at f =
          let p = parts-of (Two And l r) at in
          whole _ el f
          (and-filled ones-atoms windowed m.limits.from m.limits.short loop-small below
          l r p.0 p.1 at)

      pub since-driven : entry_at table e ≡ Two Since l r
          → Filled e (reach + length loop * (5 - h)) (since_cell (row_of found l) (row_of found r)) found left
          → Fills ones (schedule_frame prefix loop) table reach (length loop) (suc e) found left
      since-driven at f =
          let p = parts-of (Two Since l r) at in
          whole _ el f
          (since-filled ones-atoms windowed m.limits.from m.limits.short loop-small below
          l r p.0 p.1 at)

      pub until-driven : (k : ℕ) → k ≡ height Past (formula_of table r) → entry_at table e ≡ Two Until l r
          → Filled e (reach + length loop * (5 - h))
          (until_cell (row_of found l) (row_of found r) (reach + length loop * (5 - h)) (length loop)
          (length prefix + length loop * k)) found left
          → Fills ones (schedule_frame prefix loop) table reach (length loop) (suc e) found left
      until-driven k ek at f =
          let p = parts-of (Two Until l r) at in
          whole _ el f (λ g.
          until-filled ones-atoms windowed m.limits.from m.limits.short loop-small below
          l r p.0 p.1 (m.limits.low e (omega arith)) at
          (subst (λ cell. Filled e (cols reach (length loop) (formula_of table e)) cell found left)
          (λ j. until_cell (row_of found l) (row_of found r) (cols-are j) (length loop)
          (length prefix + length loop * ek j)) g))

  -- An until looks into the future itself, so a lap fits behind its columns; and where its right side repeats
  -- lies before them.
  module _ (l r : ℕ) (at : entry_at table e ≡ Two Until l r)
      (k : ℕ) (ek : k ≡ height Past (formula_of table r)) where
    until-is : formula_of table e ≡ until (formula_of table l) (formula_of table r)
    until-is = formula-unrolls table e ∙ ap (build (formula_of table)) at

    until-low : let f = until (formula_of table l) (formula_of table r) in
        height Past f + height Future f ≤ max_height
    until-low =
        subst (λ f. height Past f + height Future f ≤ max_height) until-is (m.limits.low e (omega arith))

    pub start_small : length loop * k ≤ 48 * 5
    start_small =
        let n : k ≤ 5 = omega (arith, ek, until-low) in
        mul-le-mul loop-small n

    pub until-fits : RowReady e l r (reach + length loop * (5 - h)) len × (1 ≤ length loop)
        × (reach + length loop * (5 - h) + length loop ≤ row_length)
        × (length prefix + length loop * k ≤ reach + length loop * (5 - h))
    until-fits =
        let p = parts-of (Two Until l r) at in
        let ahead = ap (height Future) until-is in
        let n : 5 - h ≤ 4 = omega (arith, m.high, ahead) in
        let q : k ≤ 5 - h = omega (arith, ek, m.high, ahead, until-low) in (
          row-ready l r p.0 p.1,
          m.limits.loop,
          omega (arith, mul-le-mul loop-small n, m.limits.short, loop-small),
          omega (arith, mul-le-mul_left (length loop) q, m.limits.from),
        )

-- The loop over the rows: none, a turn.
pub fills-none : (cost : Cost) (frame : Frame) (table : List ℕ) (reach v : ℕ) (work : List ℕ)
    → Fills cost frame table reach v 0 work work
fills-none cost frame table reach v work = record {
  filled = record { rows = λ k p lt near. absurd (omega (arith, lt)) };
  same_length = refl;
  beyond = λ k past. refl;
}

pub fills-turn : {cost : Cost} {frame : Frame} {table : List ℕ} {reach v e : ℕ} {found work left : List ℕ}
    → Fills cost frame table reach v e found work → Fills cost frame table reach v (suc e) work left
    → Fills cost frame table reach v (e + 1) found left
fills-turn {cost} {frame} {table} {reach} {v} {e} {found} {left = left} a b =
    subst (λ k. Fills cost frame table reach v k found left) (sym (add-one e))
    (record {
      filled = b.filled;
      same_length = b.same_length ∙ a.same_length;
      beyond = λ k past. b.beyond k past ∙ a.beyond k past;
    })

-- the limits of an earlier row
pub limited-earlier : {u v reach : ℕ} {table : List ℕ} {e k len more : ℕ} → k ≤ e → more ≡ len
    → Limited u v reach table e len → Limited u v reach table k more
limited-earlier le el lim = record {
  loop = lim.loop;
  letters = lim.letters;
  from = lim.from;
  short = lim.short;
  entry = omega (arith, lim.entry);
  low = λ j h. lim.low j (omega arith);
  room = omega (arith, lim.room, el);
}
