-- A row filled from earlier ones by its entry's kind says what it means, if those do.
use Prim.Native.Nat.{ℕ, suc, ◌+◌, ◌-◌, ◌*◌, ◌<◌, ◌≤◌, max}
use mathlib.Core.Path.{◌≡◌, refl, sym, ◌∙◌, ap, subst}
use mathlib.Core.Logic.{by_cases}
use mathlib.Core.List.{List}
use native.Mathlib.Decide.{dec_lt}
use native.Mathlib.Nat.{mul-le-mul_left, mul-add}
use native.Mathlib.Omega.{arith}
use Rattle.schedule.specs.Limits.{max_height}
use Rattle.rules.specs.Formula.{Formula, orᶠ, andᶠ, since, until, height}
use Rattle.rules.specs.Tables.{formula_of, build, entry_at}
use Rattle.rules.specs.declared.Entry.{Entry}
use Rattle.rules.specs.declared.Entry.TheVariants.{Atom, One, Two, Broken}
use Rattle.rules.specs.declared.Unary.TheVariants.{Not}
use Rattle.rules.specs.declared.Binary.TheVariants.{Or, And, Since, Until}
use Rattle.rules.specs.declared.Side.TheVariants.{Past, Future}
use Rattle.rules.proofs.Unrolls.{formula-unrolls}
use Rattle.trees.specs.Rules.{Frame}
use Rattle.trees.specs.Least.{Cost}
use Rattle.theory.specs.inside.Level.{ByAtoms}
use Rattle.theory.specs.inside.Cols.{cols}
use Rattle.theory.proofs.Windowed.{Windowed}
use Rattle.cells.specs.inside.Cells.{atom_cell, not_state, or_state, and_state, plain_cell}
use Rattle.cells.specs.inside.Cells.{since_cell, closed, until_cell}
use Rattle.rows.specs.inside.Rows.{row_of, Filled, row_length}
use Rattle.cells.specs.inside.Meant.{CellFor}
use Rattle.search.specs.inside.Filling.{FilledBelow}
use Rattle.cells.proofs.Meant.{since-cell, until-cell}
use Rattle.cells.proofs.MeantPlain.{atom-cell, not-cell, or-cell, and-cell}

-- Who is asked less far into the future is asked at more positions.
cols-more : (reach v : ℕ) (f g : Formula) → height Future f ≤ height Future g
    → cols reach v g ≤ cols reach v f
cols-more reach v f g le =
    let h : max_height - height Future g ≤ max_height - height Future f = omega arith in
    omega (arith, mul-le-mul_left v h)

cols-lap : (reach v : ℕ) (f g : Formula) → height Future f + 1 ≤ height Future g
    → height Future g ≤ max_height
    → cols reach v g + v ≤ cols reach v f
cols-lap reach v f g le low =
    let h : max_height - height Future g + 1 ≤ max_height - height Future f = omega arith in
    omega (arith, mul-le-mul_left v h, mul-add v (max_height - height Future g) 1)

pub cols-small : (reach v : ℕ) (f : Formula) → reach ≤ 256 → v ≤ 48 → cols reach v f ≤ 496
cols-small reach v f short le =
    let h : max_height - height Future f ≤ 5 = omega arith in
    omega (arith, mul-le-mul_left v h)

module _ {cost : Cost} {frame : Frame} {table : List ℕ} {reach v e : ℕ} {found : List ℕ}
    (below : FilledBelow cost frame table reach v e found) where
  -- one row more
  row-filled : {left : List ℕ} → reach ≤ 256 → v ≤ 48 → (cell : ℕ → ℕ)
      → Filled e (cols reach v (formula_of table e)) cell found left
      → ((p : ℕ) → p < cols reach v (formula_of table e) → CellFor cost frame (formula_of table e) p (cell p))
      → FilledBelow cost frame table reach v (suc e) left
  row-filled {left} near_by short cell f means = record { rows = rows } where
    rows : (k p : ℕ) → k < suc e → p < cols reach v (formula_of table k)
        → CellFor cost frame (formula_of table k) p (row_of left k p)
    rows k p lt near =
        by_cases (dec_lt k e)
        (λ earlier. subst (CellFor cost frame (formula_of table k) p)
        (sym
        (f.before (k * row_length + p)
        (omega (arith, cols-small reach v (formula_of table k) near_by short))))
        (below.rows k p earlier near))
        (λ here. let e' : e ≡ k = omega arith in
        subst (λ j. p < cols reach v (formula_of table j)
        → CellFor cost frame (formula_of table j) p (row_of left j p))
        e' (λ n. subst (CellFor cost frame (formula_of table e) p) (sym (f.cells p n)) (means p n)) near)

  -- the cells of a part, where the whole is asked, and where a lap fits behind that
  part-for : (l : ℕ) → l < e → (g : Formula) → height Future (formula_of table l) ≤ height Future g → (p : ℕ)
      → p < cols reach v g → CellFor cost frame (formula_of table l) p (row_of found l p)
  part-for l lt g le p near =
      below.rows l p lt (omega (arith, near, cols-more reach v (formula_of table l) g le))

  lap-for : (l : ℕ) → l < e → (g : Formula) → height Future (formula_of table l) + 1 ≤ height Future g
      → height Future g ≤ max_height → (p : ℕ) → p < cols reach v g + v
      → CellFor cost frame (formula_of table l) p (row_of found l p)
  lap-for l lt g le low p near =
      below.rows l p lt (omega (arith, near, cols-lap reach v (formula_of table l) g le low))

-- The cell of an until at a column: its window ends where the lap behind the last column does, at the latest.
until-at : {cost : Cost} {weight : ℕ → ℕ} → ByAtoms cost weight → {frame : Frame} {u v reach : ℕ}
    → Windowed frame u v reach → u ≤ reach → {f g : Formula} (a b : ℕ → ℕ)
    → height Past (until f g) + height Future (until f g) ≤ max_height → (p : ℕ)
    → p < cols reach v (until f g)
    → ((k : ℕ) → k < cols reach v (until f g) + v → CellFor cost frame f k (a k))
    → ((k : ℕ) → k < cols reach v (until f g) + v → CellFor cost frame g k (b k))
    → CellFor cost frame (until f g) p (until_cell a b (cols reach v (until f g)) v (u + v * height Past g) p)
unfolding until_cell closed
until-at by-atoms {frame} {u} {v} {reach} w fits {f} {g} a b low p near ca cb =
    let h : height Past g ≤ max_height - height Future (until f g) = omega (arith, low) in
    until-cell by-atoms w a b ca cb p (max p (u + v * height Past g) + v - p)
    (omega (arith, near, fits, mul-le-mul_left v h)) refl _ refl

-- The rows of a schedule's table, by the kind of the entry.
module _ {cost : Cost} {weight : ℕ → ℕ} (by-atoms : ByAtoms cost weight) {frame : Frame} {u v reach : ℕ}
    (w : Windowed frame u v reach) (from : u ≤ reach) (short : reach ≤ 256) (fits : v ≤ 48) {table : List ℕ}
    {e : ℕ} {found left : List ℕ} (below : FilledBelow cost frame table reach v e found) where
  -- the formula of an entry, where its word is known
  entry_row : (x : Entry) (cell : ℕ → ℕ) → entry_at table e ≡ x
      → Filled e (cols reach v (formula_of table e)) cell found left
      → ((p : ℕ) → p < cols reach v (build (formula_of table) x)
      → CellFor cost frame (build (formula_of table) x) p (cell p))
      → FilledBelow cost frame table reach v (suc e) left
  entry_row x cell at f means =
      row-filled below short fits cell f
      (subst (λ g. (p : ℕ) → p < cols reach v g → CellFor cost frame g p (cell p))
      (sym (formula-unrolls table e ∙ ap (build (formula_of table)) at)) means)

  pub atom-filled : (a : ℕ) → weight a ≡ 1 → entry_at table e ≡ Atom a
      → Filled e (cols reach v (formula_of table e)) (atom_cell frame.letter a) found left
      → FilledBelow cost frame table reach v (suc e) left
  unfolding atom_cell
  atom-filled a is at f = entry_row (Atom a) _ at f (λ p near. atom-cell by-atoms w.lawful a is)

  pub broken-filled : weight 0 ≡ 1 → entry_at table e ≡ Broken
      → Filled e (cols reach v (formula_of table e)) (atom_cell frame.letter 0) found left
      → FilledBelow cost frame table reach v (suc e) left
  unfolding atom_cell
  broken-filled is at f = entry_row Broken _ at f (λ p near. atom-cell by-atoms w.lawful 0 is)

  pub not-filled : (l : ℕ) → entry_at table e ≡ One Not l → l < e
      → Filled e (cols reach v (formula_of table e))
      (plain_cell (λ a b. not_state a) (row_of found l) (row_of found l)) found left
      → FilledBelow cost frame table reach v (suc e) left
  unfolding plain_cell
  not-filled l at lt f = entry_row (One Not l) _ at f (λ p near.
      not-cell by-atoms w.lawful (part-for below l lt (formula_of table l) (omega arith) p near))

  module _ (l r : ℕ) (ll : l < e) (lr : r < e) where
    pub or-filled : entry_at table e ≡ Two Or l r
        → Filled e (cols reach v (formula_of table e))
        (plain_cell or_state (row_of found l) (row_of found r)) found left
        → FilledBelow cost frame table reach v (suc e) left
    unfolding plain_cell
    or-filled at f =
        let g = orᶠ (formula_of table l) (formula_of table r) in
        entry_row (Two Or l r) _ at f
        (λ p near. or-cell by-atoms w.lawful (part-for below l ll g (omega arith) p near)
        (part-for below r lr g (omega arith) p near))

    pub and-filled : entry_at table e ≡ Two And l r
        → Filled e (cols reach v (formula_of table e))
        (plain_cell and_state (row_of found l) (row_of found r)) found left
        → FilledBelow cost frame table reach v (suc e) left
    unfolding plain_cell
    and-filled at f =
        let g = andᶠ (formula_of table l) (formula_of table r) in
        entry_row (Two And l r) _ at f
        (λ p near. and-cell by-atoms w.lawful (part-for below l ll g (omega arith) p near)
        (part-for below r lr g (omega arith) p near))

    pub since-filled : entry_at table e ≡ Two Since l r
        → Filled e (cols reach v (formula_of table e)) (since_cell (row_of found l) (row_of found r)) found
        left
        → FilledBelow cost frame table reach v (suc e) left
    unfolding since_cell
    since-filled at f =
        let g = since (formula_of table l) (formula_of table r) in
        entry_row (Two Since l r) _ at f (λ p near.
        since-cell by-atoms (row_of found l) (row_of found r) w.lawful p
        (λ k lt. part-for below l ll g (omega arith) k (omega (arith, near, lt)))
        (λ k lt. part-for below r lr g (omega arith) k (omega (arith, near, lt))))

    pub until-filled : height Past (formula_of table e) + height Future (formula_of table e) ≤ max_height
        → entry_at table e ≡ Two Until l r
        → Filled e (cols reach v (formula_of table e))
        (until_cell (row_of found l) (row_of found r) (cols reach v (formula_of table e)) v
        (u + v * height Past (formula_of table r))) found left
        → FilledBelow cost frame table reach v (suc e) left
    until-filled low at f =
        let g = until (formula_of table l) (formula_of table r) in
        let same = formula-unrolls table e ∙ ap (build (formula_of table)) at in
        let low-until = subst (λ c. height Past c + height Future c ≤ max_height) same low in
        let start = u + v * height Past (formula_of table r) in
        entry_row (Two Until l r) _ at f
        (λ p near. subst
        (λ c. CellFor cost frame g p
        (until_cell (row_of found l) (row_of found r) (cols reach v c) v start p))
        (sym same)
        (until-at by-atoms w from (row_of found l) (row_of found r) low-until p near
        (λ k lt. lap-for below l ll g (omega arith) (omega (arith, low-until)) k lt)
        (λ k lt. lap-for below r lr g (omega arith) (omega (arith, low-until)) k lt)))
