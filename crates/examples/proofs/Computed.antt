-- The cell of a formula at a position, computed from the formula alone, says what it means.
use Prim.Native.Nat.{ℕ, max}
use mathlib.Core.Path.{refl}
use native.Mathlib.Omega.{arith}
use Rattle.rules.specs.Formula.{Formula, atom, notᶠ, orᶠ, andᶠ, since, until}
use Rattle.trees.specs.Rules.{Frame, claim}
use Rattle.trees.specs.declared.Verdict.{Verdict}
use Rattle.trees.specs.declared.Verdict.TheVariants.{Holds, Violated}
use Rattle.theory.specs.inside.Words.{Repeats}
use Rattle.theory.specs.inside.Threshold.{threshold}
use Rattle.theory.specs.inside.Repeating.{repeat_frame}
use Rattle.theory.specs.inside.Prices.{Price}
use Rattle.trees.specs.Least.{Cost, ones}
use Rattle.theory.proofs.Horizon.{ones-atoms}
use Rattle.theory.proofs.Windowed.{repeats-windowed}
use Rattle.theory.proofs.Sound.{repeats-lawful}
use Rattle.cells.specs.inside.Cells.{pro_of, con_of, cell_of, atom_cell, not_state, or_state, and_state}
use Rattle.cells.specs.inside.Cells.{since_cell}
use Rattle.cells.specs.inside.Cells.{closed, until_cell}
use Rattle.cells.specs.inside.Meant.{CellFor}
use Rattle.cells.proofs.Meant.{since-cell, until-cell}
use Rattle.cells.proofs.MeantPlain.{atom-cell, not-cell, or-cell, and-cell}

-- In a word that repeats from u on with the lap v. An until looks no further than its window, so that even
-- far positions are soon computed.
abbrev pub cell_at : (ℕ → ℕ) → ℕ → ℕ → Formula → ℕ → ℕ
cell_at word u v (atom a) i = atom_cell word a i
cell_at word u v (notᶠ f) i = cell_of (not_state (cell_at word u v f i))
cell_at word u v (orᶠ f g) i = cell_of (or_state (cell_at word u v f i) (cell_at word u v g i))
cell_at word u v (andᶠ f g) i = cell_of (and_state (cell_at word u v f i) (cell_at word u v g i))
cell_at word u v (since f g) i = since_cell (cell_at word u v f) (cell_at word u v g) i
cell_at word u v (until f g) i =
    until_cell (cell_at word u v f) (cell_at word u v g) (max i (threshold u v g)) v (threshold u v g) i

module _ {word : ℕ → ℕ} {u v : ℕ} (w : Repeats word u v) where
  pub cell-computed : (f : Formula) (i : ℕ) → CellFor ones (repeat_frame word u v) f i (cell_at word u v f i)
  unfolding atom_cell since_cell until_cell closed
  cell-computed (atom a) i = atom-cell ones-atoms (repeats-lawful w) a refl
  cell-computed (notᶠ f) i = not-cell ones-atoms (repeats-lawful w) (cell-computed f i)
  cell-computed (orᶠ f g) i = or-cell ones-atoms (repeats-lawful w) (cell-computed f i) (cell-computed g i)
  cell-computed (andᶠ f g) i = and-cell ones-atoms (repeats-lawful w) (cell-computed f i) (cell-computed g i)
  cell-computed (since f g) i =
      since-cell ones-atoms (cell_at word u v f) (cell_at word u v g) (repeats-lawful w) i
      (λ k lt. cell-computed f k) (λ k lt. cell-computed g k)
  cell-computed (until f g) i =
      until-cell ones-atoms (repeats-windowed 0 w) (cell_at word u v f) (cell_at word u v g)
      (λ k lt. cell-computed f k) (λ k lt. cell-computed g k) i _ (omega arith) refl _ refl

-- the size that a cell has for a verdict
abbrev pub price_for : Verdict → ℕ → ℕ
price_for Holds c = pro_of c
price_for Violated c = con_of c

pub price-of-cell : {cost : Cost} {frame : Frame} {f : Formula} {i c : ℕ} → CellFor cost frame f i c
    → (s : Verdict) → Price cost frame (claim f i s) (price_for s c)
price-of-cell c Holds = c.pro
price-of-cell c Violated = c.con
