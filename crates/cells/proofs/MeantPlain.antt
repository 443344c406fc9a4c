-- From numbers to formulas for atom, not, or and and: if the cells of the parts say what they
-- mean, so do those made of them.
use Prim.Native.Nat.{ℕ, ◌+◌, ◌/◌, ◌%◌, ◌^◌, min}
use mathlib.Core.Path.{◌≡◌, subst}
use mathlib.Core.Bool.{Bool}
use native.Mathlib.Omega.{arith}
use Rattle.rules.specs.Formula.{Formula, atom, notᶠ, orᶠ, andᶠ}
use Rattle.rules.specs.Meaning.{HasAtom}
use Rattle.trees.specs.Rules.{Frame, claim}
use Rattle.trees.specs.declared.Verdict.TheVariants.{Holds, Violated}
use Rattle.theory.specs.inside.Costs.{cut}
use Rattle.theory.specs.inside.Frames.{Lawful}
use Rattle.theory.specs.inside.Prices.{Price}
use Rattle.theory.specs.inside.Level.{ByAtoms}
use Rattle.trees.specs.Least.{Cost}
use Rattle.theory.proofs.Says.{Says, right, wrong, says-not, says-or, says-and, says-equal}
use Rattle.theory.proofs.CostsPlain.{atom-holds-cost, atom-violated-cost, not-holds-cost, not-violated-cost}
use Rattle.theory.proofs.CostsPlain.{or-holds-cost, or-violated-cost, and-holds-cost, and-violated-cost}
use Rattle.cells.specs.inside.Cells.{pro_of, con_of, cell_of, atom_state, not_state, or_state, and_state}
use Rattle.cells.specs.inside.Meant.{CellFor}
use Rattle.cells.proofs.Meant.{cell-says, cell-held-for, cell-broken-for, cell-for}

cut-either : {k l : ℕ} → k ≡ 1 → l ≡ 1 → (a b : ℕ)
    → min (cut (k + a)) (cut (l + b)) ≡ cut (min (1 + a) (1 + b))
cut-either d e a b = omega (arith, d, e)

cut-pair : {k : ℕ} → k ≡ 1 → (a b : ℕ) → cut (k + (a + b)) ≡ cut (1 + a + b)
cut-pair e a b = omega (arith, e)

cut-one-more : {k : ℕ} → k ≡ 1 → (a : ℕ) → cut (k + a) ≡ cut (1 + a)
cut-one-more e a = omega (arith, e)

module _ {cost : Cost} {weight : ℕ → ℕ} (by-atoms : ByAtoms cost weight) {frame : Frame} (law : Lawful frame)
    {i : ℕ} where
  -- trees of one node, if any, with a weight below the cut
  module _ (x : ℕ) (is : weight x ≡ 1) where
    atom-prices : {b : Bool} → Says (HasAtom (frame.letter i) x) b
        → CellFor cost frame (atom x) i (cell_of (record { holds = b; pro = 1; con = 1 }))
    atom-prices (right h) =
        cell-held-for law _ _ h
        (subst (Price cost frame (claim (atom x) i Holds)) (omega (arith, by-atoms.held x, is))
        (atom-holds-cost h))
    atom-prices (wrong m) =
        cell-broken-for law _ _ m
        (subst (Price cost frame (claim (atom x) i Violated)) (omega (arith, by-atoms.violated x, is))
        (atom-violated-cost m))

    pub atom-cell : CellFor cost frame (atom x) i (cell_of (atom_state (frame.letter i / 2 ^ x % 2)))
    unfolding atom_state
    atom-cell = atom-prices (says-equal _ 1)

  module _ {f : Formula} {a : ℕ} (ca : CellFor cost frame f i a) where
    pub not-cell : CellFor cost frame (notᶠ f) i (cell_of (not_state a))
    unfolding not_state
    not-cell =
        cell-for law _ _ _ (says-not (cell-says ca))
        (subst (Price cost frame (claim (notᶠ f) i Holds))
        (cut-one-more (by-atoms.other 3 (omega arith)) (con_of a)) (not-holds-cost ca.con))
        (subst (Price cost frame (claim (notᶠ f) i Violated))
        (cut-one-more (by-atoms.other 4 (omega arith)) (pro_of a)) (not-violated-cost ca.pro))

    module _ {g : Formula} {b : ℕ} (cb : CellFor cost frame g i b) where
      pub or-cell : CellFor cost frame (orᶠ f g) i (cell_of (or_state a b))
      unfolding or_state
      or-cell =
          cell-for law _ _ _ (says-or (cell-says ca) (cell-says cb))
          (subst (Price cost frame (claim (orᶠ f g) i Holds))
          (cut-either (by-atoms.other 5 (omega arith)) (by-atoms.other 6 (omega arith)) (pro_of a) (pro_of b))
          (or-holds-cost ca.pro cb.pro))
          (subst (Price cost frame (claim (orᶠ f g) i Violated))
          (cut-pair (by-atoms.other 7 (omega arith)) (con_of a) (con_of b))
          (or-violated-cost ca.con cb.con))

      pub and-cell : CellFor cost frame (andᶠ f g) i (cell_of (and_state a b))
      unfolding and_state
      and-cell =
          cell-for law _ _ _ (says-and (cell-says ca) (cell-says cb))
          (subst (Price cost frame (claim (andᶠ f g) i Holds))
          (cut-pair (by-atoms.other 8 (omega arith)) (pro_of a) (pro_of b))
          (and-holds-cost ca.pro cb.pro))
          (subst (Price cost frame (claim (andᶠ f g) i Violated))
          (cut-either (by-atoms.other 9 (omega arith)) (by-atoms.other 10 (omega arith))
          (con_of a) (con_of b))
          (and-violated-cost ca.con cb.con))
