-- The cell of a question, looked up, and what is read from it.
use mathlib.Core.Path.{◌≡◌, refl, sym, ap, subst, ◌∙◌}
use mathlib.Core.Bool.{Bool, true, false, cond, false≢true}
use mathlib.Core.List.{List}
use Prim.Native.Nat.{ℕ}
use lib.ListN.{length}
use Rattle.std.specs.Prelude.{Result, Ok, Err, ⊤}
use Rattle.schedule.specs.Tests.{AllPass}
use Rattle.rules.proofs.Entries.{cond-elim}
use Rattle.trees.specs.Least.{ones}
use Rattle.trees.specs.declared.Verdict.TheVariants.{Holds, Violated}
use Rattle.trees.specs.Means.{Means}
use Rattle.theory.specs.inside.Prices.{Price}
use Rattle.cells.specs.inside.Cells.{holds_in, pro_of, con_of}
use Rattle.schedule.specs.Buffers.{cleared}
use Rattle.search.proofs.Clearing.{fills-cleared}
use Rattle.scans.specs.inside.Scans.{price_in}
use Rattle.roots.specs.inside.Rooted.{cell_price}
use Rattle.asking.specs.Questions.{Question, word_in, frame_in, claim_in, work_tests}
use Rattle.asking.specs.declared.Refusal.{Refusal}
use Rattle.asking.specs.inside.Gates.{Gates}
use Rattle.asking.proofs.Accepting.{gates-first}
use Rattle.looking.specs.inside.Looked.{verdict_in, CellIn, CellRead, Looked, refuses, sees}

module _ (q : Question) {cell : ℕ} (c : CellIn q cell) where
  pub cell-means : Means (word_in q) (claim_in q (verdict_in cell))
  unfolding verdict_in
  cell-means =
      cond-elim (λ v. Means (word_in q) (claim_in q v)) (holds_in cell) (λ e. c.truth.0 e)
      (λ e m. false≢true (sym e ∙ c.truth.1 m))

  pub cell-price : Price ones (frame_in q) (claim_in q (verdict_in cell)) (cell_price cell)
  unfolding verdict_in cell_price price_in
  cell-price = by-verdict (holds_in cell)
    where
      by-verdict : (b : Bool)
          → Price ones (frame_in q) (claim_in q (cond b Holds Violated)) (cond b (pro_of cell) (con_of cell))
      by-verdict true = c.pro
      by-verdict false = c.con

-- What is looked up, from the filling and the clearing after it.
pub looked-cell : (q : Question) (found left : List ℕ) {filled : List ℕ} {cell : ℕ}
    → AllPass (work_tests q (length found)) → CellRead q found filled cell → left ≡ cleared filled
    → Looked q found left (Ok cell)
looked-cell q found left passed reads clears =
    sees passed (clears ∙ fills-cleared reads.fills) reads.cell-for

-- A question that is refused, from the gate that it was put to.
pub look-refused : (q : Question) (found : List ℕ) {gate : Result ⊤ Refusal} {look : Result ℕ Refusal}
    {x : Refusal} → gate ≡ Err x → Gates (work_tests q (length found)) gate
    → (y : Refusal) × (look ≡ Err y) × (y ≡ x)
    → Looked q found found look
look-refused q found {gate} is g (y, answers, same) =
    subst (Looked q found found) (sym answers) (refuses (gates-first (is ∙ sym (ap Err same)) g) refl)
