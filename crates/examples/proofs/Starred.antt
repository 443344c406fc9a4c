-- The starred measured examples: one test that is computed over the whole list,
-- and one law from the test to what a row promises.
use Prim.Native.Nat.{ℕ, ◌<◌}
use mathlib.Core.Path.{◌≡◌, refl, subst, sym, ◌∙◌}
use mathlib.Core.Bool.{Bool, true, ◌&&◌}
use mathlib.Core.List.{List, [], ◌∷◌}
use borrow.Author.Tests.{ltb-true, eqb-true}
use lib.Dec.{eqb, ltb}
use lib.ListN.{length}
use Rattle.rules.specs.Entries.{entry_of}
use Rattle.rules.specs.Tables.{formula_of}
use Rattle.schedule.proofs.Tests.{and_both}
use Rattle.trees.specs.Least.{ones}
use Rattle.trees.specs.declared.Verdict.{Verdict}
use Rattle.theory.specs.inside.Costs.{cut_off}
use Rattle.theory.specs.inside.Prices.{Price}
use Rattle.theory.proofs.Words.{schedule-repeats}
use Rattle.theory.proofs.Sound.{sound, schedule-lawful}
use Rattle.theory.proofs.LeastExists.{schedule-least-exists}
use Rattle.trees.proofs.Order.{cost-ones}
use Rattle.theory.proofs.Prices.{price-verdict, price-least}
use Rattle.cells.specs.inside.Cells.{holds_in, pro_of, con_of, cell_of, atom_state, atom_cell, not_state}
use Rattle.cells.specs.inside.Cells.{goes_on}
use Rattle.cells.specs.inside.Cells.{stepped, since_state, since_cell, until_state, closed, until_cell}
use Rattle.asking.specs.Questions.{Question, word_in, frame_in, formula_in, claim_in}
use Rattle.examples.specs.Starred.{Row, starred, Kept, Every, nothing, also}
use Rattle.examples.proofs.Computed.{cell_at, cell-computed, price_for, price-of-cell}

-- the size that is computed, and whether there is a loop and that size is the measured one, not cut off
abbrev size_of : Question → Verdict → ℕ
size_of q s =
    price_for s (cell_at (word_in q) (length q.prefix) (length q.loop) (formula_in q) q.position)

abbrev passes : Row → Bool
passes row =
    ltb 0 (length row.asked.loop)
    && (ltb row.size cut_off && eqb (size_of row.asked row.verdict) row.size)

abbrev all_pass : List Row → Bool
all_pass [] = true
all_pass (row ∷ rows) = passes row && all_pass rows

module _ (row : Row) (some : 0 < length row.asked.loop) where
  abbrev Sized : ℕ → Type 0
  Sized n = Price ones (frame_in row.asked) (claim_in row.asked row.verdict) n

  sized-kept : row.size < cut_off → Sized row.size → Kept row
  sized-kept small size =
      let q = row.asked in
      let law = schedule-lawful q.prefix q.loop some in
      let tree = schedule-least-exists ones q.prefix q.loop some (formula_in q) q.position in
      record {
        means = sound law (size.met small).tree;
        nodes = tree.0;
        least = tree.1;
        says = price-verdict law size small tree.1;
        long = sym (cost-ones tree.0) ∙ price-least law size small tree.1;
      }

  computed : Sized (size_of row.asked row.verdict)
  computed =
      let q = row.asked in
      price-of-cell (cell-computed (schedule-repeats q.prefix q.loop some) (formula_in q) q.position)
      row.verdict

passes_kept : (row : Row) → passes row ≡ true → Kept row
passes_kept row e =
    let loops = and_both _ _ e in
    let sizes = and_both _ _ loops.1 in
    let some = ltb-true 0 (length row.asked.loop) loops.0 in
    sized-kept row some (ltb-true row.size cut_off sizes.0)
    (subst (Sized row some) (eqb-true (size_of row.asked row.verdict) row.size sizes.1)
    (computed row some))

all-kept : (rows : List Row) → all_pass rows ≡ true → Every Kept rows
all-kept [] e = nothing
all-kept (row ∷ rows) e =
    let both = and_both (passes row) (all_pass rows) e in
    also (passes_kept row both.0) (all-kept rows both.1)

starred-pass : all_pass starred ≡ true
unfolding formula_of entry_of holds_in pro_of con_of cell_of atom_state atom_cell not_state goes_on
    stepped since_state since_cell until_state closed until_cell
starred-pass = refl

pub starred-kept : Every Kept starred
starred-kept = all-kept starred starred-pass
