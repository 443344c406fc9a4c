-- What truth and find answer from the cell that is looked up.
use mathlib.Core.Path.{◌≡◌, sym, ap, subst, ◌∙◌}
use mathlib.Core.List.{List}
use Prim.Native.Nat.{ℕ, ◌<◌, ◌≤◌}
use native.Mathlib.Omega.{arith}
use borrow.Author.Tests.{ltb-true, ltb-false}
use lib.Dec.{ltb}
use lib.ListN.{length}
use Rattle.std.specs.Prelude.{Result, Ok, Err}
use Rattle.schedule.specs.Figures.{Figures}
use Rattle.rules.proofs.Entries.{cond-elim}
use Rattle.trees.specs.declared.Node.{Node}
use Rattle.trees.specs.Least.{ones}
use Rattle.trees.proofs.Order.{cost-ones}
use Rattle.theory.specs.inside.Frames.{Lawful}
use Rattle.theory.specs.inside.Costs.{cut_off}
use Rattle.theory.specs.inside.Prices.{Price}
use Rattle.theory.proofs.Sound.{schedule-lawful}
use Rattle.theory.proofs.Prices.{price-verdict, price-least, price-large}
use Rattle.theory.proofs.LeastExists.{schedule-least-exists}
use Rattle.roots.specs.inside.Rooted.{cell_price}
use Rattle.asking.specs.Answers.{verdict_with, figures_of}
use Rattle.asking.specs.Answers as figures
use Rattle.asking.specs.Questions.{Question, frame_in, formula_in, claim_in}
use Rattle.schedule.specs.Limits.{max_words}
use Rattle.finding.specs.Worked.{Worked, refused, answered}
use Rattle.finding.specs.Told.{Meaning, meant, Told}
use Rattle.finding.specs.Found.{LeastIn, AllLarge, LeastSize, too_large, least, Found}
use Rattle.looking.specs.inside.Looked.{verdict_in, CellIn, Looked, refuses, sees}
use Rattle.finding.specs.inside.Telling.{told_by, found_by}
use Rattle.asking.specs.declared.Refusal.{Refusal}
use Rattle.asking.specs.declared.Judged.{Judged}
use Rattle.asking.proofs.Limits.{work-loop}
use Rattle.looking.proofs.Looking.{cell-means, cell-price}

module _ (q : Question) {cell : ℕ} (c : CellIn q cell) where
  cell-told : Meaning q (told_by cell)
  unfolding told_by
  cell-told = meant (verdict_in cell) (cell-means q c)

  module _ (some : 0 < length q.loop) where
    law : Lawful (frame_in q)
    law = schedule-lawful q.prefix q.loop some

    -- a size above 4,095 is the cut: then every tree is large
    pub cell-large : max_words < cell_price cell → AllLarge q
    cell-large over =
        let cut-size : cell_price cell ≡ cut_off = omega (arith, over, (cell-price q c).top) in
        let large = subst (Price ones (frame_in q) (claim_in q (verdict_in cell))) cut-size
        (cell-price q c) in
        record { large = λ s vs t. omega (arith, price-large law large (cell-means q c) t, cost-ones vs) }

    -- else it is the least tree's, and so is the verdict
    module _ (within : cell_price cell ≤ max_words) {ws : List Node} (l : LeastIn q ws) where
      below : cell_price cell < cut_off
      below = omega (arith, within)

      pub cell-long : length ws ≡ cell_price cell
      cell-long = sym (cost-ones ws) ∙ price-least law (cell-price q c) below l

      pub cell-verdict : l.verdict ≡ verdict_in cell
      cell-verdict = price-verdict law (cell-price q c) below l

    cell-found : LeastSize q (found_by cell)
    unfolding found_by
    cell-found =
        cond-elim (LeastSize q) (ltb max_words (cell_price cell))
        (λ over. too_large (cell-large (ltb-true max_words (cell_price cell) over)))
        (λ within.
        let few = ltb-false max_words (cell_price cell) within in
        let l = (schedule-least-exists ones q.prefix q.loop some (formula_in q) q.position).1 in
        let verdict = cell-verdict few l in
        let size = cell-long few l in
        subst (LeastSize q) (λ k. verdict_with (verdict k) (size k)) (least l (omega (arith, size, few))))

-- and the answers from there
module _ {q : Question} {found left : List ℕ} {look : Result ℕ Refusal}
    (looked : Looked q found left look) where
  pub looked-refused : {Answered : Figures → Type 0} {outcome : Result Judged Refusal} {x : Refusal}
      → look ≡ Err x → (y : Refusal) × (outcome ≡ Err y) × (y ≡ x)
      → Worked q found left Answered (figures_of outcome)
  looked-refused {Answered} {x = x} is (y, errs, same) =
      subst (λ o. Worked q found left Answered (figures_of o)) (sym (errs ∙ ap Err same))
      (by (subst (Looked q found left) is looked))
    where
      by : Looked q found left (Err x) → Worked q found left Answered (figures.refused x)
      by (refuses f l) = refused f l

  pub looked-told : {cell : ℕ} {r : Figures} → look ≡ Ok cell → r ≡ told_by cell → Told q found left r
  looked-told {cell} {r} is same = by (subst (Looked q found left) is looked)
    where
      by : Looked q found left (Ok cell) → Told q found left r
      by (sees ps l c) = answered ps l (subst (Meaning q) (sym same) (cell-told q c))

  pub looked-found : {cell : ℕ} {r : Figures} → look ≡ Ok cell → r ≡ found_by cell → Found q found left r
  looked-found {cell} {r} is same = by (subst (Looked q found left) is looked)
    where
      by : Looked q found left (Ok cell) → Found q found left r
      by (sees ps l c) =
          answered ps l (subst (LeastSize q) (sym same) (cell-found q c (work-loop q (length found) ps)))
