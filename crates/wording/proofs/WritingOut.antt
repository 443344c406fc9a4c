-- What is answered from a filled slice, and what stands in the tree buffer then: 11, 12,
-- or the words of the least tree.
use mathlib.Core.Path.{◌≡◌, refl, sym, ap, subst, ◌∙◌}
use mathlib.Core.List.{List}
use Prim.Native.Nat.{ℕ, ◌<◌, ◌≤◌}
use native.Mathlib.Omega.{arith}
use lib.ListN.{length, length-map}
use Rattle.std.specs.Prelude.{Result, Err, ⊤}
use Rattle.schedule.specs.Figures.{Figures, refusal}
use Rattle.schedule.specs.Tests.{AllPass}
use Rattle.trees.specs.Nodes.{node_of}
use Rattle.trees.specs.Least.{ones}
use Rattle.trees.specs.declared.Verdict.{Verdict}
use Rattle.theory.proofs.LeastExists.{schedule-least-exists}
use Rattle.schedule.specs.Buffers.{cleared}
use Rattle.cells.proofs.Meant.{cell-one}
use Rattle.search.proofs.Clearing.{fills-cleared}
use Rattle.roots.specs.inside.Rooted.{cell_price}
use Rattle.writing.specs.inside.Writes.{Writable, Room, Writes}
use Rattle.asking.specs.Answers.{verdict_with, figures_of}
use Rattle.asking.specs.declared.Judged.{Judged}
use Rattle.asking.specs.declared.Refusal.{Refusal}
use Rattle.asking.specs.inside.Gates.{Gates}
use Rattle.asking.proofs.Accepting.{gates-first}
use Rattle.asking.specs.Questions.{Question, frame_in, formula_in, work_tests}
use Rattle.schedule.specs.Limits.{max_words}
use Rattle.finding.specs.Worked.{refused, answered}
use Rattle.wording.specs.Wrote.{Written, unwritten, too_short, written, Wrote}
use Rattle.looking.specs.inside.Looked.{verdict_in, FilledIn, CellIn, CellRead}
use Rattle.wording.specs.inside.WritesOut.{WritesOut}
use Rattle.looking.proofs.Limits.{work-limited}
use Rattle.finding.proofs.Telling.{cell-large, cell-long, cell-verdict}

module _ (q : Question) {cell : ℕ} (c : CellIn q cell) (some : 0 < length q.loop) where
  pub out-large : (tree : List ℕ) → max_words < cell_price cell → WritesOut q tree tree (refusal 11)
  out-large tree over = record { answer = unwritten (cell-large q c some over); untouched = λ _. refl }

  module _ (within : cell_price cell ≤ max_words) where
    pub out-short : (tree : List ℕ) → length tree < cell_price cell → WritesOut q tree tree (refusal 12)
    out-short tree short =
        let l = (schedule-least-exists ones q.prefix q.loop some (formula_in q) q.position).1 in
        let size = cell-long q c some within l in
        record {
          answer = too_short l (omega (arith, size, within)) (omega (arith, size, short));
          untouched = λ _. refl;
        }

    -- a buffer as long as the size has room for the least tree
    pub out-room : (len : ℕ) → cell_price cell ≤ len → Room ones (frame_in q) (formula_in q) q.position 0 len
    out-room len fits = record { room = λ ws l. omega (arith, cell-long q c some within l, fits) }

    pub out_written : {tree left : List ℕ} {next : ℕ}
        → Writes ones (frame_in q) (formula_in q) q.position 0 tree left next → (n : ℕ) (v : Verdict)
        → n ≡ cell_price cell → v ≡ verdict_in cell → WritesOut q tree left (verdict_with v n)
    out_written {tree} {left} w n v en ev =
        let size : length w.words ≡ n
        = sym (length-map w.words node_of) ∙ cell-long q c some within w.least ∙ sym en in
        let verdict : w.least.verdict ≡ v = cell-verdict q c some within w.least ∙ sym ev in
        record {
          answer = subst (Written q tree left) (λ k. verdict_with (verdict k) (size k))
              (written w.words w.least (omega (arith, size, en, within))
              (omega (arith, w.ends, w.inside)) w.leaves);
          untouched = λ n. absurd (n refl);
        }

-- what the writer relies on
pub out-writable : (q : Question) {cell : ℕ} (work : List ℕ) → AllPass (work_tests q (length work))
    → FilledIn q work → CellIn q cell → cell_price cell ≤ max_words
    → Writable ones q.prefix q.loop q.table q.entry q.position work
out-writable q work passed filled c within =
    let same = cell-one (filled.rows q.entry q.position (omega arith) (omega arith)) c in
    record {
      reach = _;
      limited = work-limited q (length work) passed;
      filled = filled;
      near = omega arith;
      small = omega (arith, ap cell_price same, within);
    }

-- the whole call, from the filling, what is written out of it and the clearing after it
pub wrote-out : (q : Question) (found left : List ℕ) {filled : List ℕ} {cell : ℕ}
    {tree tree_left : List ℕ} {r : Figures} → AllPass (work_tests q (length found))
    → CellRead q found filled cell → left ≡ cleared filled → WritesOut q tree tree_left r
    → Wrote q found left tree tree_left r
wrote-out q found left passed reads clears out =
    record {
      answer = answered passed (clears ∙ fills-cleared reads.fills) out.answer;
      untouched = out.untouched;
    }

-- A question that is refused, from the gate that it was put to.
pub wrote-refused : (q : Question) (found tree : List ℕ) {gate : Result ⊤ Refusal}
    {outcome : Result Judged Refusal} {x : Refusal} → gate ≡ Err x → Gates (work_tests q (length found)) gate
    → (y : Refusal) × (outcome ≡ Err y) × (y ≡ x) → Wrote q found found tree tree (figures_of outcome)
wrote-refused q found tree is g (y, errs, same) =
    subst (λ o. Wrote q found found tree tree (figures_of o)) (sym (errs ∙ ap Err same))
    (record { answer = refused (gates-first is g) refl; untouched = λ _. refl })
