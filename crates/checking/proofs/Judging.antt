-- What a walk from the root says of the words: a valid tree, or where they break off.
use mathlib.Core.Path.{◌≡◌, sym, ap, subst, ◌∙◌}
use mathlib.Core.List.{List, [], ◌∷◌, map}
use Prim.Native.Nat.{ℕ, ◌+◌, ◌<◌, ◌≤◌}
use native.Mathlib.Nat.{sub-zero, add-zero}
use native.Mathlib.Omega.{arith}
use borrow.Author.Tests.{le-leb, lt-leb}
use lib.ListN.{length, get_or, take, length-map, take-append-drop}
use lib.Seq.{take_all, drop-cons, length-take-le}
use Rattle.std.specs.Prelude.{Result, Ok, Err, ⊤}
use Rattle.schedule.specs.Tests.{AllPass, none, also, here}
use Rattle.schedule.specs.Figures.{Figures, refusal}
use Rattle.schedule.proofs.Tests.{fails-front, fails-behind, passes-both}
use Rattle.trees.specs.Nodes.{node_of}
use Rattle.trees.specs.declared.Node.{Node}
use Rattle.trees.specs.Trees.{Tree}
use Rattle.trees.specs.Place.{Breaks, missing, leftover}
use Rattle.trees.specs.Verdicts.{claimed_by}
use Rattle.walks.specs.inside.Walks.{Walks}
use Rattle.trees.specs.declared.Verdict.{Verdict}
use Rattle.walks.specs.declared.Broken.{Broken}
use Rattle.trees.proofs.Places.{breaks-past}
use Rattle.asking.specs.Answers.{broken_at, verdict_with, figures_of}
use Rattle.asking.specs.declared.Judged.{Judged}
use Rattle.asking.specs.declared.Refusal.{Refusal}
use Rattle.asking.specs.inside.Gates.{Gates}
use Rattle.asking.proofs.Accepting.{gates-first}
use Rattle.asking.specs.Questions.{Question, question_tests, frame_in, claim_in, check_tests}
use Rattle.schedule.specs.Limits.{max_words}
use Rattle.checking.specs.Checked.{Judgement, valid, broken, Checked, refused, judged}

module _ (q : Question) (words : List ℕ) (passed : AllPass (question_tests q)) where
  -- 10, past the refusals that come before
  pub judged-long : max_words < length words → Checked q words (refusal 10)
  unfolding check_tests
  judged-long lt = refused (fails-behind passed (here (lt-leb (length words) max_words lt)))

  judged-words : length words ≤ max_words → {r : Figures} → Judgement q words r → Checked q words r
  unfolding check_tests
  judged-words le j = judged (passes-both passed (also (le-leb (length words) max_words le) none)) j

  module _ (few : length words ≤ max_words) where
    pub judged-none : length words ≡ 0 → Checked q words (broken_at 0)
    judged-none e = judged-words few (empty words e)
      where
        empty : (ws : List ℕ) → length ws ≡ 0 → Judgement q ws (broken_at 0)
        empty [] e = broken 0 missing
        empty (w ∷ ws) e = absurd (omega arith)

    module _ (v : Verdict) (root : v ≡ claimed_by (get_or words 0 0)) where
      abbrev nodes : List Node
      nodes = map node_of words

      breaking : (p : ℕ) → Breaks (frame_in q) (claim_in q v ∷ []) nodes p → Checked q words (broken_at p)
      breaking p b =
          judged-words few (broken p (subst (λ s. Breaks (frame_in q) (claim_in q s ∷ []) nodes p) root b))

      pub judged-bad : (b : Broken) → Walks (frame_in q) (claim_in q v) nodes 0 (Err b)
          → Checked q words (broken_at b.place)
      judged-bad b w = breaking b.place
          (subst (Breaks (frame_in q) (claim_in q v ∷ []) nodes) (sub-zero b.place) (w.2 []))

      pub judged-over : (k : ℕ) → Walks (frame_in q) (claim_in q v) nodes 0 (Ok k) → (k ≡ length words → ⊥)
          → Checked q words (broken_at k)
      judged-over k w over =
          let more : k < length nodes = omega (arith, length-map words node_of, w.1, over) in
          let rest = subst (λ ws. Breaks (frame_in q) [] ws 0)
          (sym (drop-cons nodes k (node_of 0) more)) leftover in
          let whole = subst (λ ws. Breaks (frame_in q) (claim_in q v ∷ []) ws (length (take k nodes) + 0))
          (take-append-drop k nodes) (breaks-past w.2 rest) in
          breaking k
          (subst (Breaks (frame_in q) (claim_in q v ∷ []) nodes)
          (add-zero (length (take k nodes)) ∙ length-take-le k nodes w.1) whole)

      pub judged-tree : (k : ℕ) → Walks (frame_in q) (claim_in q v) nodes 0 (Ok k) → length words ≤ k
          → Checked q words (verdict_with v 0)
      judged-tree k w all =
          judged-words few
          (valid v
          (subst (Tree (frame_in q) (claim_in q v))
          (take_all k nodes (omega (arith, all, length-map words node_of))) w.2))

-- A question that is refused, from the gate that it was put to.
pub checked-refused : (q : Question) (words : List ℕ) {gate : Result ⊤ Refusal}
    {outcome : Result Judged Refusal} {x : Refusal} → gate ≡ Err x → Gates (question_tests q) gate
    → (y : Refusal) × (outcome ≡ Err y) × (y ≡ x)
    → Checked q words (figures_of outcome)
unfolding check_tests
checked-refused q words is g (y, answers, same) =
    subst (λ o. Checked q words (figures_of o)) (sym (answers ∙ ap Err same))
    (refused (fails-front _ (gates-first is g)))
