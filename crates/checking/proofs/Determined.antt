-- Two results that meet the contract of check coincide; what is accepted is valid, and true.
use mathlib.Core.Path.{◌≡◌, refl, sym, ap, subst, ◌∙◌}
use mathlib.Core.Logic.{◌↔◌}
use mathlib.Core.List.{List, [], ◌∷◌, map}
use Prim.Native.Nat.{ℕ}
use native.Mathlib.Omega.{arith}
use lib.ListN.{get_or}
use Rattle.schedule.specs.Figures.{Figures}
use Rattle.schedule.specs.Tests.{AllPass}
use Rattle.schedule.proofs.Tests.{fails-one, fails-or-passes, passes-front}
use Rattle.trees.specs.Nodes.{node_of}
use Rattle.trees.specs.declared.Node.{Node}
use Rattle.trees.specs.Rules.{Frame, Claim}
use Rattle.trees.specs.Trees.{Tree, grown}
use Rattle.trees.specs.Place.{Breaks}
use Rattle.trees.specs.Verdicts.{proven_by, claimed_by}
use Rattle.trees.specs.declared.Verdict.{Verdict}
use Rattle.trees.proofs.Needs.{rule-proves, sign-one}
use Rattle.trees.proofs.Forests.{tree-alone, tree-some}
use Rattle.trees.proofs.Places.{breaks-one, forest-or-breaks}
use Rattle.trees.specs.Means.{Means}
use Rattle.theory.proofs.Sound.{schedule-sound}
use Rattle.asking.specs.Answers.{broken_at, verdict_with}
use Rattle.asking.specs.Questions.{Question, question_tests, word_in, frame_in, claim_in, check_tests}
use Rattle.checking.specs.Checked.{Judgement, valid, broken, Checked, refused, judged}
use Rattle.asking.proofs.Limits.{question-loop}
use Rattle.asking.proofs.Numbers.{check-some}

root-proves : {frame : Frame} {c : Claim} {x : Node} {ws : List Node} → Tree frame c (x ∷ ws)
    → proven_by x.rule ≡ c.verdict
root-proves (grown r fs) = rule-proves r

module _ (q : Question) (words : List ℕ) where
  -- a valid tree has the verdict that its root's rule claims
  claimed-tree : {v : Verdict} → Tree (frame_in q) (claim_in q v) (map node_of words)
      → claimed_by (get_or words 0 0) ≡ v
  claimed-tree {v} t = by words t
    where
      by : (ws : List ℕ) → Tree (frame_in q) (claim_in q v) (map node_of ws) → claimed_by (get_or ws 0 0) ≡ v
      by [] t = absurd (omega (arith, tree-some t))
      by (w ∷ ws) t = root-proves t

  -- words are not a valid tree and broken as well
  not-both : {v : Verdict} {p : ℕ} → Tree (frame_in q) (claim_in q v) (map node_of words)
      → Breaks (frame_in q) (claim_in q (claimed_by (get_or words 0 0)) ∷ []) (map node_of words) p → ⊥
  not-both {v} {p} t b =
      forest-or-breaks (tree-alone t)
      (subst (λ s. Breaks (frame_in q) (claim_in q s ∷ []) (map node_of words) p) (claimed-tree t) b)

  judgement-one : {r s : Figures} → Judgement q words r → Judgement q words s → r ≡ s
  judgement-one (valid v t) (valid w u) = let same : v ≡ w = sym (claimed-tree t) ∙ claimed-tree u in cc
  judgement-one (valid v t) (broken p b) = absurd (not-both t b)
  judgement-one (broken p b) (valid v t) = absurd (not-both t b)
  judgement-one (broken p b) (broken o d) = ap broken_at (breaks-one b d)

  judgement-valid : {v : Verdict} {r : Figures} → Judgement q words r → r ≡ verdict_with v 0
      → Tree (frame_in q) (claim_in q v) (map node_of words)
  judgement-valid {v} (valid w t) e =
      subst (λ s. Tree (frame_in q) (claim_in q s) (map node_of words))
      (sign-one {a = w} {b = v} (ap (λ g. g.verdict) e)) t
  judgement-valid (broken p b) e = absurd (omega (arith, ap (λ g. g.number) e))

  pub check-one : (r s : Figures) → Checked q words r → Checked q words s → r ≡ s
  check-one r s (refused f) (refused g) = fails-one f g
  check-one r s (refused f) (judged ps j) = absurd (fails-or-passes f ps)
  check-one r s (judged ps j) (refused g) = absurd (fails-or-passes g ps)
  check-one r s (judged ps j) (judged qs h) = judgement-one j h

  -- Asked within the limits, words are answered with a verdict exactly if they
  -- are a valid tree of that verdict.
  pub accepted-valid : AllPass (check_tests q words) → (v : Verdict)
      → Checked q words (verdict_with v 0) ↔ Tree (frame_in q) (claim_in q v) (map node_of words)
  accepted-valid passed v = (accepted, λ t. judged passed (valid v t))
    where
      accepted : Checked q words (verdict_with v 0) → Tree (frame_in q) (claim_in q v) (map node_of words)
      accepted (refused f) = absurd (fails-or-passes f passed)
      accepted (judged ps j) = judgement-valid j refl

  -- A tree that is accepted tells the truth: its verdict is the meaning's over the endless word.
  pub accepted-true : (v : Verdict) → Checked q words (verdict_with v 0) → Means (word_in q) (claim_in q v)
  unfolding check_tests
  accepted-true v (refused f) = absurd (check-some q words f refl)
  accepted-true v (judged ps j) =
      schedule-sound q.prefix q.loop (question-loop q (passes-front _ (question_tests q) ps))
      (judgement-valid {v = v} j refl)
