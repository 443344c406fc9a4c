-- Two results that meet find's contract coincide, in figures and work slice;
-- what find gives is true, and the least.
use mathlib.Core.Path.{◌≡◌, refl, sym, ap, subst, ◌∙◌}
use mathlib.Core.Logic.{◌↔◌}
use mathlib.Core.List.{List, [], ◌∷◌}
use Prim.Native.Nat.{ℕ, ◌<◌, ◌≤◌}
use native.Mathlib.Omega.{arith}
use lib.ListN.{length}
use Rattle.schedule.specs.Figures.{Figures}
use Rattle.schedule.specs.Tests.{AllPass, FirstFails}
use Rattle.schedule.proofs.Tests.{fails-or-passes}
use Rattle.trees.specs.declared.Node.{Node}
use Rattle.trees.specs.Trees.{Tree}
use Rattle.trees.specs.declared.Verdict.{Verdict}
use Rattle.trees.proofs.Needs.{sign-one}
use Rattle.trees.proofs.Forests.{tree-some}
use Rattle.trees.proofs.Order.{cost-ones, at-cost, least-one}
use Rattle.trees.specs.Means.{Means}
use Rattle.theory.proofs.Sound.{schedule-sound}
use Rattle.asking.specs.Answers.{verdict_with}
use Rattle.asking.specs.inside.Unsized.{unsized}
use Rattle.asking.specs.Questions.{Question, word_in, frame_in, formula_in, claim_in, work_tests}
use Rattle.schedule.specs.Limits.{max_words}
use Rattle.finding.specs.Told.{Meaning, meant, Told}
use Rattle.finding.specs.Found.{LeastIn, AllLarge, LeastSize, too_large, least, Found}
use Rattle.asking.proofs.Limits.{work-loop}
use Rattle.trees.proofs.Verdicts.{root-sign}
use Rattle.finding.proofs.Working.{worked-either, worked-alike, worked-answer, worked-passed}
use Rattle.finding.proofs.DeterminedTold.{means-one}

-- The least tree that an answer speaks of.
record LeastOf (q : Question) (v : Verdict) (n : ℕ) : Type 0 where
  nodes : List Node
  tree : LeastIn q nodes
  verdict-is : tree.verdict ≡ v
  size_is : length nodes ≡ n

module _ (q : Question) where
  -- the root's rule tells the verdict
  tree-verdict : {v w : Verdict} (ws : List Node) → Tree (frame_in q) (claim_in q v) ws
      → Tree (frame_in q) (claim_in q w) ws → v ≡ w
  tree-verdict [] t s = absurd (omega (arith, tree-some t))
  tree-verdict (x ∷ ws) t s = sign-one (root-sign t ∙ sym (root-sign s))

  pub least-verdict : {ws vs : List Node} (l : LeastIn q ws) (m : LeastIn q vs) → l.verdict ≡ m.verdict
  least-verdict {ws} {vs} l m =
      tree-verdict vs
      (subst (Tree (frame_in q) (claim_in q l.verdict)) (least-one l m) l.valid) m.valid

  -- all trees large, and one that is not
  pub not-large : {ws : List Node} → AllLarge q → LeastIn q ws → length ws ≤ max_words → ⊥
  not-large {ws} all l le = omega (arith, all.large l.verdict ws l.valid, le)

  pub size-one : {r s : Figures} → LeastSize q r → LeastSize q s → r ≡ s
  size-one (too_large a) (too_large b) = refl
  size-one (too_large a) (least l le) = absurd (not-large a l le)
  size-one (least l le) (too_large b) = absurd (not-large b l le)
  size-one (least l le) (least m ge) = λ k. verdict_with (least-verdict l m k) (length (least-one l m k))

  smallest : {r : Figures} → LeastSize q r → (v : Verdict) (n : ℕ) → r ≡ verdict_with v n → LeastOf q v n
  smallest (too_large a) v n e = absurd (omega (arith, ap (λ g. g.number) e))
  smallest (least {ws} l le) v n e = record {
    nodes = ws;
    tree = l;
    verdict-is = sign-one (ap (λ g. g.verdict) e);
    size_is = ap (λ g. g.size) e;
  }

  large-answer : {r : Figures} → LeastSize q r → (r.number ≡ 11) ↔ AllLarge q
  large-answer (too_large a) = (λ _. a, λ _. refl)
  large-answer (least l le) = (λ e. absurd (omega arith), λ a. absurd (not-large a l le))

  -- truth gives the verdict of find where find has one
  agree : 0 < length q.loop → {t r : Figures} → Meaning q t → LeastSize q r → r.number ≡ 0 → t ≡ unsized r
  agree some (meant v m) (too_large a) zero = absurd (omega (arith, zero))
  agree some (meant v m) (least l le) zero =
      ap (λ w. verdict_with w 0)
      (means-one (word_in q) (formula_in q) q.position v l.verdict m
      (schedule-sound q.prefix q.loop some l.valid))

  module _ (work : List ℕ) where
    pub find-one : (left left' : List ℕ) (r s : Figures) → Found q work left r → Found q work left' s
        → (r ≡ s) × (left ≡ left')
    find-one left left' r s a b = worked-alike size-one a b

    -- Asked within the limits, with room to work in: 11 exactly if every valid
    -- tree has more than 4,095 nodes.
    pub large-exactly : AllPass (work_tests q (length work)) → (left : List ℕ) (r : Figures)
        → Found q work left r → (r.number ≡ 11) ↔ AllLarge q
    large-exactly passed left r a = large-answer (worked-answer passed a)

    module _ (left : List ℕ) (v : Verdict) (n : ℕ) (a : Found q work left (verdict_with v n)) where
      passed : AllPass (work_tests q (length work))
      passed = worked-passed refl a

      found-smallest : LeastOf q v n
      found-smallest = smallest (worked-answer passed a) v n refl

      -- The verdict found is the meaning's over the endless word.
      pub found-true : Means (word_in q) (claim_in q v)
      found-true =
          subst (λ w. Means (word_in q) (claim_in q w)) found-smallest.verdict-is
          (schedule-sound q.prefix q.loop (work-loop q (length work) passed)
          found-smallest.tree.valid)

      -- No valid tree there, of whatever verdict, has fewer nodes than the size found.
      pub found-least : (s : Verdict) (ws : List Node) → Tree (frame_in q) (claim_in q s) ws → n ≤ length ws
      found-least s ws t =
          let small = found-smallest in
          omega (
            arith,
            at-cost (small.tree.least s ws t),
            cost-ones ws,
            cost-ones small.nodes,
            small.size_is,
          )

    pub truth-find-agree : (left left' : List ℕ) (t r : Figures) → Told q work left t → Found q work left' r
        → r.number ≡ 0 → t ≡ unsized r
    truth-find-agree left left' t r a b zero =
        let none = worked-passed zero b in
        agree (work-loop q (length work) none) (worked-answer none a) (worked-answer none b) zero

    -- and where one is refused with 1 to 8, so is the other
    pub truth-find-refused : (left left' : List ℕ) (t r : Figures) → Told q work left t → Found q work left' r
        → {s : Figures} → FirstFails (work_tests q (length work)) s → t ≡ r
    truth-find-refused left left' t r a b fails =
        worked-either (λ same _. same) (λ passed _ _ _. absurd (fails-or-passes fails passed)) a b
