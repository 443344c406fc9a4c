-- Two results that meet write's contract coincide, in figures and both buffers; write agrees with find,
-- and check accepts what it wrote.
use mathlib.Core.Path.{◌≡◌, refl, sym, ap, subst, subst₂, ◌∙◌}
use mathlib.Core.Logic.{◌↔◌, by_cases}
use mathlib.Core.List.{List, map}
use Prim.Native.Nat.{ℕ, ◌<◌, ◌≤◌}
use native.Mathlib.Decide.{ℕ_discrete}
use native.Mathlib.Omega.{arith}
use borrow.Author.Tests.{le-leb}
use lib.ListN.{length, take, drop, length-map}
use lib.Seq.{take-append_seam}
use Rattle.schedule.specs.Figures.{Figures}
use Rattle.schedule.specs.Tests.{none, also}
use Rattle.schedule.proofs.Tests.{passes-both}
use Rattle.trees.specs.Nodes.{node_of}
use Rattle.trees.specs.declared.Node.{Node}
use Rattle.trees.proofs.WordOrder.{words-one}
use Rattle.trees.proofs.Order.{least-one}
use Rattle.asking.specs.Answers.{verdict_with}
use Rattle.asking.specs.inside.Unsized.{unsized}
use Rattle.asking.specs.Questions.{Question, check_tests}
use Rattle.schedule.specs.Limits.{max_words}
use Rattle.checking.specs.Checked.{Checked, judged, valid}
use Rattle.finding.specs.Found.{LeastIn, AllLarge, LeastSize, too_large, least, Found}
use Rattle.wording.specs.Wrote.{Written, unwritten, too_short, written, Wrote}
use Rattle.asking.proofs.Limits.{work-question}
use Rattle.finding.proofs.Working.{worked-either, worked-alike, worked-answer, worked-passed}
use Rattle.finding.proofs.DeterminedFound.{least-verdict, not-large, size-one}
use Rattle.schedule.specs.Buffers.{put}
use Rattle.schedule.proofs.Buffers.{put_front}

-- What an answer of number 0 wrote.
record Wording (q : Question) (tree left : List ℕ) (r : Figures) : Type 0 where
  words : List ℕ
  tree_of : LeastIn q (map node_of words)
  few : length words ≤ max_words
  figures : r ≡ verdict_with tree_of.verdict (length words)
  left_is : left ≡ put 0 words tree

module _ (q : Question) where
  -- a buffer that is too short for the least tree, and one that has its words
  not_short : (tree words : List ℕ) {ws : List Node} → LeastIn q ws → length tree < length ws
      → LeastIn q (map node_of words) → length words ≤ length tree → ⊥
  not_short tree words m lt l room = omega (arith, ap length (least-one l m), length-map words node_of)

  -- all trees large, and words of one that is not
  not_written : (words : List ℕ) → AllLarge q → LeastIn q (map node_of words) → length words ≤ max_words → ⊥
  not_written words all l le = not-large q all l (omega (arith, length-map words node_of))

  module _ {tree left : List ℕ} where
    -- but for 12 the answer is find's
    written-size : {r : Figures} → Written q tree left r → (r.number ≡ 12 → ⊥) → LeastSize q r
    written-size (unwritten a) other = too_large a
    written-size (too_short l le lt) other = absurd (other refl)
    written-size (written words l le room is) other =
        subst (λ n. LeastSize q (verdict_with l.verdict n)) (length-map words node_of)
        (least l (omega (arith, length-map words node_of)))

    large-both : {r s : Figures} → LeastSize q s → Written q tree left r → (s.number ≡ 11) ↔ (r.number ≡ 11)
    large-both (too_large a) (unwritten b) = (λ _. refl, λ _. refl)
    large-both (too_large a) (too_short l le lt) = absurd (not-large q a l le)
    large-both (too_large a) (written words l le room is) = absurd (not_written words a l le)
    large-both (least m ge) (unwritten b) = absurd (not-large q b m ge)
    large-both (least m ge) (too_short l le lt) = (λ e. absurd (omega arith), λ e. absurd (omega arith))
    large-both (least m ge) (written words l le room is) =
        (λ e. absurd (omega arith), λ e. absurd (omega arith))

    written_one : {left' : List ℕ} {r s : Figures} → Written q tree left r → Written q tree left' s → r ≡ s
    written_one (unwritten a) (unwritten b) = refl
    written_one (unwritten a) (too_short m ge lt) = absurd (not-large q a m ge)
    written_one (unwritten a) (written others m ge more at) = absurd (not_written others a m ge)
    written_one (too_short l le lt) (unwritten b) = absurd (not-large q b l le)
    written_one (too_short l le lt) (too_short m ge gt) = refl
    written_one (too_short l le lt) (written others m ge more at) = absurd (not_short tree others l lt m more)
    written_one (written words l le room is) (unwritten b) = absurd (not_written words b l le)
    written_one (written words l le room is) (too_short m ge gt) = absurd (not_short tree words m gt l room)
    written_one (written words l le room is) (written others m ge more at) =
        λ k. verdict_with (least-verdict q l m k) (length (words-one words others (least-one l m) k))

    wording : {r : Figures} → Written q tree left r → r.number ≡ 0 → Wording q tree left r
    wording (unwritten a) zero = absurd (omega (arith, zero))
    wording (too_short l le lt) zero = absurd (omega (arith, zero))
    wording (written words l le room is) zero =
        record { words = words; tree_of = l; few = le; figures = refl; left_is = is }

  wording-one : {tree left left' : List ℕ} {r s : Figures} → Wording q tree left r → Wording q tree left' s
      → left ≡ left'
  wording-one {tree} w x =
      w.left_is
      ∙ ap (λ words. put 0 words tree) (words-one w.words x.words (least-one w.tree_of x.tree_of))
      ∙ sym x.left_is

  wording-front : {tree left : List ℕ} {r : Figures} (w : Wording q tree left r)
      → take r.size left ≡ w.words
  wording-front {tree} {left} w =
      ap (λ f. take f.size left) w.figures
      ∙ ap (take (length w.words)) (w.left_is ∙ put_front w.words tree)
      ∙ take-append_seam w.words (drop (length w.words) tree)

module _ (q : Question) (work tree : List ℕ) where
  wrote-wording : (left tree_left : List ℕ) (r : Figures) → Wrote q work left tree tree_left r → r.number ≡ 0
      → Wording q tree tree_left r
  wrote-wording left tree_left r a zero =
      wording q (worked-answer (worked-passed zero a.answer) a.answer) zero

  pub write-one : (left left' tree_left tree_left' : List ℕ) (r s : Figures)
      → Wrote q work left tree tree_left r
      → Wrote q work left' tree tree_left' s → (r ≡ s) × (left ≡ left') × (tree_left ≡ tree_left')
  write-one left left' tree_left tree_left' r s a b =
      let alike = worked-alike (written_one q) a.answer b.answer in
      let number : s.number ≡ r.number = ap (λ g. g.number) (sym alike.0) in (
        alike.0,
        alike.1,
        by_cases (ℕ_discrete r.number 0)
            (λ zero. wording-one q (wrote-wording left tree_left r a zero)
            (wrote-wording left' tree_left' s b (number ∙ zero)))
            (λ some. a.untouched some ∙ sym (b.untouched (λ zero. some (sym number ∙ zero)))),
      )

  -- But for 12, a buffer that is too short, write gives find's figures; and both give 11 together.
  pub find-write-agree : (left left' tree_left : List ℕ) (r s : Figures) → Found q work left r
      → Wrote q work left' tree tree_left s
      → ((s.number ≡ 12 → ⊥) → r ≡ s) × ((r.number ≡ 11) ↔ (s.number ≡ 11))
  find-write-agree left left' tree_left r s a b = (
    λ other. (worked-alike (λ x y. size-one q x (written-size q y other)) a b.answer).0,
    worked-either (λ same _. let number = ap (λ g. g.number) same in (λ x. sym number ∙ x, λ x. number ∙ x))
        (λ _ _ x y. large-both q x y) a b.answer,
  )

  -- What is written is the least tree, and the size found is the number of its words.
  pub size-written : (left left' tree_left : List ℕ) (r s : Figures) → Found q work left r
      → Wrote q work left' tree tree_left s → s.number ≡ 0
      → (words : List ℕ) × LeastIn q (map node_of words) × (tree_left ≡ put 0 words tree)
      × (r.size ≡ length words)
  size-written left left' tree_left r s a b zero =
      let w = wrote-wording left' tree_left s b zero in
      let same = (find-write-agree left left' tree_left r s a b).0 (λ x. omega (arith, x, zero)) in
      (w.words, w.tree_of, w.left_is, ap (λ g. g.size) (same ∙ w.figures))

  -- The words at the front of the buffer, as many as the size says,
  -- are a tree that check accepts with the verdict given.
  pub written-checked : (left tree_left : List ℕ) (s : Figures) → Wrote q work left tree tree_left s
      → s.number ≡ 0 → Checked q (take s.size tree_left) (unsized s)
  unfolding check_tests
  written-checked left tree_left s b zero =
      let w = wrote-wording left tree_left s b zero in
      let passed = work-question q (length work) (worked-passed zero b.answer) in
      subst₂ (λ words f. Checked q words (unsized f)) (sym (wording-front q w)) (sym w.figures)
      (judged (passes-both passed (also (le-leb (length w.words) max_words w.few) none))
      (valid w.tree_of.verdict w.tree_of.valid))
