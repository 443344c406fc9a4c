-- Every formula at every position has a valid tree with the verdict of the meaning.
use Prim.Native.Nat.{ℕ, ◌+◌, ◌-◌, ◌<◌}
use mathlib.Core.Path.{refl, subst}
use mathlib.Core.Logic.Dec
use mathlib.Core.Logic.{inl, inr, ⊎_elim, by_cases}
use mathlib.Core.List.{List, [], ◌∷◌, ◌++◌}
use native.Mathlib.Omega.{arith}
use lib.ListN.{length}
use Rattle.schedule.specs.Letters.{letter_at}
use Rattle.rules.specs.Formula.{Formula, atom, notᶠ, orᶠ, andᶠ, since, until, height}
use Rattle.rules.specs.Meaning.{Meant, SinceMeant, UntilMeant}
use Rattle.rules.specs.declared.Side.TheVariants.{Past}
use Rattle.trees.specs.declared.Node.{Node}
use Rattle.trees.specs.Rules.{Frame, Claim, claim, Rule, rule1, rule2, rule3, rule4, rule5, rule6, rule7}
use Rattle.trees.specs.Rules.{rule8, rule9, rule10, rule11, rule12, rule13, rule14, rule15, rule16}
use Rattle.trees.specs.Trees.{Tree, grown, Forest, none, more}
use Rattle.trees.specs.Frames.{schedule_frame}
use Rattle.trees.specs.declared.Verdict.{Verdict}
use Rattle.trees.specs.declared.Verdict.TheVariants.{Holds, Violated}
use Rattle.theory.specs.inside.Words.{Repeats}
use Rattle.trees.specs.Means.{Means}
use Rattle.theory.proofs.Words.{schedule-repeats}
use Rattle.theory.proofs.Decided.{decided}
use Rattle.theory.proofs.Runs.{Each, nothing, also, run-each}
use Rattle.theory.proofs.Fails.{FailsBack, never_back, cut_back, since-fails, FailsAhead, never_ahead}
use Rattle.theory.proofs.Fails.{cut_ahead, until-fails}

abbrev Grows : Frame → Claim → Type 0
Grows frame c = (ws : List Node) × Tree frame c ws

module _ {frame : Frame} where
  all-grow : {cs : List Claim} → Each (Grows frame) cs → (ws : List Node) × Forest frame cs ws
  all-grow nothing = ([], none)
  all-grow (also t ts) = let fs = all-grow ts in (t.0 ++ fs.0, more t.1 fs.1)

  grow : {c : Claim} {x : Node} {needs : List Claim} → Rule frame c x needs → Each (Grows frame) needs
      → Grows frame c
  grow {x} r ts = let fs = all-grow ts in (x ∷ fs.0, grown r fs.1)

-- since and until, from trees for all that their sides mean anywhere
module _ {frame : Frame} {f g : Formula}
    (left : (k : ℕ) (v : Verdict) → Means frame.letter (claim f k v) → Grows frame (claim f k v))
    (right : (k : ℕ) (v : Verdict) → Means frame.letter (claim g k v) → Grows frame (claim g k v))
    (i : ℕ) where
  since-grows : SinceMeant (Meant frame.letter f) (Meant frame.letter g) i
      → Grows frame (claim (since f g) i Holds)
  since-grows s =
      let n = i - s.place in
      let at = right (i - n) Holds (subst (Meant frame.letter g) (omega arith) s.there) in
      let on = run-each f Holds (i - n + 1) n
      (λ k ge lt. left k Holds (s.between k (omega arith) (omega arith))) in
      grow (rule11 (omega arith)) (also at on)

  since-falls : FailsBack (Meant frame.letter f) (Meant frame.letter g) i
      → Grows frame (claim (since f g) i Violated)
  since-falls (never_back ns) =
      grow (rule13 refl) (run-each g Violated 0 (i + 1) (λ k ge lt. right k Violated (ns k (omega arith))))
  since-falls (cut_back m le cut ns) =
      let n = i + 1 - m in
      let at = left (i + 1 - n) Violated (subst (λ k. ¬ Meant frame.letter f k) (omega arith) cut) in
      let on = run-each g Violated (i + 1 - n) n
      (λ k ge lt. right k Violated (ns k (omega arith) (omega arith))) in
      grow (rule12 (omega arith) (omega arith)) (also at on)

  until-grows : UntilMeant (Meant frame.letter f) (Meant frame.letter g) i
      → Grows frame (claim (until f g) i Holds)
  until-grows w =
      let n = w.place - i in
      let at = right (i + n) Holds (subst (Meant frame.letter g) (omega arith) w.there) in
      let on = run-each f Holds i n (λ k ge lt. left k Holds (w.between k ge (omega arith))) in
      grow rule14 (also at on)

  until-falls : FailsAhead (Meant frame.letter f) (Meant frame.letter g)
      (frame.count i (height Past g)) i
      → Grows frame (claim (until f g) i Violated)
  until-falls (never_ahead ns) =
      grow (rule16 refl) (run-each g Violated i _ (λ k ge lt. right k Violated (ns k ge lt)))
  until-falls (cut_ahead m le cut ns) =
      let n = m + 1 - i in
      let at = left (i + n - 1) Violated (subst (λ k. ¬ Meant frame.letter f k) (omega arith) cut) in
      let on = run-each g Violated i n (λ k ge lt. right k Violated (ns k ge (omega arith))) in
      grow (rule15 (omega arith)) (also at on)

module _ {frame : Frame} (decide : (f : Formula) (i : ℕ) → Dec (Meant frame.letter f i)) where
  complete-at : (f : Formula) (i : ℕ) (v : Verdict) → Means frame.letter (claim f i v)
      → Grows frame (claim f i v)
  complete-at (atom a) i Holds h = grow (rule1 h) nothing
  complete-at (atom a) i Violated n = grow (rule2 n) nothing
  complete-at (notᶠ f) i Holds n = grow rule3 (also (complete-at f i Violated n) nothing)
  complete-at (notᶠ f) i Violated n =
      grow rule4 (also (complete-at f i Holds ((Dec.not-not (decide f i)).0 n)) nothing)
  complete-at (orᶠ f g) i Holds h = ⊎_elim
      (λ l. grow rule5 (also (complete-at f i Holds l) nothing))
      (λ r. grow rule6 (also (complete-at g i Holds r) nothing))
      h
  complete-at (orᶠ f g) i Violated n =
      grow rule7
      (also (complete-at f i Violated (λ h. n (inl h)))
      (also (complete-at g i Violated (λ h. n (inr h))) nothing))
  complete-at (andᶠ f g) i Holds h =
      grow rule8 (also (complete-at f i Holds h.0) (also (complete-at g i Holds h.1) nothing))
  complete-at (andᶠ f g) i Violated n = by_cases (decide f i)
      (λ h. grow rule10 (also (complete-at g i Violated (λ k. n (h, k))) nothing))
      (λ l. grow rule9 (also (complete-at f i Violated l) nothing))
  complete-at (since f g) i Holds s = since-grows (complete-at f) (complete-at g) i s
  complete-at (since f g) i Violated n =
      since-falls (complete-at f) (complete-at g) i (since-fails (decide f) i n)
  complete-at (until f g) i Holds w = until-grows (complete-at f) (complete-at g) i w
  complete-at (until f g) i Violated n =
      until-falls (complete-at f) (complete-at g) i (until-fails (decide f) _ i n)

  pub complete : (c : Claim) → Means frame.letter c → (ws : List Node) × Tree frame c ws
  complete c = complete-at c.formula c.position c.verdict

-- whatever the count of rule 16
pub repeats-complete : {frame : Frame} {u v : ℕ} → Repeats frame.letter u v
    → (c : Claim) → Means frame.letter c → (ws : List Node) × Tree frame c ws
repeats-complete w = complete (decided w)

pub schedule-complete : (prefix loop : List ℕ) → 0 < length loop
    → (c : Claim) → Means (letter_at prefix loop) c
    → (ws : List Node) × Tree (schedule_frame prefix loop) c ws
schedule-complete prefix loop some = repeats-complete (schedule-repeats prefix loop some)
