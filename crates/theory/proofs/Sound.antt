-- A valid tree has the verdict of the meaning, whatever its price and however far off its witnesses.
use Prim.Native.Nat.{ℕ, ◌+◌, ◌-◌, ◌<◌}
use mathlib.Core.Logic.{inl, inr, ⊎_elim, by_cases}
use mathlib.Core.List.{List}
use native.Mathlib.Decide.{dec_le, dec_lt}
use native.Mathlib.Omega.{arith}
use lib.ListN.{length}
use Rattle.schedule.specs.Letters.{letter_at}
use Rattle.trees.specs.declared.Node.{Node}
use Rattle.trees.specs.Rules.{Frame, Claim, Rule, rule1, rule2, rule3, rule4, rule5, rule6, rule7, rule8}
use Rattle.trees.specs.Rules.{rule9, rule10, rule11, rule12, rule13, rule14, rule15, rule16}
use Rattle.trees.specs.Trees.{Tree, grown, Forest, none, more}
use Rattle.trees.specs.declared.Verdict.TheVariants.{Holds, Violated}
use Rattle.trees.specs.Frames.{window_count, schedule_frame}
use Rattle.theory.specs.inside.Words.{Repeats}
use Rattle.trees.specs.Means.{Means}
use Rattle.theory.specs.inside.Frames.{Lawful}
use Rattle.theory.proofs.Words.{schedule-repeats}
use Rattle.theory.proofs.Window.{violated-ever}
use Rattle.theory.proofs.Runs.{Each, nothing, also, each-run}

module _ {frame : Frame} (law : Lawful frame) where
  rule-sound : {c : Claim} {x : Node} {needs : List Claim}
      → Rule frame c x needs → Each (Means frame.letter) needs → Means frame.letter c
  rule-sound (rule1 h) nothing = h
  rule-sound (rule2 h) nothing = h
  rule-sound rule3 (also h nothing) = h
  rule-sound rule4 (also h nothing) = λ n. n h
  rule-sound rule5 (also h nothing) = inl h
  rule-sound rule6 (also h nothing) = inr h
  rule-sound rule7 (also h (also k nothing)) = ⊎_elim h k
  rule-sound rule8 (also h (also k nothing)) = (h, k)
  rule-sound rule9 (also h nothing) = λ p. h p.0
  rule-sound rule10 (also h nothing) = λ p. h p.1
  rule-sound (rule11 {f} {g} {i} {n} le) (also h hs) = record {
    place = i - n;
    order = omega arith;
    there = h;
    between = λ k lt to. each-run f Holds (i - n + 1) n hs k (omega arith) (omega arith);
  }
  -- a place before the run has the violated left side after it
  rule-sound (rule12 {f} {g} {i} {n} ge le) (also h hs) = λ s. by_cases (dec_le (i + 1 - n) s.place)
      (λ in-it. each-run g Violated (i + 1 - n) n hs s.place in-it (omega arith) s.there)
      (λ before. h (s.between (i + 1 - n) (omega arith) (omega arith)))
  rule-sound (rule13 {f} {g} {i} {n} e) hs =
      λ s. each-run g Violated 0 n hs s.place (omega arith) (omega arith) s.there
  rule-sound (rule14 {f} {g} {i} {n}) (also h hs) = record {
    place = i + n;
    order = omega arith;
    there = h;
    between = λ k from lt. each-run f Holds i n hs k from lt;
  }
  -- a place past the run has the violated left side before it
  rule-sound (rule15 {f} {g} {i} {n} ge) (also h hs) = λ w. by_cases (dec_lt w.place (i + n))
      (λ in-it. each-run g Violated i n hs w.place w.order in-it w.there)
      (λ past. h (w.between (i + n - 1) (omega arith) (omega arith)))
  rule-sound (rule16 {f} {g} {i} {n} e) hs =
      λ w. law.ever g i (λ k ge lt. each-run g Violated i n hs k ge (omega arith)) w.place
      w.order w.there

  sounds : {cs : List Claim} {ws : List Node} → Forest frame cs ws → Each (Means frame.letter) cs
  sounds fs = elim fs as (λ c ws t. Means frame.letter c) (λ cs ws gs. Each (Means frame.letter) cs) [
    | grown r (gs → hs) ↦ rule-sound r hs
    | none ↦ nothing
    | more (t → h) (gs → hs) ↦ also h hs
  ]

  pub sound : {c : Claim} {ws : List Node} → Tree frame c ws → Means frame.letter c
  sound (grown r fs) = rule-sound r (sounds fs)

-- the count of the table reaches to the end of the window
pub repeats-lawful : {word : ℕ → ℕ} {u v : ℕ} → Repeats word u v
    → Lawful (record { letter = word; count = window_count u v })
repeats-lawful w = record { ever = λ g i window. violated-ever w g i (λ k ge lt. window k ge (omega arith)) }

module _ (prefix loop : List ℕ) (some : 0 < length loop) where
  pub schedule-lawful : Lawful (schedule_frame prefix loop)
  schedule-lawful = repeats-lawful (schedule-repeats prefix loop some)

  pub schedule-sound : {c : Claim} {ws : List Node} → Tree (schedule_frame prefix loop) c ws
      → Means (letter_at prefix loop) c
  schedule-sound = sound schedule-lawful
