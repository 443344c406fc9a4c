-- From the threshold on a valid tree one lap later gives one here, with the same verdict and no greater cost.
use Prim.Native.Nat.{ℕ, zero, suc, ◌+◌, ◌-◌, ◌*◌, ◌≤◌, max}
use mathlib.Core.Path.{◌≡◌, refl, ◌∙◌, ap, subst}
use mathlib.Core.Logic.{by_cases}
use mathlib.Core.List.{List, [], ◌∷◌}
use native.Mathlib.Decide.{dec_le}
use native.Mathlib.Nat.{mul-le-mul_left, mul-add}
use native.Mathlib.Omega.{arith}
use Rattle.rules.specs.Formula.{Formula, atom, notᶠ, orᶠ, andᶠ, since, until, height}
use Rattle.rules.specs.Meaning.{HasAtom}
use Rattle.rules.specs.declared.Side.TheVariants.{Past}
use Rattle.trees.specs.declared.Node.{Node}
use Rattle.trees.specs.Rules.{Frame, claim, run, rule1, rule2, rule3, rule4, rule5, rule6, rule7, rule8}
use Rattle.trees.specs.Rules.{rule9, rule10, rule11, rule12, rule13, rule14, rule15, rule16}
use Rattle.trees.specs.Trees.{Tree, grown, Forest, none, more}
use Rattle.trees.specs.Least.{Cost, cost_of}
use Rattle.trees.specs.declared.Verdict.{Verdict}
use Rattle.trees.specs.declared.Verdict.TheVariants.{Holds, Violated}
use Rattle.theory.specs.inside.Words.{Repeats}
use Rattle.theory.specs.inside.Threshold.{threshold}
use Rattle.theory.specs.inside.Repeating.{repeat_frame}
use Rattle.theory.proofs.Saves.{Saves, AllSave, none-saves, more-saves, grow-saves, same-saves}
use Rattle.theory.proofs.Saves.{cut-saves, no-dearer}

-- A tree of f at p gives one at k, a lap earlier. The position p is a variable,
-- for a match to put its own in its place.
abbrev Down : Cost → Frame → ℕ → ℕ → Formula → Type 0
Down cost frame v t f =
    (p k : ℕ) (s : Verdict) → p ≡ k + v → t ≤ k → (ws : List Node) → Tree frame (claim f p s) ws
    → Saves cost frame 0 (claim f k s) ws

-- From t on, trees of f come a lap earlier for no more.
record Laps (cost : Cost) (frame : Frame) (v t : ℕ) (f : Formula) : Type 0 where
  down : Down cost frame v t f

module _ {cost : Cost} {frame : Frame} {v t : ℕ} {f : Formula} (l : Laps cost frame v t f) where
  laps-later : {r : ℕ} → t ≤ r → Laps cost frame v r f
  laps-later le = record { down = λ p k s e ge ws a. l.down p k s e (omega arith) ws a }

  alone-down : (p k : ℕ) (s : Verdict) → p ≡ k + v → t ≤ k
      → {ws : List Node} → Forest frame (claim f p s ∷ []) ws → AllSave cost frame 0 (claim f k s ∷ []) ws
  alone-down p k s e ge (more a none) = more-saves (l.down p k s e ge _ a) none-saves

  run_down : (p k n : ℕ) (s : Verdict) → p ≡ k + v → t ≤ k
      → {ws : List Node} → Forest frame (run f p n s) ws → AllSave cost frame 0 (run f k n s) ws
  run_down p k zero s e ge none = none-saves
  run_down p k (suc n) s e ge (more a bs) =
      more-saves (l.down p k s e ge _ a) (run_down (suc p) (suc k) n s (omega arith) (omega arith) bs)

  not-down : Down cost frame v t (notᶠ f)
  not-down p k Holds e ge ws (grown rule3 bs) = grow-saves rule3 (alone-down p k Violated e ge bs) 0
  not-down p k Violated e ge ws (grown rule4 bs) = grow-saves rule4 (alone-down p k Holds e ge bs) 0

module _ {cost : Cost} {frame : Frame} {v t : ℕ} {f g : Formula} (l : Laps cost frame v t f)
    (r : Laps cost frame v t g) where
  both-down : (p k : ℕ) (s : Verdict) → p ≡ k + v → t ≤ k → {ws : List Node}
      → Forest frame (claim f p s ∷ claim g p s ∷ []) ws
      → AllSave cost frame 0 (claim f k s ∷ claim g k s ∷ []) ws
  both-down p k s e ge (more a bs) = more-saves (l.down p k s e ge _ a) (alone-down r p k s e ge bs)

  or-down : Down cost frame v t (orᶠ f g)
  or-down p k Holds e ge ws (grown rule5 bs) = grow-saves rule5 (alone-down l p k Holds e ge bs) 0
  or-down p k Holds e ge ws (grown rule6 bs) = grow-saves rule6 (alone-down r p k Holds e ge bs) 0
  or-down p k Violated e ge ws (grown rule7 bs) = grow-saves rule7 (both-down p k Violated e ge bs) 0

  and-down : Down cost frame v t (andᶠ f g)
  and-down p k Holds e ge ws (grown rule8 bs) = grow-saves rule8 (both-down p k Holds e ge bs) 0
  and-down p k Violated e ge ws (grown rule9 bs) = grow-saves rule9 (alone-down l p k Violated e ge bs) 0
  and-down p k Violated e ge ws (grown rule10 bs) = grow-saves rule10 (alone-down r p k Violated e ge bs) 0

  -- A witness at or before k stays, and the last v members fall away; one past k,
  -- more than a lap past t, moves with all the members.
  since-down : Down cost frame v (t + v) (since f g)
  since-down p k Holds e ge ws (grown (rule11 {n} le) (more a bs)) = by_cases (dec_le v n)
      (λ far.
      let at = same-saves g (p - n) (k - (n - v)) Holds (omega arith) a in
      let on = cut-saves f (p - n + 1) n (k - (n - v) + 1) (n - v) v Holds (omega arith) (omega arith) bs in
      no-dearer (grow-saves (rule11 (omega arith)) (more-saves at on) n))
      (λ near.
      let at = r.down (p - n) (k - n) Holds (omega arith) (omega arith) _ a in
      let on = run_down l (p - n + 1) (k - n + 1) n Holds (omega arith) (omega arith) bs in
      grow-saves (rule11 (omega arith)) (more-saves at on) n)
  since-down p k Violated e ge ws (grown (rule12 {n} some le) (more a bs)) =
      by_cases (dec_le (v + 1) n)
      (λ far. let at = same-saves f (p + 1 - n) (k + 1 - (n - v)) Violated (omega arith) a in
      let on = cut-saves g (p + 1 - n) n (k + 1 - (n - v)) (n - v) v Violated (omega arith)
      (omega arith) bs in
      no-dearer (grow-saves (rule12 (omega arith) (omega arith)) (more-saves at on) n))
      (λ near. let at = l.down (p + 1 - n) (k + 1 - n) Violated (omega arith) (omega arith) _ a in
      let on = run_down r (p + 1 - n) (k + 1 - n) n Violated (omega arith) (omega arith) bs in
      grow-saves (rule12 some (omega arith)) (more-saves at on) n)
  since-down p k Violated e ge ws (grown (rule13 {n} d) bs) =
      no-dearer (grow-saves (rule13 refl) (cut-saves g 0 n 0 (k + 1) v Violated refl (omega arith) bs) n)

module _ {cost : Cost} {word : ℕ → ℕ} {u v : ℕ} (w : Repeats word u v) where
  atom-down : (a : ℕ) → Down cost (repeat_frame word u v) v u (atom a)
  atom-down a p k Holds e ge ws (grown (rule1 h) none) =
      grow-saves (rule1 (subst (λ x. HasAtom x a) (ap word e ∙ w.again k ge) h)) none-saves p
  atom-down a p k Violated e ge ws (grown (rule2 h) none) =
      grow-saves (rule2 (subst (λ x. ¬ HasAtom x a) (ap word e ∙ w.again k ge) h)) none-saves p

  -- rule 16's count is v at both places
  until-down : {t : ℕ} {f g : Formula} → Laps cost (repeat_frame word u v) v t f
      → Laps cost (repeat_frame word u v) v t g → threshold u v g ≤ t
      → Down cost (repeat_frame word u v) v t (until f g)
  until-down l r le p k Holds e ge ws (grown (rule14 {n}) (more a bs)) =
      let at = r.down (p + n) (k + n) Holds (omega arith) (omega arith) _ a in
      grow-saves rule14 (more-saves at (run_down l p k n Holds e ge bs)) n
  until-down l r le p k Violated e ge ws (grown (rule15 {n} some) (more a bs)) =
      let at = l.down (p + n - 1) (k + n - 1) Violated (omega arith) (omega arith) _ a in
      grow-saves (rule15 some) (more-saves at (run_down r p k n Violated e ge bs)) n
  until-down l r le p k Violated e ge ws (grown (rule16 {n} d) bs) =
      grow-saves (rule16 {n = n} (omega arith)) (run_down r p k n Violated e ge bs) n

  -- what comes a lap earlier from the threshold of one height on does so from that of every greater one
  higher : {f : Formula} {m : ℕ} → height Past f ≤ m → Laps cost (repeat_frame word u v) v (threshold u v f) f
      → Laps cost (repeat_frame word u v) v (u + v * m) f
  higher le l = laps-later l (omega (arith, mul-le-mul_left v le))

  formula-laps : (f : Formula) → Laps cost (repeat_frame word u v) v (threshold u v f) f
  formula-laps (atom a) = laps-later (record { down = atom-down a }) (omega arith)
  formula-laps (notᶠ f) = record { down = not-down (formula-laps f) }
  formula-laps (orᶠ f g) = record {
    down = or-down (higher (omega arith) (formula-laps f)) (higher (omega arith) (formula-laps g));
  }
  formula-laps (andᶠ f g) = record {
    down = and-down (higher (omega arith) (formula-laps f)) (higher (omega arith) (formula-laps g));
  }
  formula-laps (since f g) =
      let m = max (height Past f) (height Past g) in
      laps-later (record {
        down = since-down (higher {m = m} (omega arith) (formula-laps f))
            (higher (omega arith) (formula-laps g));
      }) (omega (arith, mul-add v m 1))
  formula-laps (until f g) =
      let le : height Past g ≤ height Past (until f g) = omega arith in
      record {
        down = until-down (higher (omega arith) (formula-laps f)) (higher le (formula-laps g))
            (omega (arith, mul-le-mul_left v le));
      }

  pub lap-earlier : (f : Formula) (p k : ℕ) (s : Verdict) → p ≡ k + v → threshold u v f ≤ k → {ws : List Node}
      → Tree (repeat_frame word u v) (claim f p s) ws → Saves cost (repeat_frame word u v) 0 (claim f k s) ws
  lap-earlier f p k s e ge {ws} t = (formula-laps f).down p k s e ge ws t

pub laps : (cost : Cost) {word : ℕ → ℕ} {u v : ℕ} → Repeats word u v → (f : Formula) (k : ℕ) (s : Verdict)
    → threshold u v f ≤ k → {ws : List Node} → Tree (repeat_frame word u v) (claim f (k + v) s) ws
    → (vs : List Node) × (Tree (repeat_frame word u v) (claim f k s) vs × (cost_of cost vs ≤ cost_of cost ws))
laps cost {v} w f k s ge t =
    let a = lap-earlier {cost = cost} w f (k + v) k s refl ge t in
    (a.nodes, (a.tree, omega arith))
