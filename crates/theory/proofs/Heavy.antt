-- The window needs a cost that is level: where rule 16 weighs much, a tree may
-- gain by a witness past the window.
use Prim.Native.Nat.{ℕ, ◌+◌, ◌-◌, ◌*◌, ◌/◌, ◌≤◌}
use mathlib.Core.Path.{◌≡◌, refl, subst}
use mathlib.Core.Logic.{by_cases}
use mathlib.Core.List.{List, [], ◌∷◌}
use native.Mathlib.Decide.{dec_le}
use native.Mathlib.Omega.{arith}
use Rattle.schedule.specs.Letters.{letter_at}
use Rattle.rules.specs.Formula.{Formula, atom, notᶠ, andᶠ, since, until}
use Rattle.rules.specs.Meaning.{HasAtom, Meant}
use Rattle.trees.specs.Nodes.{node}
use Rattle.trees.specs.declared.Node.{Node}
use Rattle.trees.specs.Rules.{Frame, Claim, claim, rule1, rule2, rule3, rule4, rule8, rule11, rule15, rule16}
use Rattle.trees.specs.Trees.{Tree, grown, none, more}
use Rattle.trees.specs.Frames.{schedule_frame}
use Rattle.trees.specs.Least.{Cost, cost_of}
use Rattle.trees.specs.declared.Verdict.TheVariants.{Holds, Violated}
use Rattle.trees.proofs.Order.{at-cost}
use Rattle.theory.proofs.Decided.{schedule-truth-exact}
use Rattle.theory.proofs.Sound.{schedule-sound}
use Rattle.theory.proofs.Horizon.{InWindow, NearTree}

-- rule 16 weighs 100, every other 1
abbrev heavy : Cost
heavy = record { weigh = λ r a. 1 + 99 * (r / 16); some = λ r a. omega arith }

-- Atoms 0 and 1 take turns, and atom 3 never comes. The left side is violated at 2 for the first
-- time: atom 0, and atom 1 before it.
abbrev turns : Frame
turns = schedule_frame [] (1 ∷ 2 ∷ [])

abbrev left : Formula
left = notᶠ (andᶠ (atom 0) (since (notᶠ (atom 3)) (atom 1)))

abbrev asked : Claim
asked = claim (until left (atom 3)) 0 Violated

never : (k : ℕ) → ¬ HasAtom (turns.letter k) 3 → Tree turns (claim (atom 3) k Violated) (node 2 3 k ∷ [])
never k n = grown (rule2 n) none

-- what it has once before 2, and that the left side is violated there
once : Tree turns (claim (since (notᶠ (atom 3)) (atom 1)) 2 Holds)
    (node 11 0 1 ∷ node 1 1 1 ∷ node 3 0 0 ∷ node 2 3 2 ∷ [])
once =
    grown (rule11 {i = 2} {n = 1} (omega arith))
    (more (grown (rule1 refl) none) (more (grown rule3 (more (never 2 (omega arith)) none)) none))

cut : Tree turns (claim left 2 Violated)
    (node 4 0 0 ∷ node 8 0 0 ∷ node 1 0 2 ∷ node 11 0 1 ∷ node 1 1 1 ∷ node 3 0 0 ∷ node 2 3 2 ∷ [])
cut = grown rule4 (more (grown rule8 (more (grown (rule1 refl) none) (more once none))) none)

-- so rule 15 is there, with eight nodes and one for each of 0, 1 and 2
abbrev far : List Node
far =
    node 15 0 3 ∷ node 4 0 0 ∷ node 8 0 0 ∷ node 1 0 2 ∷ node 11 0 1 ∷ node 1 1 1 ∷ node 3 0 0 ∷ node 2 3 2
    ∷ node 2 3 0 ∷ node 2 3 1 ∷ node 2 3 2 ∷ []

pub far-valid : Tree turns asked far
far-valid =
    grown (rule15 {n = 3} (omega arith))
    (more cut
    (more (never 0 (omega arith)) (more (never 1 (omega arith)) (more (never 2 (omega arith)) none))))

far-cost : cost_of heavy far ≡ 11
far-cost = refl

left-early : (k : ℕ) → k ≤ 1 → Meant (letter_at [] (1 ∷ 2 ∷ [])) left k
left-early k le =
    by_cases (dec_le k 0)
    (λ h. subst (Meant (letter_at [] (1 ∷ 2 ∷ [])) left) (omega arith)
    ((schedule-truth-exact [] (1 ∷ 2 ∷ []) (omega arith) left 0).0 refl))
    (λ h. subst (Meant (letter_at [] (1 ∷ 2 ∷ [])) left) (omega arith)
    ((schedule-truth-exact [] (1 ∷ 2 ∷ []) (omega arith) left 1).0 refl))

-- inside the window the left side holds, so only rule 16 is there
near-dear : {x : Node} {ws : List Node} → InWindow 0 2 asked x → Tree turns asked (x ∷ ws)
    → 100 ≤ cost_of heavy (x ∷ ws)
near-dear w (grown (rule15 {n} some) (more t fs)) =
    let le = w.cut refl in
    absurd (schedule-sound [] (1 ∷ 2 ∷ []) (omega arith) t (left-early (0 + n - 1) (omega arith)))
near-dear w (grown (rule16 e) fs) = omega arith

pub heavy-far : ¬ NearTree heavy turns (InWindow 0 2 asked) asked far
heavy-far a = omega (arith, far-cost, at-cost a.before, near-dear a.near a.tree)
