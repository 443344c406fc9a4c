-- Which roots a claim allows: nodes that are ahead of the rows of the table for a
-- claim are ahead of all its trees.
use Prim.Native.Nat.{ℕ, ◌+◌, ◌-◌, ◌≤◌}
use mathlib.Core.List.{List, [], ◌∷◌}
use native.Mathlib.Omega.{arith}
use lib.ListN.{length}
use Rattle.rules.specs.Formula.{Formula, atom, notᶠ, orᶠ, andᶠ, since, until, height}
use Rattle.rules.specs.declared.Side.TheVariants.{Past}
use Rattle.trees.specs.Nodes.{node}
use Rattle.trees.specs.declared.Node.{Node}
use Rattle.trees.specs.Rules.{Frame, Claim, claim, run, Rule, rule1, rule2, rule3, rule4, rule5, rule6, rule7}
use Rattle.trees.specs.Rules.{rule8, rule9, rule10, rule11, rule12, rule13, rule14, rule15, rule16}
use Rattle.trees.specs.Trees.{Tree, grown, Forest}
use Rattle.trees.specs.Least.{Cost, cost_of, AtOrBefore, cheaper}
use Rattle.trees.specs.declared.Verdict.TheVariants.{Holds, Violated}
use Rattle.trees.proofs.Order.{at-transitive}
use Rattle.theory.proofs.Saves.{forest-cost}

-- The nodes ws come at or before every tree with the root x above parts for the claims `needs`.
pub record AheadOfRoot (cost : Cost) (frame : Frame) (ws : List Node) (x : Node)
    (needs : List Claim) : Type 0 where
  pub first : (vs : List Node) → Forest frame needs vs → AtOrBefore cost ws (x ∷ vs)

abbrev pub ComesFirst : Cost → Frame → List Node → Claim → Type 0
ComesFirst cost frame ws c =
    (x : Node) (needs : List Claim) → Rule frame c x needs → AheadOfRoot cost frame ws x needs

module _ {cost : Cost} {frame : Frame} {ws : List Node} where
  pub ahead_before : {vs : List Node} {x : Node} {needs : List Claim}
      → AtOrBefore cost vs ws → AheadOfRoot cost frame ws x needs → AheadOfRoot cost frame vs x needs
  ahead_before b a = record { first = λ us fs. at-transitive b (a.first us fs) }

  -- each part costs at least 1, and so does the root
  pub dear-ahead : {x : Node} {needs : List Claim} → cost_of cost ws ≤ length needs
      → AheadOfRoot cost frame ws x needs
  dear-ahead {x} le =
      record { first = λ vs fs. cheaper (omega (arith, forest-cost cost fs, cost.some x.rule x.atom)) }

  pub leads-all : {c : Claim} → ComesFirst cost frame ws c → (vs : List Node) → Tree frame c vs
      → AtOrBefore cost ws vs
  leads-all l vs (grown {x} {needs} {ws} r fs) = (l x needs r).first ws fs

module _ {cost : Cost} {frame : Frame} {ws : List Node} {a i : ℕ} where
  pub atom-holds : AheadOfRoot cost frame ws (node 1 a i) []
      → ComesFirst cost frame ws (claim (atom a) i Holds)
  atom-holds b x needs (rule1 h) = b

  pub atom-violated : AheadOfRoot cost frame ws (node 2 a i) []
      → ComesFirst cost frame ws (claim (atom a) i Violated)
  atom-violated b x needs (rule2 h) = b

module _ {cost : Cost} {frame : Frame} {ws : List Node} {f : Formula} {i : ℕ} where
  pub not-holds : AheadOfRoot cost frame ws (node 3 0 0) (claim f i Violated ∷ [])
      → ComesFirst cost frame ws (claim (notᶠ f) i Holds)
  not-holds a x needs rule3 = a

  pub not-violated : AheadOfRoot cost frame ws (node 4 0 0) (claim f i Holds ∷ [])
      → ComesFirst cost frame ws (claim (notᶠ f) i Violated)
  not-violated a x needs rule4 = a

module _ {cost : Cost} {frame : Frame} {ws : List Node} {f g : Formula} {i : ℕ} where
  pub or-holds : AheadOfRoot cost frame ws (node 5 0 0) (claim f i Holds ∷ [])
      → AheadOfRoot cost frame ws (node 6 0 0) (claim g i Holds ∷ [])
      → ComesFirst cost frame ws (claim (orᶠ f g) i Holds)
  or-holds a b x needs rule5 = a
  or-holds a b x needs rule6 = b

  pub or-violated : AheadOfRoot cost frame ws (node 7 0 0) (claim f i Violated ∷ claim g i Violated ∷ [])
      → ComesFirst cost frame ws (claim (orᶠ f g) i Violated)
  or-violated a x needs rule7 = a

  pub and-holds : AheadOfRoot cost frame ws (node 8 0 0) (claim f i Holds ∷ claim g i Holds ∷ [])
      → ComesFirst cost frame ws (claim (andᶠ f g) i Holds)
  and-holds a x needs rule8 = a

  pub and-violated : AheadOfRoot cost frame ws (node 9 0 0) (claim f i Violated ∷ [])
      → AheadOfRoot cost frame ws (node 10 0 0) (claim g i Violated ∷ [])
      → ComesFirst cost frame ws (claim (andᶠ f g) i Violated)
  and-violated a b x needs rule9 = a
  and-violated a b x needs rule10 = b

  pub since-holds : ((n : ℕ) → n ≤ i
      → AheadOfRoot cost frame ws (node 11 0 n) (claim g (i - n) Holds ∷ run f (i - n + 1) n Holds))
      → ComesFirst cost frame ws (claim (since f g) i Holds)
  since-holds a x needs (rule11 {n} le) = a n le

  pub since-violated : ((n : ℕ) → 1 ≤ n → n ≤ i + 1
      → AheadOfRoot cost frame ws (node 12 0 n) (claim f (i + 1 - n) Violated ∷ run g (i + 1 - n) n Violated))
      → AheadOfRoot cost frame ws (node 13 0 (i + 1)) (run g 0 (i + 1) Violated)
      → ComesFirst cost frame ws (claim (since f g) i Violated)
  since-violated a b x needs (rule12 {n} some le) = a n some le
  since-violated a b x needs (rule13 {n} e) = rw e b

  pub until-holds : ((n : ℕ)
      → AheadOfRoot cost frame ws (node 14 0 n) (claim g (i + n) Holds ∷ run f i n Holds))
      → ComesFirst cost frame ws (claim (until f g) i Holds)
  until-holds a x needs (rule14 {n}) = a n

  pub until-violated : ((n : ℕ) → 1 ≤ n
      → AheadOfRoot cost frame ws (node 15 0 n) (claim f (i + n - 1) Violated ∷ run g i n Violated))
      → AheadOfRoot cost frame ws (node 16 0 (frame.count i (height Past g)))
      (run g i (frame.count i (height Past g)) Violated)
      → ComesFirst cost frame ws (claim (until f g) i Violated)
  until-violated a b x needs (rule15 {n} some) = a n some
  until-violated a b x needs (rule16 {n} e) = rw e b
