-- The roots of an atom, a not, an or and an and that have the price: the left part's where it meets it.
use Prim.Native.Nat.{ℕ, ◌+◌, ◌<◌}
use mathlib.Core.Path.{◌≡◌, refl, subst}
use mathlib.Core.Bool.{true, false}
use mathlib.Core.List.{List, [], ◌∷◌}
use native.Mathlib.Omega.{arith}
use borrow.Author.Tests.{eq-eqb, ne_eqb}
use lib.Dec.{eqb}
use Rattle.rules.specs.Formula.{Formula, atom, notᶠ, orᶠ, andᶠ}
use Rattle.trees.specs.Nodes.{node}
use Rattle.trees.specs.declared.Node.{Node}
use Rattle.trees.specs.Rules.{Frame, Claim, claim, Rule, rule1, rule2, rule3, rule4, rule5, rule6, rule7}
use Rattle.trees.specs.Rules.{rule8, rule9, rule10}
use Rattle.trees.specs.Least.{Cost, cost_of, NodeBefore, by_rule, Least}
use Rattle.trees.specs.declared.Verdict.{Verdict}
use Rattle.theory.specs.inside.Frames.{Lawful}
use Rattle.theory.specs.inside.Costs.{ForestCosts, CutLeast, cut_off}
use Rattle.theory.specs.inside.Prices.{Price}
use Rattle.theory.specs.inside.Level.{ByAtoms}
use Rattle.theory.proofs.Costs.{cut-alone}
use Rattle.cells.specs.inside.Meant.{CellFor}
use Rattle.roots.specs.inside.Roots.{sided_of, or_rule, and_rule}
use Rattle.roots.proofs.Meets.{Costed, own_meets, none_before}
use Rattle.roots.proofs.PartPrices.{held_by}

pub atom-found : {frame : Frame} {a i : ℕ} {s : Verdict} {y : Node} {needs : List Claim}
    → Rule frame (claim (atom a) i s) y needs → y ≡ node (sided_of (held_by s) 1) a i
unfolding sided_of
atom-found (rule1 h) = refl
atom-found (rule2 h) = refl

pub not_found : {frame : Frame} {f : Formula} {i : ℕ} {s : Verdict} {y : Node} {needs : List Claim}
    → Rule frame (claim (notᶠ f) i s) y needs → y ≡ node (sided_of (held_by s) 3) 0 0
unfolding sided_of
not_found rule3 = refl
not_found rule4 = refl

-- a root with one part
lone-costed : {cost : Cost} {frame : Frame} {c d : Claim} {x : Node} {p : ℕ} → Rule frame c x (d ∷ [])
    → Price cost frame d p → Costed cost frame c x p
lone-costed {cost} {frame} {d = d} r a = record {
  needs = d ∷ [];
  rule = r;
  costs = subst (CutLeast (ForestCosts cost frame (d ∷ []))) (omega (arith, a.top)) (cut-alone a);
}

module _ {cost : Cost} {weight : ℕ → ℕ} (by-atoms : ByAtoms cost weight) {frame : Frame} (law : Lawful frame)
    (exists : (f : Formula) (i : ℕ) → (us : List Node) × Least cost frame f i us) where
  module _ {h : Formula} {i : ℕ} {y : Node} {ws : List Node} (l : Least cost frame h i (y ∷ ws)) {price : ℕ}
      (priced : cost_of cost (y ∷ ws) ≡ price) (small : price < cut_off) {s : Verdict} {p : ℕ} where
    met : cost.weigh y.rule y.atom ≡ 1 → Costed cost frame (claim h i s) y p → eqb (1 + p) price ≡ true
    met one c =
        eq-eqb (1 + p) price
        (omega (arith, one, own_meets law exists l (omega (arith, priced, small)) c, priced))

    unmet : {x : Node} → cost.weigh x.rule x.atom ≡ 1 → Costed cost frame (claim h i s) x p
        → NodeBefore x y → eqb (1 + p) price ≡ false
    unmet one c b =
        ne_eqb (1 + p) price
        (λ e. none_before law exists l (omega (arith, priced, small)) c (omega (arith, one, priced, e)) b)

  module _ {f g : Formula} {i c : ℕ} (left : CellFor cost frame f i c) {price : ℕ}
      (small : price < cut_off) where
    pub or-found : {s : Verdict} {y : Node} {ws : List Node} {needs : List Claim}
        → Least cost frame (orᶠ f g) i (y ∷ ws) → cost_of cost (y ∷ ws) ≡ price
        → Rule frame (claim (orᶠ f g) i s) y needs → y ≡ node (or_rule (held_by s) c price) 0 0
    unfolding or_rule
    or-found l priced rule5 =
        rw (met l priced small (by-atoms.other 5 (omega arith)) (lone-costed rule5 left.pro)) refl
    or-found l priced rule6 =
        rw (unmet l priced small (by-atoms.other 5 (omega arith))
        (lone-costed {x = node 5 0 0} rule5 left.pro) (by_rule (omega arith))) refl
    or-found l priced rule7 = refl

    pub and-found : {s : Verdict} {y : Node} {ws : List Node} {needs : List Claim}
        → Least cost frame (andᶠ f g) i (y ∷ ws) → cost_of cost (y ∷ ws) ≡ price
        → Rule frame (claim (andᶠ f g) i s) y needs → y ≡ node (and_rule (held_by s) c price) 0 0
    unfolding and_rule
    and-found l priced rule8 = refl
    and-found l priced rule9 =
        rw (met l priced small (by-atoms.other 9 (omega arith)) (lone-costed rule9 left.con)) refl
    and-found l priced rule10 =
        rw (unmet l priced small (by-atoms.other 9 (omega arith))
        (lone-costed {x = node 9 0 0} rule9 left.con) (by_rule (omega arith))) refl
