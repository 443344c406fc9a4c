-- What a scan finds is the root of the least tree, where that has a list: its count,
-- and whether it has a first part.
use Prim.Native.Nat.{ℕ, suc, ◌+◌, ◌<◌, ◌≤◌}
use mathlib.Core.Path.{◌≡◌, refl, sym, ap, ◌∙◌}
use mathlib.Core.Bool.{Bool, true, false}
use mathlib.Core.Logic.{by_cases}
use mathlib.Core.List.{List, ◌∷◌}
use native.Mathlib.Decide.{dec_lt}
use native.Mathlib.Omega.{arith}
use Rattle.rules.specs.Formula.{Formula}
use Rattle.trees.specs.Nodes.{node}
use Rattle.trees.specs.declared.Node.{Node}
use Rattle.trees.specs.Rules.{Frame, claim}
use Rattle.trees.specs.Least.{Cost, cost_of, NodeBefore, by_rule, by_number, Least}
use Rattle.trees.specs.declared.Verdict.{Verdict}
use Rattle.theory.specs.inside.Frames.{Lawful}
use Rattle.theory.specs.inside.Costs.{cut_off}
use Rattle.theory.specs.inside.RunCosts.{sum_run}
use Rattle.scans.specs.inside.Scans.{members_of, list_cost, Missed, Scanned}
use Rattle.scans.specs.declared.Met.{Met}
use Rattle.roots.proofs.Sums.{sum-grows}
use Rattle.roots.proofs.Meets.{Costed, own_meets, none_before}

members-less : (held : Bool) (n m : ℕ) → n < m → members_of held n < members_of held m
unfolding members_of
members-less true n m lt = lt
members-less false n m lt = omega arith

members-far : (held : Bool) (n k : ℕ) → k < members_of held n → k ≤ n
unfolding members_of
members-far true n k lt = omega arith
members-far false n k lt = omega arith

-- the scan ends at the last step or before
ends_by : {witness member : ℕ → ℕ} {held : Bool} {price far : ℕ} {r : Met}
    → ¬ Missed witness member held price far → (s : Scanned witness member held price r) → s.far ≤ far
ends_by {far = far} meets s =
    by_cases (dec_lt far s.far) (λ lt. absurd (meets (s.missed far lt))) (λ ge. omega arith)

-- The scan ends with the witness far steps off, with a first part or with the list alone.
pub record Ends (witness member : ℕ → ℕ) (held : Bool) (price far : ℕ) (alone : Bool) : Type 0 where
  pub meets : ¬ Missed witness member held price far
  pub found : {r : Met} → Scanned witness member held price r
      → (r.alone ≡ alone) × (r.count ≡ members_of held far)

-- A claim whose roots have lists: with the witness far steps off, and those after that far enough.
module _ {cost : Cost} {frame : Frame} (law : Lawful frame)
    (exists : (f : Formula) (i : ℕ) → (us : List Node) × Least cost frame f i us) {f : Formula} {i : ℕ}
    {y : Node} {ws : List Node} (l : Least cost frame f i (y ∷ ws)) {s : Verdict} {price : ℕ}
    (priced : cost_of cost (y ∷ ws) ≡ price) (small : price < cut_off) (witness member : ℕ → ℕ) (held : Bool)
    (rule far : ℕ) (one : cost.weigh rule 0 ≡ 1)
    (firsts : (n : ℕ) → n ≤ far
    → Costed cost frame (claim f i s) (node rule 0 (members_of held n))
    (witness n + sum_run member 0 (members_of held n))) (some-witness : 1 ≤ witness far)
    (some : (n : ℕ) → n ≤ far → 1 ≤ member n) where
  rises : (n : ℕ) → n ≤ far → list_cost member held n ≤ list_cost member held far
  rises n le =
      by_cases (dec_lt n far)
      (λ lt. omega (
        arith,
        sum-grows member (members_of held n) (members_of held far) (omega (arith, members-less held n far lt))
            (λ k h. some k (members-far held far k h)),
      )) (λ ge. let same : n ≡ far = omega arith in omega (arith, ap (list_cost member held) same))

  rises-more : (n : ℕ) → n < far → list_cost member held n < list_cost member held far
  rises-more n lt =
      let more = members-less held n far lt in
      omega (
        arith,
        more,
        sum-grows member (members_of held n) (members_of held far) (omega (arith, more))
            (λ k h. some k (members-far held far k h)),
      )

  -- no root with a witness nearer meets the price, and none of this rule does where
  -- the least tree has a later one
  unmet : (n : ℕ) → n ≤ far → NodeBefore (node rule 0 (members_of held n)) y
      → ¬ (list_cost member held n + witness n ≡ price)
  unmet n le b e =
      none_before law exists l (omega (arith, priced, small)) (firsts n le) (omega (arith, one, priced, e)) b

  -- the least tree has a first part
  module _ (is : y ≡ node rule 0 (members_of held far)) where
    first-meets : list_cost member held far + witness far ≡ price
    first-meets = omega (
      arith,
      one,
      ap (λ z. cost.weigh z.rule z.atom) is,
      own_meets law exists l (omega (arith, priced, small)) (rw (sym is) at (firsts far (omega arith))),
      priced,
    )

    first_found : {r : Met} → Scanned witness member held price r
        → (r.alone ≡ false) × (r.count ≡ members_of held far)
    first_found {r} a = by r.alone refl where
      le : a.far ≤ far
      le = ends_by (λ m. m.with_first first-meets) a

      by : (t : Bool) → r.alone ≡ t → (r.alone ≡ false) × (r.count ≡ members_of held far)
      by true e = absurd (omega (arith, a.without e, rises a.far le, first-meets, some-witness))
      by false e =
          by_cases (dec_lt a.far far)
          (λ lt. absurd (unmet a.far le (rw is (by_number refl refl (members-less held a.far far lt)))
          (a.with_first e)))
          (λ ge. let same : a.far ≡ far = omega (arith, le) in (e, a.count ∙ ap (members_of held) same))

    pub first_ends : Ends witness member held price far false
    first_ends = record { meets = λ m. m.with_first first-meets; found = first_found }

  -- the least tree has the list alone, by the rule after
  module _ (next : cost.weigh (suc rule) 0 ≡ 1) (is : y ≡ node (suc rule) 0 (members_of held far))
      (c : Costed cost frame (claim f i s) (node (suc rule) 0 (members_of held far))
      (sum_run member 0 (members_of held far))) where
    alone-meets : list_cost member held far ≡ price
    alone-meets = omega (
      arith,
      next,
      ap (λ z. cost.weigh z.rule z.atom) is,
      own_meets law exists l (omega (arith, priced, small)) (rw (sym is) at c),
      priced,
    )

    alone-found : {r : Met} → Scanned witness member held price r
        → (r.alone ≡ true) × (r.count ≡ members_of held far)
    alone-found {r} a = by r.alone refl where
      le : a.far ≤ far
      le = ends_by (λ m. m.without alone-meets) a

      by : (t : Bool) → r.alone ≡ t → (r.alone ≡ true) × (r.count ≡ members_of held far)
      by false e =
          absurd (unmet a.far le
          (rw is
          (by_rule {x = node rule 0 (members_of held a.far)}
          {y = node (suc rule) 0 (members_of held far)} (omega arith)))
          (a.with_first e))
      by true e = by_cases (dec_lt a.far far)
          (λ lt. absurd (omega (arith, a.without e, rises-more a.far lt, alone-meets)))
          (λ ge. let same : a.far ≡ far = omega (arith, le) in (e, a.count ∙ ap (members_of held) same))

    pub alone-ends : Ends witness member held price far true
    alone-ends = record { meets = λ m. m.without alone-meets; found = alone-found }
