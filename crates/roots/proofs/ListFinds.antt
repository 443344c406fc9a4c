-- The scan for a since and for an until comes to an end, at the root of the least tree.
use Prim.Native.Nat.{ℕ, zero, suc, ◌+◌, ◌-◌, ◌<◌, ◌≤◌}
use mathlib.Core.Path.{◌≡◌, refl, sym, ap, subst, ◌∙◌}
use mathlib.Core.Bool.{Bool, true, false, cond, false≢true}
use mathlib.Core.List.{List, ◌∷◌}
use native.Mathlib.Omega.{arith}
use Rattle.rules.specs.Formula.{Formula, since, until, height}
use Rattle.rules.specs.declared.Side.TheVariants.{Past}
use Rattle.trees.specs.Nodes.{node}
use Rattle.trees.specs.declared.Node.{Node}
use Rattle.trees.specs.Rules.{Frame, Claim, claim, Rule, rule11, rule12, rule13, rule14, rule15, rule16}
use Rattle.trees.specs.Least.{Cost, cost_of, Least}
use Rattle.trees.specs.declared.Verdict.{Verdict}
use Rattle.trees.specs.declared.Verdict.TheVariants.{Holds, Violated}
use Rattle.theory.specs.inside.Frames.{Lawful}
use Rattle.theory.specs.inside.Threshold.{window_end}
use Rattle.theory.specs.inside.Costs.{cut_off}
use Rattle.theory.specs.inside.Level.{ByAtoms}
use Rattle.theory.proofs.Horizon.{InWindow}
use Rattle.theory.proofs.Windowed.{Windowed}
use Rattle.cells.specs.inside.Meant.{CellFor}
use Rattle.rows.specs.inside.Rows.{row_of, row_length}
use Rattle.scans.specs.inside.Scans.{step_from, members_of, prices_from, Reached, Scanned}
use Rattle.roots.specs.inside.Roots.{list_rule}
use Rattle.scans.specs.declared.Met.{Met}
use Rattle.roots.proofs.Finds.{Ends, first_ends, alone-ends}
use Rattle.roots.proofs.PartPrices.{held_by, part-some}
use Rattle.roots.proofs.ListRoots.{held-since, broken-since, never-since, held-until, broken-until}
use Rattle.roots.proofs.ListRoots.{never-until}

-- The node y is what the scan along the rows of left and right finds.
pub record ListFound (work : List ℕ) (left right i : ℕ) (s : Verdict) (ahead : Bool) (price rule : ℕ)
    (y : Node) : Type 0 where
  pub reached : Reached (prices_from (row_of work (cond (held_by s) right left)) (held_by s) ahead i)
      (prices_from (row_of work (cond (held_by s) left right)) (held_by s) ahead i) (held_by s) ahead i price
  pub found : (met : Met)
      → Scanned (prices_from (row_of work (cond (held_by s) right left)) (held_by s) ahead i)
      (prices_from (row_of work (cond (held_by s) left right)) (held_by s) ahead i) (held_by s) price met
      → y ≡ node (list_rule rule (held_by s) met.alone) 0 met.count

-- where the scan ends, that is the root that it finds
list-found : {work : List ℕ} {left right i : ℕ} {s : Verdict} {ahead : Bool} {price : ℕ}
    (rule far : ℕ) (alone : Bool)
    → Ends (prices_from (row_of work (cond (held_by s) right left)) (held_by s) ahead i)
    (prices_from (row_of work (cond (held_by s) left right)) (held_by s) ahead i) (held_by s) price far alone
    → (ahead ≡ false → far ≤ i) → i + far < 1024 → ((n : ℕ) → n ≤ far → step_from ahead i n < row_length)
    → ListFound work left right i s ahead price rule
    (node (list_rule rule (held_by s) alone) 0 (members_of (held_by s) far))
list-found {s} rule far alone ends back inside column = record {
  reached = record { far = far; back = back; inside = inside; column = column; meets = ends.meets };
  found = λ met a. let r = ends.found a in
      ap (λ b. node (list_rule rule (held_by s) b) 0 (members_of (held_by s) far)) (sym r.0)
      ∙ ap (λ k. node (list_rule rule (held_by s) met.alone) 0 k) (sym r.1);
}

module _ {cost : Cost} {weight : ℕ → ℕ} (by-atoms : ByAtoms cost weight) {frame : Frame} (law : Lawful frame)
    (exists : (f : Formula) (i : ℕ) → (us : List Node) × Least cost frame f i us) (work : List ℕ)
    (left right : ℕ) {f g : Formula} {i : ℕ} (column : i < row_length)
    (ca : (k : ℕ) → k ≤ i → CellFor cost frame f k (row_of work left k))
    (cb : (k : ℕ) → k ≤ i → CellFor cost frame g k (row_of work right k)) where
  back-column : (k : ℕ) → step_from false i k < row_length
  unfolding step_from
  back-column k = omega arith

  back-left : (s : Verdict) (k : ℕ) → 1 ≤ prices_from (row_of work left) (held_by s) false i k
  unfolding step_from
  back-left s k = part-some s (ca (i - k) (omega arith))

  back-right : (s : Verdict) (k : ℕ) → 1 ≤ prices_from (row_of work right) (held_by s) false i k
  unfolding step_from
  back-right s k = part-some s (cb (i - k) (omega arith))

  pub since-found : {y : Node} {ws : List Node} {s : Verdict} {price : ℕ} {needs : List Claim}
      → Least cost frame (since f g) i (y ∷ ws) → cost_of cost (y ∷ ws) ≡ price → price < cut_off
      → Rule frame (claim (since f g) i s) y needs → ListFound work left right i s false price 11 y
  unfolding members_of list_rule
  since-found l priced small (rule11 {n} le) =
      list-found 11 n false
      (first_ends law exists l priced small _ _ true 11 n (by-atoms.other 11 (omega arith))
      (λ k h. held-since i (row_of work left) (row_of work right) ca cb k (omega (arith, le, h)))
      (back-right Holds n) (λ k h. back-left Holds k) refl)
      (λ _. le) (omega arith) (λ k h. back-column k)
  since-found l priced small (rule12 {n = zero} some le) = absurd (omega (arith, some))
  since-found l priced small (rule12 {n = suc n} some le) =
      list-found 11 n false
      (first_ends law exists l priced small _ _ false 12 n (by-atoms.other 12 (omega arith))
      (λ k h. broken-since i (row_of work left) (row_of work right) ca cb k (omega (arith, le, h)))
      (back-left Violated n) (λ k h. back-right Violated k) refl)
      (λ _. omega (arith, le)) (omega (arith, le)) (λ k h. back-column k)
  since-found {price} l priced small (rule13 {n} e) =
      let all : suc i ≡ n = omega (arith, e) in
      subst (λ k. ListFound work left right i Violated false price 11 (node 13 0 k)) all
      (list-found 11 i true
      (alone-ends law exists l priced small _ _ false 12 i (by-atoms.other 12 (omega arith))
      (λ k h. broken-since i (row_of work left) (row_of work right) ca cb k h) (back-left Violated i)
      (λ k h. back-right Violated k) (by-atoms.other 13 (omega arith)) (ap (λ k. node 13 0 k) (sym all))
      (never-since i (row_of work right) cb))
      (λ _. omega arith) (omega arith) (λ k h. back-column k))

module _ {cost : Cost} {weight : ℕ → ℕ} (by-atoms : ByAtoms cost weight) {frame : Frame} {u v reach : ℕ}
    (w : Windowed frame u v reach) (work : List ℕ) (left right : ℕ) {f g : Formula} (i : ℕ)
    (some-window : i < window_end u v g i) (column : window_end u v g i ≤ row_length)
    (ca : (k : ℕ) → k < window_end u v g i → CellFor cost frame f k (row_of work left k))
    (cb : (k : ℕ) → k < window_end u v g i → CellFor cost frame g k (row_of work right k)) where
  ahead-column : (k : ℕ) → i + k < window_end u v g i → step_from true i k < row_length
  unfolding step_from
  ahead-column k h = omega (arith, h, column)

  ahead-left : (s : Verdict) (k : ℕ) → i + k < window_end u v g i
      → 1 ≤ prices_from (row_of work left) (held_by s) true i k
  unfolding step_from
  ahead-left s k h = part-some s (ca (i + k) h)

  ahead-right : (s : Verdict) (k : ℕ) → i + k < window_end u v g i
      → 1 ≤ prices_from (row_of work right) (held_by s) true i k
  unfolding step_from
  ahead-right s k h = part-some s (cb (i + k) h)

  pub until-found : {y : Node} {ws : List Node} {s : Verdict} {price : ℕ} {needs : List Claim}
      → Least cost frame (until f g) i (y ∷ ws) → cost_of cost (y ∷ ws) ≡ price → price < cut_off
      → InWindow u v (claim (until f g) i s) y → Rule frame (claim (until f g) i s) y needs
      → ListFound work left right i s true price 14 y
  unfolding members_of list_rule
  until-found l priced small near (rule14 {n}) =
      let in-it = near.ahead refl in
      list-found 14 n false
      (first_ends w.lawful (w.exists cost) l priced small _ _ true 14 n (by-atoms.other 14 (omega arith))
      (λ k h. held-until i (row_of work left) (row_of work right) k
      (λ j le. ca j (omega (arith, in-it, h, le)))
      (λ j le. cb j (omega (arith, in-it, h, le))))
      (ahead-right Holds n in-it) (λ k h. ahead-left Holds k (omega (arith, in-it, h))) refl)
      (λ e. absurd (false≢true (sym e))) (omega (arith, in-it, column))
      (λ k h. ahead-column k (omega (arith, in-it, h)))
  until-found l priced small near (rule15 {n = zero} some) = absurd (omega (arith, some))
  until-found l priced small near (rule15 {n = suc n} some) =
      let in-it : i + n < window_end u v g i = omega (arith, near.cut refl) in
      list-found 14 n false
      (first_ends w.lawful (w.exists cost) l priced small _ _ false 15 n
      (by-atoms.other 15 (omega arith))
      (λ k h. broken-until i (row_of work left) (row_of work right) k
      (λ j le. ca j (omega (arith, in-it, h, le))) (λ j le. cb j (omega (arith, in-it, h, le))))
      (ahead-left Violated n in-it) (λ k h. ahead-right Violated k (omega (arith, in-it, h))) refl)
      (λ e. absurd (false≢true (sym e))) (omega (arith, in-it, column))
      (λ k h. ahead-column k (omega (arith, in-it, h)))
  until-found l priced small near (rule16 {n = zero} e) =
      absurd (omega (arith, e, w.counts i (height Past g), some-window))
  until-found l priced small near (rule16 {n = suc n} e) =
      let in-it : i + n < window_end u v g i = omega (arith, e, w.counts i (height Past g)) in
      list-found 14 n true
      (alone-ends w.lawful (w.exists cost) l priced small _ _ false 15 n
      (by-atoms.other 15 (omega arith))
      (λ k h. broken-until i (row_of work left) (row_of work right) k
      (λ j le. ca j (omega (arith, in-it, h, le))) (λ j le. cb j (omega (arith, in-it, h, le))))
      (ahead-left Violated n in-it) (λ k h. ahead-right Violated k (omega (arith, in-it, h)))
      (by-atoms.other 16 (omega arith)) refl
      (never-until i (row_of work right) n (λ j le. cb j (omega (arith, in-it, le))) e))
      (λ q. absurd (false≢true (sym q))) (omega (arith, in-it, column))
      (λ k h. ahead-column k (omega (arith, in-it, h)))
