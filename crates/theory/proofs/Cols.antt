-- Positions stay small: below a root that looks no further than the window,
-- each part is asked below its own bound.
use Prim.Native.Nat.{ℕ, ◌+◌, ◌-◌, ◌<◌, ◌≤◌}
use mathlib.Core.Path.{refl, ◌∙◌}
use mathlib.Core.List.{List}
use native.Mathlib.Nat.{mul-le-mul_left, mul-add}
use native.Mathlib.Omega.{arith}
use Rattle.schedule.specs.Limits.{max_height}
use Rattle.rules.specs.Formula.{Formula, height}
use Rattle.rules.specs.declared.Side.TheVariants.{Past, Future}
use Rattle.trees.specs.declared.Node.{Node}
use Rattle.trees.specs.Rules.{Frame, Claim, claim, Rule}
use Rattle.trees.specs.declared.Verdict.{Verdict}
use Rattle.trees.specs.declared.Verdict.TheVariants.{Holds, Violated}
use Rattle.trees.proofs.Shapes.{PartOf, ahead, cut, through, Shape, behind, looks, shape_of}
use Rattle.theory.specs.inside.Threshold.{window_end}
use Rattle.theory.specs.inside.Cols.{InReach}
use Rattle.theory.proofs.Runs.{Each, also, each_both, run-each}
use Rattle.theory.proofs.Horizon.{InWindow}
use Rattle.theory.proofs.Windowed.{Windowed}

module _ {reach v : ℕ} {g : Formula} {i : ℕ} {s : Verdict} (a : InReach reach v (claim g i s)) where
  -- at the same position or an earlier one
  part_placed : (f : Formula) (k : ℕ) (t : Verdict) → PartOf 0 f g → k ≤ i → InReach reach v (claim f k t)
  part_placed f k t p le =
      let h : max_height - height Future g ≤ max_height - height Future f = omega arith in
      record { low = omega arith; near = omega (arith, mul-le-mul_left v h) }

  -- below an until, anywhere in the window of its right side r
  until-placed : (u : ℕ) → u ≤ reach → (r : Formula) → height Past r ≤ height Past g
      → (f : Formula) (k : ℕ) (t : Verdict) → PartOf 1 f g → k < window_end u v r i
      → InReach reach v (claim f k t)
  until-placed u fits r q f k t p lt =
      let h : max_height - height Future g + 1 ≤ max_height - height Future f = omega arith in
      let l : height Past r ≤ max_height - height Future g = omega arith in
      record {
        low = omega arith;
        near = omega (
          arith,
          mul-le-mul_left v h,
          mul-add v (max_height - height Future g) 1,
          mul-le-mul_left v l,
        );
      }

module _ {frame : Frame} {u v reach : ℕ} (w : Windowed frame u v reach) (fits : u ≤ reach) where
  shape-parts : {c : Claim} {x : Node} {needs : List Claim}
      → Shape frame c x needs → InWindow u v c x → InReach reach v c → Each (InReach reach v) needs
  shape-parts (behind fixed h k m from n t b) near a =
      each_both
      (run-each h t k fixed (λ j ge lt. part_placed a h j t b.first (omega (arith, b.one, b.place))))
      (run-each m t from n (λ j ge lt. part_placed a m j t b.member (omega (arith, b.last))))
  shape-parts (looks (ahead {f} {g} {i} {n})) near a =
      let inside = near.ahead refl in
      let placed = until-placed a u fits g (omega arith) in
      also (placed g (i + n) Holds (omega arith) inside)
      (run-each f Holds i n (λ k ge lt. placed f k Holds (omega arith) (omega arith)))
  shape-parts (looks (cut {f} {g} {i} {n} some)) near a =
      let inside = near.cut refl in
      let placed = until-placed a u fits g (omega arith) in
      also (placed f (i + n - 1) Violated (omega arith) (omega arith))
      (run-each g Violated i n (λ k ge lt. placed g k Violated (omega arith) (omega arith)))
  shape-parts (looks (through {f} {g} {i} {n} e)) near a =
      let count = e ∙ w.counts i (height Past g) in
      let placed = until-placed a u fits g (omega arith) in
      run-each g Violated i n (λ k ge lt. placed g k Violated (omega arith) (omega arith))

  pub cols-parts : {c : Claim} {x : Node} {needs : List Claim}
      → Rule frame c x needs → InWindow u v c x → InReach reach v c → Each (InReach reach v) needs
  cols-parts r near a = shape-parts (shape_of r) near a
