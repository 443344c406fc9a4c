-- No count and no position in a least tree is above 496, if it is asked below its bound.
use Prim.Native.Nat.{ℕ, ◌+◌, ◌-◌, ◌≤◌}
use mathlib.Core.Path.{refl, ◌∙◌}
use mathlib.Core.List.{List}
use native.Mathlib.Nat.{mul-le-mul_left}
use native.Mathlib.Omega.{arith}
use Rattle.schedule.specs.Limits.{max_letters, max_height}
use Rattle.rules.specs.Formula.{Formula, height}
use Rattle.rules.specs.declared.Side.TheVariants.{Past, Future}
use Rattle.trees.specs.declared.Node.{Node}
use Rattle.trees.specs.Rules.{Frame, Claim, claim}
use Rattle.trees.specs.Least.{Cost, Least}
use Rattle.trees.proofs.Shapes.{ahead, cut, through, Shape, behind, looks, shape_of}
use Rattle.theory.specs.inside.Threshold.{window_end}
use Rattle.theory.specs.inside.Level.{Level}
use Rattle.theory.specs.inside.Cols.{InReach}
use Rattle.theory.proofs.Horizon.{InWindow}
use Rattle.theory.proofs.Windowed.{Windowed}
use Rattle.theory.proofs.Cols.{cols-parts}
use Rattle.theory.proofs.LeastNodes.{EachNode, least-nodes}

pub record SmallNumber (x : Node) : Type 0 where
  pub small : x.number ≤ 496

-- 256 and at most five laps
pub position-small : {reach v : ℕ} {c : Claim} → InReach reach v c → reach ≤ 256 → v ≤ max_letters
    → c.position ≤ 495
position-small {v = v} {c} a short fits =
    let h : max_height - height Future c.formula ≤ max_height = omega arith in
    omega (arith, mul-le-mul_left v h)

-- a window is no longer than the prefix, the laps up to its threshold and one more
window-small : (u v : ℕ) → u + v ≤ max_letters → (g : Formula) (i : ℕ) → height Past g ≤ max_height
    → window_end u v g i ≤ i + 288
window-small u v fits g i low = omega (arith, mul-le-mul_left v low)

module _ {frame : Frame} {u v reach : ℕ} (w : Windowed frame u v reach)
    (fits : u + v ≤ max_letters) (from : u ≤ reach) (short : reach ≤ 256) where
  number_small : {c : Claim} {x : Node} {needs : List Claim}
      → Shape frame c x needs → InWindow u v c x → InReach reach v c → SmallNumber x
  number_small (behind fixed h k m first n t b) near a =
      omega (arith, b.number, position-small a short (omega arith))
  number_small (looks (ahead {g} {i})) near a =
      omega (arith, near.ahead refl, window-small u v fits g i (omega arith))
  number_small (looks (cut {g} {i} some)) near a =
      omega (arith, near.cut refl, window-small u v fits g i (omega arith))
  number_small (looks (through {g} {i} e)) near a =
      omega (arith, e ∙ w.counts i (height Past g), window-small u v fits g i (omega arith))

  pub least-small : {cost : Cost} → Level cost
      → {f : Formula} {i : ℕ} {ws : List Node} (l : Least cost frame f i ws)
      → InReach reach v (claim f i l.verdict) → EachNode SmallNumber ws
  least-small lv l a =
      least-nodes lv w
      (λ c x needs r near. number_small (shape_of r) near) (λ c x needs r near. cols-parts w from r near) l a
