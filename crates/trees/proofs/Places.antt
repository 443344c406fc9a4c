-- Words that are a forest for their claims break off nowhere, others at one place at most; whole trees in
-- front move it by their length.
use Prim.Native.Nat.{ℕ, suc, ◌+◌, ◌≤◌}
use mathlib.Core.Path.{◌≡◌, refl, ap}
use mathlib.Core.List.{List, ◌∷◌, ◌++◌, append_assoc}
use native.Mathlib.Nat.{zero-add, suc-add}
use native.Mathlib.Omega.{arith}
use lib.ListN.{length}
use Rattle.trees.specs.declared.Node.{Node}
use Rattle.trees.specs.Rules.{Frame, Claim}
use Rattle.trees.specs.Trees.{Tree, grown, Forest}
use Rattle.trees.specs.Place.{Breaks, wrong, missing, leftover, later}
use Rattle.trees.proofs.Needs.{needs-one}
use Rattle.trees.proofs.Laid.{Laid, done, laid, forest-laid}

module _ {frame : Frame} where
  laid-after : {ds cs : List Claim} {ws vs : List Node} {p : ℕ}
      → Laid frame ds ws → Breaks frame cs vs p → Breaks frame (ds ++ cs) (ws ++ vs) (length ws + p)
  laid-after done b = rw zero-add b
  laid-after (laid r l) b = rw suc-add (later r (rw append_assoc at (laid-after l b)))

  pub breaks-after : {ds cs : List Claim} {ws vs : List Node} {p : ℕ}
      → Forest frame ds ws → Breaks frame cs vs p → Breaks frame (ds ++ cs) (ws ++ vs) (length ws + p)
  breaks-after fs = laid-after (forest-laid fs)

  pub breaks-past : {c : Claim} {cs : List Claim} {ws vs : List Node} {p : ℕ}
      → Tree frame c ws → Breaks frame cs vs p → Breaks frame (c ∷ cs) (ws ++ vs) (length ws + p)
  breaks-past (grown r fs) b = rw suc-add (later r (breaks-after fs b))

  pub breaks-within : {cs : List Claim} {ws : List Node} {p : ℕ} → Breaks frame cs ws p → p ≤ length ws
  breaks-within (wrong n) = omega arith
  breaks-within missing = omega arith
  breaks-within leftover = omega arith
  breaks-within (later r b) = omega (arith, breaks-within b)

  pub breaks-one : {cs : List Claim} {ws : List Node} {p q : ℕ} → Breaks frame cs ws p → Breaks frame cs ws q
      → p ≡ q
  breaks-one (wrong n) (wrong m) = refl
  breaks-one (wrong n) (later s d) = absurd (n _ s)
  breaks-one missing missing = refl
  breaks-one leftover leftover = refl
  breaks-one (later r b) (wrong m) = absurd (m _ r)
  breaks-one (later r b) (later s d) = ap suc (breaks-one b (rw (needs-one s r) at d))

  laid-or-breaks : {cs : List Claim} {ws : List Node} {p : ℕ} → Laid frame cs ws → Breaks frame cs ws p → ⊥
  laid-or-breaks {p = p} done b = elim b [ ]
  laid-or-breaks (laid r l) (wrong n) = n _ r
  laid-or-breaks (laid r l) (later s b) = laid-or-breaks l (rw (needs-one s r) at b)

  pub forest-or-breaks : {cs : List Claim} {ws : List Node} {p : ℕ} → Forest frame cs ws
      → Breaks frame cs ws p → ⊥
  forest-or-breaks fs = laid-or-breaks (forest-laid fs)
