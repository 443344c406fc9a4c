-- What the search and the writer ask of a frame: windows given by two numbers,
-- past which the root of no least tree looks.
use Prim.Native.Nat.{ℕ, ◌+◌, ◌*◌, ◌<◌}
use mathlib.Core.Path.{◌≡◌, refl}
use mathlib.Core.List.{List, ◌∷◌, head-eq_of_cons-eq}
use native.Mathlib.Omega.{arith}
use Rattle.schedule.specs.Limits.{max_height}
use Rattle.rules.specs.Formula.{Formula}
use Rattle.trees.specs.declared.Node.{Node}
use Rattle.trees.specs.Rules.{Frame, Claim, claim, Rule}
use Rattle.trees.specs.Trees.{Tree}
use Rattle.trees.specs.Frames.{window_count}
use Rattle.trees.specs.Least.{Cost, Least}
use Rattle.trees.specs.declared.Verdict.{Verdict}
use Rattle.trees.proofs.Order.{at-antisymmetric}
use Rattle.theory.specs.inside.Words.{Repeats}
use Rattle.theory.specs.inside.Threshold.{window_end}
use Rattle.theory.specs.inside.Repeating.{repeat_frame}
use Rattle.theory.specs.inside.Level.{Level}
use Rattle.theory.specs.inside.Frames.{Lawful}
use Rattle.theory.specs.inside.LeastForests.{LeastForest}
use Rattle.theory.proofs.Sound.{repeats-lawful}
use Rattle.theory.proofs.Horizon.{InWindow, NearTree, inside}
use Rattle.theory.proofs.LeastExists.{least-exists}
use Rattle.theory.proofs.LeastParts.{LeastBelow, least-below, least-parts}

pub record Windowed (frame : Frame) (u v reach : ℕ) : Type 0 where
  -- rule 16 counts to the end of the window, which is not empty where positions are asked
  pub counts : (i h : ℕ) → frame.count i h ≡ window_count u v i h
  pub some : (g : Formula) (i : ℕ) → i < reach + v * max_height → i < window_end u v g i
  -- what is violated all through the window is violated for ever
  pub lawful : Lawful frame
  -- a witness past the window is never worth its way
  pub near : (cost : Cost) → Level cost → (c : Claim) (ws : List Node) → Tree frame c ws
      → NearTree cost frame (InWindow u v c) c ws
  -- there is a least tree
  pub exists : (cost : Cost) (f : Formula) (i : ℕ) → (us : List Node) × Least cost frame f i us

pub repeats-windowed : {word : ℕ → ℕ} {u v : ℕ} (reach : ℕ) → Repeats word u v
    → Windowed (repeat_frame word u v) u v reach
repeats-windowed reach w = record {
  counts = λ i h. refl;
  some = λ g i lt. omega (arith, w.some);
  lawful = repeats-lawful w;
  near = λ cost lv c ws t. inside lv w t;
  exists = λ cost f i. least-exists cost w f i;
}

module _ {frame : Frame} {u v reach : ℕ} (w : Windowed frame u v reach) {cost : Cost} where
  pub window-least-inside : Level cost
      → {f : Formula} {i : ℕ} {x : Node} {ws : List Node} (l : Least cost frame f i (x ∷ ws))
      → InWindow u v (claim f i l.verdict) x
  window-least-inside lv l =
      let a = w.near cost lv _ _ l.valid in
      rw (head-eq_of_cons-eq (at-antisymmetric a.before (l.least l.verdict _ a.tree))) at a.near

  pub window-least-below : {f : Formula} {i : ℕ} {x : Node} {ws : List Node}
      (l : Least cost frame f i (x ∷ ws)) → LeastBelow cost frame (claim f i l.verdict) x ws
  window-least-below = least-below w.lawful (w.exists cost)

  pub window-least-parts : {f : Formula} {i : ℕ} {s : Verdict} {x : Node} {needs : List Claim}
      {ws : List Node} → Rule frame (claim f i s) x needs → Least cost frame f i (x ∷ ws)
      → LeastForest cost frame needs ws
  window-least-parts = least-parts w.lawful (w.exists cost)

-- Of the endless frame: the root of a least tree looks no further than the window.
pub least-inside : {cost : Cost} → Level cost → {word : ℕ → ℕ} {u v : ℕ} → Repeats word u v
    → {f : Formula} {i : ℕ} {x : Node} {ws : List Node}
    → (l : Least cost (repeat_frame word u v) f i (x ∷ ws))
    → InWindow u v (claim f i l.verdict) x
least-inside lv w l = window-least-inside (repeats-windowed 0 w) lv l
