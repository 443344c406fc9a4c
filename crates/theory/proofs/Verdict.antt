-- A formula has valid trees of one verdict alone at a position, and none of them, of whatever verdict,
-- is a proper beginning of another.
use Prim.Native.Nat.{ℕ, ◌<◌}
use mathlib.Core.Path.{◌≡◌, sym, ◌∙◌}
use mathlib.Core.List.{List, [], ◌++◌, append-nil, append_cancel_left}
use lib.ListN.{length}
use Rattle.rules.specs.Formula.{Formula}
use Rattle.trees.specs.declared.Node.{Node}
use Rattle.trees.specs.Rules.{Frame, claim}
use Rattle.trees.specs.Trees.{Tree}
use Rattle.trees.specs.Frames.{schedule_frame}
use Rattle.trees.specs.declared.Verdict.{Verdict}
use Rattle.trees.specs.declared.Verdict.TheVariants.{Holds, Violated}
use Rattle.trees.proofs.Beginnings.{either_first}
use Rattle.theory.specs.inside.Frames.{Lawful}
use Rattle.theory.proofs.Sound.{sound, schedule-lawful}

module _ {frame : Frame} {f : Formula} {i : ℕ} {ws vs : List Node} where
  pub one-verdict : Lawful frame → Tree frame (claim f i Holds) ws → Tree frame (claim f i Violated) vs → ⊥
  one-verdict law t s = sound law s (sound law t)

  -- This needs no law: the first node tells the verdict.
  pub no-proper-beginning : {p q : Verdict} → Tree frame (claim f i p) ws → Tree frame (claim f i q) vs
      → (a : List Node) → ws ++ a ≡ vs → a ≡ []
  no-proper-beginning t s a e =
      let same = either_first t s a [] (e ∙ sym (append-nil vs)) in
      append_cancel_left ws a [] (e ∙ sym same ∙ sym (append-nil ws))

pub schedule-one-verdict : (prefix loop : List ℕ) → 0 < length loop
    → {f : Formula} {i : ℕ} {ws vs : List Node} → Tree (schedule_frame prefix loop) (claim f i Holds) ws
    → Tree (schedule_frame prefix loop) (claim f i Violated) vs → ⊥
schedule-one-verdict prefix loop some = one-verdict (schedule-lawful prefix loop some)
