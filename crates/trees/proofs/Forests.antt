-- Forests join and part where their claims do: words for two lists of claims, one after the other,
-- are words for the joined list.
use Prim.Native.Nat.{ℕ, zero, suc, ◌+◌, ◌<◌}
use mathlib.Core.Path.{◌≡◌, refl, sym, ◌∙◌, ap}
use mathlib.Core.List.{List, [], ◌∷◌, ◌++◌, append-nil, append_assoc}
use native.Mathlib.Nat.{zero-add, suc-add, add-zero}
use native.Mathlib.Numerals.{add-one}
use native.Mathlib.Omega.{arith}
use lib.ListN.{length}
use Rattle.rules.specs.Formula.{Formula}
use Rattle.trees.specs.declared.Node.{Node}
use Rattle.trees.specs.Rules.{Frame, Claim, claim, run}
use Rattle.trees.specs.Trees.{Tree, grown, Forest, none, more}
use Rattle.trees.specs.declared.Verdict.{Verdict}

module _ {frame : Frame} where
  pub tree-some : {c : Claim} {ws : List Node} → Tree frame c ws → 0 < length ws
  tree-some (grown r fs) = omega arith

  pub forest-append : {cs ds : List Claim} {ws vs : List Node} → Forest frame cs ws → Forest frame ds vs
      → Forest frame (cs ++ ds) (ws ++ vs)
  forest-append none gs = gs
  forest-append (more t fs) gs = rw append_assoc (more t (forest-append fs gs))

  pub tree-alone : {c : Claim} {ws : List Node} → Tree frame c ws → Forest frame (c ∷ []) ws
  tree-alone t = rw append-nil at (more t none)

  pub alone-tree : {c : Claim} {ws : List Node} → Forest frame (c ∷ []) ws → Tree frame c ws
  alone-tree (more t none) = rw append-nil t

-- The words of a forest for the claims cs and then ds, parted where the trees for ds begin.
pub record Parted (frame : Frame) (cs ds : List Claim) (ws : List Node) : Type 0 where
  pub before : List Node
  pub after : List Node
  pub whole : ws ≡ before ++ after
  pub first : Forest frame cs before
  pub second : Forest frame ds after

module _ {frame : Frame} where
  pub forest-parts : (cs : List Claim) {ds : List Claim} {ws : List Node} → Forest frame (cs ++ ds) ws
      → Parted frame cs ds ws
  forest-parts [] fs = record { before = []; after = _; whole = refl; first = none; second = fs }
  forest-parts (c ∷ cs) (more {ws = us} t fs) =
      let p = forest-parts cs fs in
      record {
        before = us ++ p.before;
        after = p.after;
        whole = ap (λ l. us ++ l) p.whole ∙ sym (append_assoc us p.before p.after);
        first = more t p.first;
        second = p.second;
      }

-- a run of n + m is a run of n, and then one of m where the first ends
pub run-append : (f : Formula) (from n m : ℕ) (v : Verdict)
    → run f from (n + m) v ≡ run f from n v ++ run f (from + n) m v
run-append f from zero m v = rw (zero-add, add-zero)
run-append f from (suc n) m v =
    rw suc-add
    (ap (λ l. claim f from v ∷ l)
    (run-append f (suc from) n m v ∙ ap (λ k. run f (suc from) n v ++ run f k m v) (omega arith)))

pub run-snoc : (f : Formula) (from n : ℕ) (v : Verdict)
    → run f from (suc n) v ≡ run f from n v ++ claim f (from + n) v ∷ []
run-snoc f from n v = ap (λ k. run f from k v) (sym (add-one n)) ∙ run-append f from n 1 v
