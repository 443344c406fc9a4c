-- A forest read word by word, as a walk meets it: each node adds its needs in front of the claims that are
-- left, and at the end none is left.
use mathlib.Core.List.{List, [], ◌∷◌, ◌++◌, append-nil, append_assoc}
use Rattle.trees.specs.declared.Node.{Node}
use Rattle.trees.specs.Rules.{Frame, Claim, Rule}
use Rattle.trees.specs.Trees.{grown, Forest, none, more}
use Rattle.trees.proofs.Forests.{forest-parts}

pub data Laid (frame : Frame) : List Claim → List Node → Type 0 where
  done : Laid frame [] []
  laid : {c : Claim} {cs needs : List Claim} {x : Node} {ws : List Node}
      → Rule frame c x needs → Laid frame (needs ++ cs) ws → Laid frame (c ∷ cs) (x ∷ ws)

module _ {frame : Frame} where
  lay : {ds : List Claim} {ws : List Node} → Forest frame ds ws
      → (cs : List Claim) (vs : List Node) → Laid frame cs vs → Laid frame (ds ++ cs) (ws ++ vs)
  lay fs = elim fs
      as (λ c ws t. (cs : List Claim) (vs : List Node) → Laid frame cs vs → Laid frame (c ∷ cs) (ws ++ vs))
      (λ ds ws f. (cs : List Claim) (vs : List Node) → Laid frame cs vs → Laid frame (ds ++ cs) (ws ++ vs)) [
        | grown r (fs → h) ↦ λ cs vs l. laid r (h cs vs l)
        | none ↦ λ cs vs l. l
        | more (t → h) (fs → k) ↦ λ cs vs l. rw append_assoc (h _ _ (k cs vs l))
      ]

  pub forest-laid : {cs : List Claim} {ws : List Node} → Forest frame cs ws → Laid frame cs ws
  forest-laid fs = simp append-nil at (lay fs [] [] done)

  pub laid-forest : {cs : List Claim} {ws : List Node} → Laid frame cs ws → Forest frame cs ws
  laid-forest done = none
  laid-forest (laid {needs} r l) =
      let p = forest-parts needs (laid-forest l) in
      rw p.whole (more (grown r p.first) p.second)
