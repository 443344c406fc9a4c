-- Two answers of the node test coincide.
use mathlib.Core.Path.{◌≡◌, refl}
use mathlib.Core.Bool.{Bool}
use Rattle.trees.specs.declared.Node.{Node}
use Rattle.trees.specs.Rules.{Frame, Claim}
use Rattle.nodes.specs.inside.Tested.{Tested, fits, unfit}

pub tested-one : {frame : Frame} {c : Claim} {x : Node} (a b : Bool) → Tested frame c x a → Tested frame c x b
    → a ≡ b
tested-one a b (fits r) (fits s) = refl
tested-one a b (fits r) (unfit n) = absurd (n _ r)
tested-one a b (unfit n) (fits s) = absurd (n _ s)
tested-one a b (unfit n) (unfit m) = refl
