-- Two results that meet the writer's contract coincide: the place behind the tree and the whole buffer.
use mathlib.Core.Path.{◌≡◌, sym, ap, ◌∙◌}
use mathlib.Core.List.{List}
use Prim.Native.Nat.{ℕ, ◌+◌}
use lib.ListN.{length}
use Rattle.rules.specs.Formula.{Formula}
use Rattle.trees.specs.Rules.{Frame}
use Rattle.trees.specs.Least.{Cost}
use Rattle.trees.proofs.Order.{least-one}
use Rattle.trees.proofs.WordOrder.{words-one}
use Rattle.schedule.specs.Buffers.{put}
use Rattle.writing.specs.inside.Writes.{Writes}

pub writes_one : {cost : Cost} {frame : Frame} {f : Formula} {i at : ℕ} {found left left' : List ℕ}
    {next next' : ℕ} → Writes cost frame f i at found left next → Writes cost frame f i at found left' next'
    → (left ≡ left') × (next ≡ next')
writes_one {at = at} {found} a b =
    let same = words-one a.words b.words (least-one a.least b.least) in (
      a.leaves ∙ ap (λ ws. put at ws found) same ∙ sym b.leaves,
      a.ends ∙ ap (λ ws. at + length ws) same ∙ sym b.ends,
    )
