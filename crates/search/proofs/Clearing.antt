-- Clearing the work slice: what was filled in between does not show.
use mathlib.Core.Path.{◌≡◌, sym, ap, ◌∙◌}
use mathlib.Core.List.{List, ◌++◌}
use Prim.Native.Nat.{ℕ, ◌+◌, ◌-◌}
use native.Mathlib.Omega.{arith}
use lib.ListN.{length-drop, drop, replicate}
use lib.Seq.{get_or-drop, ext_get_or}
use Rattle.trees.specs.Rules.{Frame}
use Rattle.trees.specs.Least.{Cost}
use Rattle.search.specs.inside.Filling.{Fills}
use Rattle.schedule.specs.Buffers.{cleared}
use Rattle.schedule.specs.Limits.{work_length}

pub fills-cleared : {cost : Cost} {frame : Frame} {table : List ℕ} {reach v e : ℕ} {found left : List ℕ}
    → Fills cost frame table reach v e found left → cleared left ≡ cleared found
unfolding cleared
fills-cleared {found = found} {left} fills =
    ap (λ l. replicate work_length 0 ++ l)
    (ext_get_or 0 (drop work_length left) (drop work_length found)
    (length-drop work_length left ∙ ap (λ n. n - work_length) fills.same_length
    ∙ sym (length-drop work_length found))
    (λ i lt. get_or-drop work_length left i 0 ∙ fills.beyond (work_length + i) (omega arith)
    ∙ sym (get_or-drop work_length found i 0)))
