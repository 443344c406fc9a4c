-- Two answers of the walk coincide.
use Prim.Native.Nat.{ℕ}
use mathlib.Core.Path.{◌≡◌, sym, ap, ◌∙◌}
use mathlib.Core.List.{List, []}
use native.Mathlib.Omega.{arith}
use Rattle.std.specs.Prelude.{Result, Ok, Err}
use lib.ListN.{length, drop}
use lib.Seq.{slice, length-slice}
use Rattle.trees.specs.declared.Node.{Node}
use Rattle.trees.specs.Rules.{Frame, Claim}
use Rattle.walks.specs.inside.Walks.{Walks}
use Rattle.walks.specs.declared.Broken.{Broken}
use Rattle.trees.proofs.Places.{breaks-one}
use Rattle.trees.proofs.Beginnings.{tree-first}
use Rattle.walks.proofs.Walked.{slice-drop}

module _ (frame : Frame) (c : Claim) (nodes : List Node) (at : ℕ) where
  -- both trees begin the words from the place on, so neither is longer
  next_one : (k j : ℕ) → Walks frame c nodes at (Ok k) → Walks frame c nodes at (Ok j) → k ≡ j
  next_one k j w z = omega (
    arith,
    w.0,
    z.0,
    length-slice at k nodes w.1,
    length-slice at j nodes z.1,
    ap length same,
  )
    where
      same : slice at k nodes ≡ slice at j nodes
      same =
          tree-first w.2 z.2 (drop k nodes) (drop j nodes)
          (slice-drop nodes at k (omega (arith, w.0)) w.1
          ∙ sym (slice-drop nodes at j (omega (arith, z.0)) z.1))

  bad-one : (p q : Broken) → Walks frame c nodes at (Err p) → Walks frame c nodes at (Err q) → p ≡ q
  bad-one p q w z = λ j. record { place = one j }
    where
      one : p.place ≡ q.place
      one = omega (arith, w.0, z.0, breaks-one (w.2 []) (z.2 []))

  pub walk-one : (r s : Result ℕ Broken) → Walks frame c nodes at r → Walks frame c nodes at s → r ≡ s
  walk-one (Ok k) (Ok j) w z = ap Ok (next_one k j w z)
  walk-one (Ok k) (Err q) w z = absurd (z.3 k w.1 w.2)
  walk-one (Err p) (Ok j) w z = absurd (w.3 j z.1 z.2)
  walk-one (Err p) (Err q) w z = ap Err (bad-one p q w z)
