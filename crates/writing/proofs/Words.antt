-- The word of a root: its fields are those of the node.
use mathlib.Core.Path.{◌≡◌}
use Prim.Native.Nat.{ℕ, ◌+◌, ◌*◌, ◌<◌, ◌/◌, ◌%◌}
use native.Mathlib.Omega.{arith}
use Rattle.trees.specs.Nodes.{node, node_of}

pub word-node : (r a n : ℕ) → r < 256 → a < 256 → n < 65536
    → node_of (r * 16777216 + a * 65536 + n) ≡ node r a n
word-node r a n rl al nl =
    let w = r * 16777216 + a * 65536 + n in
    let rule : w / 16777216 ≡ r = omega arith in
    let atom : w / 65536 % 256 ≡ a = omega arith in
    let number : w % 65536 ≡ n = omega arith in
    λ i. node (rule i) (atom i) (number i)
