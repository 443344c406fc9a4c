-- A node of a tree, and the word that it is written as: rule × 16,777,216 + atom × 65,536 + number.
use Rattle.std.specs.Prelude.{ℕ, ◌/◌, ◌%◌}
use Rattle.trees.specs.declared.Node.{Node}

abbrev pub node : ℕ → ℕ → ℕ → Node
node r a n = record { rule = r; atom = a; number = n }

-- The fields of a word. So atom stays below 256 and number below 65,536.
abbrev pub node_of : ℕ → Node
node_of w = node (w / 16777216) (w / 65536 % 256) (w % 65536)
