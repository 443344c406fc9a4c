-- The constant table of the sixteen rules beside their signs: formula kind and number of fixed parts of each.
use Rattle.std.specs.Prelude.{ℕ, ◌-◌, List, [], ◌∷◌, get_or}
use Rattle.trees.specs.declared.Kind.{Kind}
use Rattle.trees.specs.declared.Kind.TheVariants.{Atom, Not, Or, And, Since, Until}

-- 0 atom, 1 not, 2 or, 3 and, 4 since, 5 until.
abbrev pub kinds : List ℕ
kinds = 0 ∷ 0 ∷ 1 ∷ 1 ∷ 2 ∷ 2 ∷ 2 ∷ 3 ∷ 3 ∷ 3 ∷ 4 ∷ 4 ∷ 4 ∷ 5 ∷ 5 ∷ 5 ∷ []

-- The parts that stand before the list, or are all there are.
abbrev pub fixed_parts : List ℕ
fixed_parts = 0 ∷ 0 ∷ 1 ∷ 1 ∷ 1 ∷ 1 ∷ 2 ∷ 2 ∷ 1 ∷ 1 ∷ 1 ∷ 1 ∷ 0 ∷ 1 ∷ 1 ∷ 0 ∷ []

-- The number of a kind.
abbrev pub kind_number : Kind → ℕ
kind_number Atom = 0
kind_number Not = 1
kind_number Or = 2
kind_number And = 3
kind_number Since = 4
kind_number Until = 5

abbrev pub rule_kind : ℕ → ℕ
rule_kind r = get_or kinds (r - 1) 0

abbrev pub rule_fixed : ℕ → ℕ
rule_fixed r = get_or fixed_parts (r - 1) 0
