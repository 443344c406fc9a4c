-- Heights within the limit: the two of an entry add up to at most 5.
use Rattle.std.specs.Prelude.{ℕ, ◌+◌, Bool, List, leb, length}
use Rattle.schedule.specs.Limits.{max_height}
use Rattle.rules.specs.Formula.{height}
use Rattle.rules.specs.Tables.{formula_of, all_below}
use Rattle.rules.specs.declared.Side.TheVariants.{Past, Future}

unfoldable pub low_at : List ℕ → ℕ → Bool
low_at table e = leb (height Past (formula_of table e) + height Future (formula_of table e)) max_height

unfoldable pub low_all : List ℕ → Bool
low_all table = all_below (length table) (low_at table)
