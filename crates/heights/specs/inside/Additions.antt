-- What an operator of two parts adds to the greater height of them.
use Rattle.std.specs.Prelude.{ℕ}
use Rattle.rules.specs.Formula.{since_adds, until_adds}
use Rattle.rules.specs.declared.Side.{Side}
use Rattle.rules.specs.declared.Binary.{Binary}
use Rattle.rules.specs.declared.Binary.TheVariants.{Or, And, Since, Until}

abbrev pub adds_of : Side → Binary → ℕ
adds_of s Or = 0
adds_of s And = 0
adds_of s Since = since_adds s
adds_of s Until = until_adds s
