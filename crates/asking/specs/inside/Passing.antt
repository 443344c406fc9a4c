-- That all tests pass has one proof at most.
use mathlib.Core.Bool.{Bool-set}
use Rattle.std.specs.Prelude.{List, [], ◌∷◌}
use Rattle.schedule.specs.Tests.{Test, AllPass, none, also}

pub all_pass_prop : (ts : List Test) → IsProp (AllPass ts)
all_pass_prop [] none none = λ _. none
all_pass_prop (t ∷ ts) (also p ps) (also q qs) = λ k. also (Bool-set _ _ p q k) (all_pass_prop ts ps qs k)
