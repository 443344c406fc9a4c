-- When lengths are refused with 1, with 2 and not at all: the constructor's cases, a law a return.
use mathlib.Core.Path.{◌≡◌, refl}
use Prim.Native.Nat.{ℕ, ◌+◌, ◌<◌, ◌≤◌}
use native.Mathlib.Omega.{arith}
use borrow.Author.Tests.{lt-ltb, le-ltb, le-leb, lt-leb}
use Rattle.schedule.specs.Limits.{max_letters}
use Rattle.schedule.specs.Figures.{refusal}
use Rattle.schedule.specs.Tests.{AllPass, none, also, FirstFails, here, later}
use Rattle.schedule.specs.Lengths.{length_tests, Makes}
use Rattle.std.specs.Prelude.{Ok}

module _ (u v : ℕ) where
  pub refusal-1 : v ≡ 0 → FirstFails (length_tests u v) (refusal 1)
  refusal-1 e = here (le-ltb 0 v (omega (arith, e)))

  pub refusal-2 : (v ≡ 0 → ⊥) → max_letters < u + v → FirstFails (length_tests u v) (refusal 2)
  refusal-2 ne lt = later (lt-ltb 0 v (omega (arith, ne))) (here (lt-leb (u + v) max_letters lt))

  pub refusal-0 : (v ≡ 0 → ⊥) → u + v ≤ max_letters → AllPass (length_tests u v)
  refusal-0 ne le = also (lt-ltb 0 v (omega (arith, ne))) (also (le-leb (u + v) max_letters le) none)

  pub makes-ready : (v ≡ 0 → ⊥) → u + v ≤ max_letters → Makes u v (Ok (record { prefix = u; looped = v }))
  makes-ready ne le = (refusal-0 ne le, refl)

-- what the constructor's cases rest on
pub ruleset made = (refusal-1, refusal-2, makes-ready)
