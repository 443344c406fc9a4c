-- The word of a schedule repeats from the end of its prefix on, with the length of its loop for the lap.
use Prim.Native.Nat.{ℕ, ◌+◌, ◌-◌, ◌%◌, ◌<◌, ◌≤◌}
use mathlib.Core.Path.{◌≡◌, sym, ◌∙◌, ap}
use mathlib.Core.List.{List}
use native.Mathlib.Nat.{add-mod_right}
use native.Mathlib.Omega.{arith}
use lib.ListN.{length, get_or}
use Rattle.schedule.specs.Letters.{letter_at}
use Rattle.schedule.proofs.Views.{letter-looping}
use Rattle.theory.specs.inside.Words.{Repeats}

-- a lap later the same letter of the loop is in force
remainder-again : (u v k : ℕ) → u ≤ k → (k + v - u) % v ≡ (k - u) % v
remainder-again u v k le = ap (λ n. n % v) (omega arith) ∙ add-mod_right (k - u) v

pub schedule-repeats : (prefix loop : List ℕ) → 0 < length loop
    → Repeats (letter_at prefix loop) (length prefix) (length loop)
schedule-repeats prefix loop some = record {
  some = some;
  again = λ k le.
      letter-looping prefix loop (k + length loop) (omega arith)
      ∙ ap (λ n. get_or loop n 0) (remainder-again (length prefix) (length loop) k le)
      ∙ sym (letter-looping prefix loop k le);
}
