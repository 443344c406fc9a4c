-- A letter is below 2 ^ 32, so it has no bit past 31.
use mathlib.Core.Path.{◌≡◌, sym, ap}
use Prim.Native.Nat.{ℕ, ◌/◌, ◌%◌, ◌^◌, ◌<◌}
use native.Mathlib.Nat.{div-eq_of_lt, lt_of_lt_of_le}
use lib.Pow.{pow_mono}

pub no_bit : (letter atom : ℕ) → letter < 2 ^ 32 → 31 < atom → 0 ≡ letter / 2 ^ atom % 2
no_bit letter atom fits past = sym (ap (λ q. q % 2) (div-eq_of_lt (lt_of_lt_of_le fits (pow_mono past))))
