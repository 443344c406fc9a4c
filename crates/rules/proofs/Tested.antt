-- What is tested of all entries, entry by entry.
use mathlib.Core.Path.{◌≡◌}
use mathlib.Core.Bool.{true}
use mathlib.Core.List.{List}
use mathlib.Core.Logic.{◌↔◌}
use Prim.Native.Nat.{ℕ, ◌<◌}
use lib.ListN.{length}
use Rattle.rules.specs.Tables.{kept_at, keeps_all}
use Rattle.rules.specs.Low.{low_at, low_all}
use Rattle.rules.proofs.Below.{all-exact}

-- Refusal 4 is not given exactly if every entry keeps the kind table,
-- and 5 exactly if every entry's heights are low.
pub keeps-exact : (table : List ℕ)
    → (keeps_all table ≡ true) ↔ ((e : ℕ) → e < length table → kept_at table e ≡ true)
unfolding keeps_all
keeps-exact table = all-exact (kept_at table) (length table)

pub low-exact : (table : List ℕ)
    → (low_all table ≡ true) ↔ ((e : ℕ) → e < length table → low_at table e ≡ true)
unfolding low_all
low-exact table = all-exact (low_at table) (length table)
