-- Two results that meet a function's contract coincide.
use mathlib.Core.Path.{◌≡◌}
use mathlib.Core.Bool.{Bool}
use mathlib.Core.List.{List}
use Prim.Native.Nat.{ℕ}
use Rattle.schedule.proofs.Determined.{equal-one}
use Rattle.rules.specs.Entries.{entry_of}
use Rattle.rules.specs.Tables.{entry_at, keeps_all}
use Rattle.rules.specs.inside.Records.{table_of}
use Rattle.rules.specs.declared.Entry.{Entry}
use Rattle.rules.specs.declared.Table.{Table}

pub entry-of-one : (i w : ℕ) (a b : Entry) → a ≡ entry_of i w → b ≡ entry_of i w → a ≡ b
entry-of-one i w a b p q = equal-one p q

pub table-read-one : (list : List ℕ) (r s : Table) → r ≡ table_of list → s ≡ table_of list → r ≡ s
table-read-one list r s p q = equal-one p q

pub keeps-one : (table : List ℕ) (r s : Bool) → r ≡ keeps_all table → s ≡ keeps_all table → r ≡ s
keeps-one table r s p q = equal-one p q

pub entry-at-one : (table : List ℕ) (e : ℕ) (a b : Entry) → a ≡ entry_at table e → b ≡ entry_at table e
    → a ≡ b
entry-at-one table e a b p q = equal-one p q
