-- The record's words as a list over zeros, that they are the list's, and that they have their places.
use mathlib.Core.Path.{◌≡◌, sym, ap, ap₂, subst, ◌∙◌}
use mathlib.Core.List.{List, ◌++◌}
use Prim.Native.Nat.{ℕ, zero, suc, ◌-◌, ◌≤◌}
use native.Mathlib.Nat.{sub-zero, zero-sub, suc-sub-suc}
use lib.ListN.{length, take, drop, replicate}
use lib.Seq.{take-append_seam}
use Rattle.schedule.specs.Limits.{max_entries}
use Rattle.rules.specs.declared.Table.{Table}
use Rattle.rules.specs.inside.Records.{table_of}

drop-replicate : (k n : ℕ) → drop {A = ℕ} k (replicate n 0) ≡ replicate (n - k) 0
drop-replicate zero n = simp sub-zero
drop-replicate (suc k) zero = simp zero-sub
drop-replicate (suc k) (suc n) = simp (drop-replicate k n, suc-sub-suc)

pub copied : (list front : List ℕ) → front ≡ list
    → record { words = front ++ drop (length list) (replicate max_entries 0); len = length list }
    ≡ table_of list
copied list front p =
    let q = ap₂ (λ a b. a ++ b) p (drop-replicate (length list) max_entries) in
    λ i. record { words = q i; len = length list }

pub words-read : (list : List ℕ) (t : Table) → t ≡ table_of list → take t.len t.words ≡ list
words-read list t read =
    ap (λ x. take x.len x.words) read ∙ take-append_seam list (replicate (max_entries - length list) 0)

-- What `Table::holding` answers counts no more words than its array has places.
pub record-few : (list : List ℕ) → length list ≤ max_entries → (t : Table) → t ≡ table_of list
    → t.len ≤ max_entries
record-few list few t read = subst (λ x. x.len ≤ max_entries) (sym read) few
