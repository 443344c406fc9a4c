-- Lists of which only the beginning is kept: what is too long stays too long,
-- so write answers as it would for the whole lists.
use mathlib.Core.Path.{◌≡◌, refl, sym, subst, subst₂, ◌∙◌}
use mathlib.Core.Logic.{by_cases}
use mathlib.Core.List.{List, [], ◌∷◌}
use Prim.Native.Nat.{ℕ, ◌+◌, ◌<◌}
use native.Mathlib.Decide.{dec_le}
use native.Mathlib.Omega.{arith}
use borrow.Author.Tests.{lt-ltb}
use lib.Dec.{ltb}
use lib.ListN.{length, take, length-take}
use lib.Seq.{take_all}
use Rattle.schedule.specs.Limits.{max_letters, max_entries}
use Rattle.schedule.specs.Figures.{Figures}
use Rattle.asking.specs.Questions.{Question, question}
use Rattle.wording.specs.Wrote.{Wrote}
use Rattle.asking.proofs.Accepting.{count-many}
use Rattle.wording.proofs.Alike.{Alike, tables-alike, letters-alike, alike-wrote}

-- a loop that is cut is empty exactly if it was
some-kept : (loop : List ℕ) → ltb 0 (length (take 49 loop)) ≡ ltb 0 (length loop)
some-kept [] = refl
some-kept (x ∷ loop) =
    lt-ltb 0 (length (take 49 (x ∷ loop))) (omega arith) ∙ sym (lt-ltb 0 (length (x ∷ loop)) (omega arith))

module _ (prefix loop table : List ℕ) (e i : ℕ) where
  long-letters : max_letters < length prefix + length loop
      → Alike (question (take 49 prefix) (take 49 loop) (take 33 table) e i) (question prefix loop table e i)
  long-letters many =
      letters-alike (take 49 prefix) (take 49 loop) (take 33 table) (question prefix loop table e i) e i
      (some-kept loop) (omega (arith, many, length-take 49 prefix, length-take 49 loop)) many

  long-table : max_entries < length table
      → Alike (question prefix loop (take 33 table) e i) (question prefix loop table e i)
  long-table many =
      tables-alike prefix loop (take 33 table) table e i
      (count-many (length (take 33 table)) (omega (arith, many, length-take 33 table)))
      (count-many (length table) many)

  -- whatever is said of questions that are refused alike
  module _ (Said : Question → Type 0) (alike : (q p : Question) → Alike q p → Said q → Said p) where
    capped-table : Said (question prefix loop (take 33 table) e i) → Said (question prefix loop table e i)
    capped-table said = by_cases (dec_le (length table) max_entries)
        (λ le. subst (λ t. Said (question prefix loop t e i)) (take_all 33 table (omega (arith, le))) said)
        (λ gt. alike _ _ (long-table (omega (arith, gt))) said)

    capped : Said (question (take 49 prefix) (take 49 loop) (take 33 table) e i)
        → Said (question prefix loop table e i)
    capped said = by_cases (dec_le (length prefix + length loop) max_letters)
        (λ le. capped-table (subst₂ (λ p l. Said (question p l (take 33 table) e i))
        (take_all 49 prefix (omega (arith, le))) (take_all 49 loop (omega (arith, le))) said))
        (λ gt. alike _ _ (long-letters (omega (arith, gt))) said)

  pub capped-wrote : {work left tree tree_left : List ℕ} {r : Figures}
      → Wrote (question (take 49 prefix) (take 49 loop) (take 33 table) e i) work left tree tree_left r
      → Wrote (question prefix loop table e i) work left tree tree_left r
  capped-wrote {work} {left} {tree} {tree_left} {r} =
      capped (λ q. Wrote q work left tree tree_left r) (λ q p a. alike-wrote q p a)
