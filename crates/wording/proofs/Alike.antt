-- Two questions of which the one is refused just as the other: what is answered to the one
-- is then answered to the other.
use mathlib.Core.Path.{◌≡◌, sym, ◌∙◌}
use mathlib.Core.Bool.{false, ◌&&◌, true≢false}
use mathlib.Core.Logic.{◌⊎◌, inl, inr}
use mathlib.Core.List.{List, ◌++◌}
use Prim.Native.Nat.{ℕ, ◌+◌, ◌<◌}
use borrow.Author.Tests.{lt-leb}
use lib.Dec.{leb, ltb}
use lib.ListN.{length}
use Rattle.schedule.specs.Limits.{max_letters, max_entries}
use Rattle.schedule.specs.Figures.{Figures}
use Rattle.schedule.specs.Tests.{Test, AllPass, also, FirstFails, here, later}
use Rattle.schedule.specs.Lengths.{length_tests}
use Rattle.schedule.proofs.Tests.{fails-front, fails-behind, fails-where, passes-front, passes-behind}
use Rattle.asking.specs.Questions.{Question, question, table_tests, question_tests, length_test, work_tests}
use Rattle.finding.specs.Worked.{Worked}
use Rattle.wording.specs.Wrote.{Wrote}

-- The first is refused, and whatever refuses it refuses the second.
pub record Alike (q p : Question) : Type 0 where
  pub first : {r : Figures} → FirstFails (question_tests q) r → FirstFails (question_tests p) r
  pub never : AllPass (question_tests q) → ⊥

module _ (q p : Question) (alike : Alike q p) where
  -- whatever tests come behind
  first-behind : (us : List Test) {r : Figures} → FirstFails (question_tests q ++ us) r
      → FirstFails (question_tests p ++ us) r
  first-behind us f = by (fails-where us (question_tests q) f)
    where
      by : {r : Figures} → FirstFails (question_tests q) r ⊎ (AllPass (question_tests q) × FirstFails us r)
          → FirstFails (question_tests p ++ us) r
      by (inl a) = fails-front us (alike.first a)
      by (inr b) = absurd (alike.never b.0)

  alike-worked : {found left : List ℕ} {A B : Figures → Type 0} {r : Figures} → Worked q found left A r
      → Worked p found left B r
  unfolding work_tests
  alike-worked {found} (Worked.refused f l) = Worked.refused (first-behind (length_test (length found)) f) l
  alike-worked {found} (Worked.answered ps l a) =
      absurd (alike.never (passes-front (length_test (length found)) (question_tests q) ps))

  pub alike-wrote : {found left tree tree_left : List ℕ} {r : Figures} → Wrote q found left tree tree_left r
      → Wrote p found left tree tree_left r
  alike-wrote w = record { answer = alike-worked w.answer; untouched = w.untouched }

-- Two tables that both have no entry or too many.
pub tables-alike : (prefix loop table list : List ℕ) (e i : ℕ)
    → (ltb 0 (length table) && leb (length table) max_entries) ≡ false
    → (ltb 0 (length list) && leb (length list) max_entries) ≡ false
    → Alike (question prefix loop table e i) (question prefix loop list e i)
unfolding question_tests
tables-alike prefix loop table list e i bad worse = record {
  first = λ f. by (fails-where (table_tests table e i) lengths f);
  never = λ ps. passes-not (passes-behind (table_tests table e i) lengths ps);
}
  where
    lengths : List Test
    lengths = length_tests (length prefix) (length loop)

    by : {r : Figures} → FirstFails lengths r ⊎ (AllPass lengths × FirstFails (table_tests table e i) r)
        → FirstFails (lengths ++ table_tests list e i) r
    by (inl a) = fails-front (table_tests list e i) a
    by (inr (ps, here f)) = fails-behind ps (here worse)
    by (inr (ps, later p a)) = absurd (true≢false (sym p ∙ bad))

    passes-not : AllPass (table_tests table e i) → ⊥
    passes-not (also p ps) = true≢false (sym p ∙ bad)

-- Two schedules that both have too many letters, with a loop or without.
pub letters-alike : (prefix loop table : List ℕ) (q : Question) (e i : ℕ)
    → ltb 0 (length loop) ≡ ltb 0 (length q.loop) → max_letters < length prefix + length loop
    → max_letters < length q.prefix + length q.loop → Alike (question prefix loop table e i) q
unfolding question_tests
letters-alike prefix loop table q e i same many more = record { first = by; never = passes-not }
  where
    over : leb (length prefix + length loop) max_letters ≡ false
    over = lt-leb (length prefix + length loop) max_letters many

    by : {r : Figures} → FirstFails (length_tests (length prefix) (length loop) ++ table_tests table e i) r
        → FirstFails (question_tests q) r
    by (here f) = here (sym same ∙ f)
    by (later p (here f)) =
        later (sym same ∙ p) (here (lt-leb (length q.prefix + length q.loop) max_letters more))
    by (later p (later o f)) = absurd (true≢false (sym o ∙ over))

    passes-not : AllPass (length_tests (length prefix) (length loop) ++ table_tests table e i) → ⊥
    passes-not (also p (also o ps)) = true≢false (sym o ∙ over)
