-- Two answers of an entry point that works in a lent slice: refused together with the slice as found, or
-- answered together with it cleared.
use mathlib.Core.Path.{◌≡◌, sym, ◌∙◌}
use mathlib.Core.List.{List}
use Prim.Native.Nat.{ℕ}
use lib.ListN.{length}
use Rattle.schedule.specs.Figures.{Figures}
use Rattle.schedule.specs.Tests.{AllPass}
use Rattle.schedule.proofs.Tests.{fails-one, fails-or-passes}
use Rattle.asking.specs.Questions.{Question, work_tests}
use Rattle.finding.specs.Worked.{Worked, refused, answered}
use Rattle.asking.proofs.Numbers.{work-some}

module _ {q : Question} {found left : List ℕ} {Answered : Figures → Type 0} {r : Figures} where
  pub worked-either : {C : Type 0} {left' : List ℕ} {Answered' : Figures → Type 0} {s : Figures}
      → (r ≡ s → left ≡ left' → C)
      → (AllPass (work_tests q (length found)) → left ≡ left' → Answered r → Answered' s → C)
      → Worked q found left Answered r → Worked q found left' Answered' s → C
  worked-either same both (refused f l) (refused g k) = same (fails-one f g) (l ∙ sym k)
  worked-either same both (refused f l) (answered p k b) = absurd (fails-or-passes f p)
  worked-either same both (answered p l a) (refused g k) = absurd (fails-or-passes g p)
  worked-either same both (answered p l a) (answered _ k b) = both p (l ∙ sym k) a b

  -- where the answers agree, the figures do, and the slices too
  pub worked-alike : {left' : List ℕ} {Answered' : Figures → Type 0} {s : Figures}
      → (Answered r → Answered' s → r ≡ s) → Worked q found left Answered r → Worked q found left' Answered' s
      → (r ≡ s) × (left ≡ left')
  worked-alike alike = worked-either (λ p l. (p, l)) (λ _ l a b. (alike a b, l))

  -- past the refusals, and at number 0, there is an answer
  pub worked-answer : AllPass (work_tests q (length found)) → Worked q found left Answered r → Answered r
  worked-answer passed (refused f l) = absurd (fails-or-passes f passed)
  worked-answer passed (answered p l a) = a

  pub worked-passed : r.number ≡ 0 → Worked q found left Answered r → AllPass (work_tests q (length found))
  worked-passed zero (refused f l) = absurd (work-some q (length found) f zero)
  worked-passed zero (answered p l a) = p
