-- Two results that meet truth's contract coincide, in figures and work slice;
-- truth gives a verdict exactly if the meaning has it.
use mathlib.Core.Path.{◌≡◌, refl, ap, subst}
use mathlib.Core.Logic.{◌↔◌}
use mathlib.Core.List.{List}
use Prim.Native.Nat.{ℕ}
use lib.ListN.{length}
use Rattle.schedule.specs.Figures.{Figures}
use Rattle.schedule.specs.Tests.{AllPass}
use Rattle.rules.specs.Formula.{Formula}
use Rattle.trees.specs.Rules.{claim}
use Rattle.trees.specs.Verdicts.{sign_of}
use Rattle.trees.specs.declared.Verdict.{Verdict}
use Rattle.trees.specs.declared.Verdict.TheVariants.{Holds, Violated}
use Rattle.trees.proofs.Needs.{sign-one}
use Rattle.trees.specs.Means.{Means}
use Rattle.schedule.specs.Buffers.{cleared}
use Rattle.asking.specs.Answers.{verdict_with}
use Rattle.asking.specs.Questions.{Question, word_in, formula_in, claim_in, work_tests}
use Rattle.finding.specs.Worked.{answered}
use Rattle.finding.specs.Told.{Meaning, meant, Told}
use Rattle.finding.proofs.Working.{worked-alike, worked-answer}

pub means-one : (word : ℕ → ℕ) (f : Formula) (i : ℕ) (v w : Verdict) → Means word (claim f i v)
    → Means word (claim f i w) → v ≡ w
means-one word f i Holds Holds m n = refl
means-one word f i Holds Violated m n = absurd (n m)
means-one word f i Violated Holds m n = absurd (m n)
means-one word f i Violated Violated m n = refl

module _ (q : Question) where
  meaning-one : {r s : Figures} → Meaning q r → Meaning q s → r ≡ s
  meaning-one (meant v m) (meant w n) =
      ap (λ k. verdict_with k 0) (means-one (word_in q) (formula_in q) q.position v w m n)

  meaning-verdict : {r : Figures} → Meaning q r → (v : Verdict) → r.verdict ≡ sign_of v
      → Means (word_in q) (claim_in q v)
  meaning-verdict (meant w m) v e = subst (λ k. Means (word_in q) (claim_in q k)) (sign-one {a = w} {b = v} e)
      m

  module _ (work : List ℕ) where
    pub truth-one : (left left' : List ℕ) (r s : Figures) → Told q work left r → Told q work left' s
        → (r ≡ s) × (left ≡ left')
    truth-one left left' r s a b = worked-alike meaning-one a b

    -- Asked within the limits, with room to work in, a verdict is told exactly if it is the
    -- meaning's over the endless word.
    pub told-true : AllPass (work_tests q (length work)) → (v : Verdict)
        → Told q work (cleared work) (verdict_with v 0) ↔ Means (word_in q) (claim_in q v)
    told-true passed v =
        (λ t. meaning-verdict (worked-answer passed t) v refl, λ m. answered passed refl (meant v m))
