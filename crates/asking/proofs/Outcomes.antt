-- An outcome is known by its figures: so where two results have the same figures, they are the same case.
use mathlib.Core.Path.{◌≡◌, refl, sym, ap, ◌∙◌}
use mathlib.Core.Bool.{cond}
use mathlib.Core.List.{List, [], ◌∷◌}
use Prim.Native.Nat.{ℕ}
use lib.Dec.{eqb}
use lib.ListN.{get_or}
use Rattle.std.specs.Prelude.{Result, Ok, Err}
use Rattle.schedule.specs.Figures.{Figures}
use Rattle.trees.specs.declared.Verdict.{Verdict}
use Rattle.trees.specs.declared.Verdict.TheVariants.{Holds, Violated}
use Rattle.asking.specs.Answers.{verdict_with, figures_of}
use Rattle.asking.specs.declared.Refusal.{Refusal}
use Rattle.asking.specs.declared.Refusal.TheVariants.{EmptyLoop, TooLong, NoTable, BadEntry, TooHigh}
use Rattle.asking.specs.declared.Refusal.TheVariants.{NoEntry, TooFar, ShortWork, LongTree, TooLarge}
use Rattle.asking.specs.declared.Refusal.TheVariants.{ShortTree, NotValid}
use Rattle.asking.specs.declared.Judged.{Judged}

-- The refusals by their numbers, from 1; 9 is the one at place 0.
abbrev numbered : List Refusal
numbered =
    EmptyLoop ∷ TooLong ∷ NoTable ∷ BadEntry ∷ TooHigh ∷ NoEntry ∷ TooFar ∷ ShortWork ∷ NotValid 0 ∷ LongTree
    ∷ TooLarge ∷ ShortTree ∷ []

abbrev refusal_of : ℕ → Refusal
refusal_of n = get_or (EmptyLoop ∷ numbered) n EmptyLoop

-- the case of figures
abbrev case_of : Figures → Result Judged Refusal
case_of f =
    cond (eqb f.number 0) (Ok (record { verdict = cond (eqb f.verdict 1) Holds Violated; size = f.size }))
    (Err (cond (eqb f.number 9) (NotValid f.place) (refusal_of f.number)))

judged-back : (v : Verdict) (n : ℕ) → case_of (verdict_with v n) ≡ Ok (record { verdict = v; size = n })
judged-back Holds n = refl
judged-back Violated n = refl

case-back : (o : Result Judged Refusal) → case_of (figures_of o) ≡ o
case-back (Err EmptyLoop) = refl
case-back (Err TooLong) = refl
case-back (Err NoTable) = refl
case-back (Err BadEntry) = refl
case-back (Err TooHigh) = refl
case-back (Err NoEntry) = refl
case-back (Err TooFar) = refl
case-back (Err ShortWork) = refl
case-back (Err (NotValid p)) = refl
case-back (Err LongTree) = refl
case-back (Err TooLarge) = refl
case-back (Err ShortTree) = refl
case-back (Ok j) = judged-back j.verdict j.size

pub outcome-one : (o p : Result Judged Refusal) → figures_of o ≡ figures_of p → o ≡ p
outcome-one o p e = sym (case-back o) ∙ ap case_of e ∙ case-back p
