-- The texts of the answers, placed line by line.
use Prim.Native.Nat.{ℕ, ◌≤◌}
use mathlib.Core.Path.{refl}
use mathlib.Core.List.{List, ◌++◌}
use native.Mathlib.Omega.{arith}
use Rattle.trees.specs.Verdicts.{sign_of}
use Rattle.asking.specs.Answers.{number_of, refused, verdict_with}
use Rattle.asking.specs.declared.Refusal.{Refusal}
use Rattle.asking.specs.declared.Refusal.TheVariants.{EmptyLoop, TooLong, NoTable, BadEntry, TooHigh}
use Rattle.asking.specs.declared.Refusal.TheVariants.{NoEntry, TooFar, ShortWork, LongTree, TooLarge}
use Rattle.asking.specs.declared.Refusal.TheVariants.{ShortTree, NotValid}
use Rattle.asking.specs.declared.Judged.{Judged}
use Rattle.rendering.specs.Texts.{refused_is, line_is, size_is, NodeLines, VerdictLine, Rendered, WrongText}
use Rattle.rendering.specs.Texts
use Rattle.printing.specs.Fields.{NumberLine}
use Rattle.printing.specs.inside.Puts.{Puts}
use Rattle.printing.specs.declared.Writer.{Writer}
use Rattle.printing.proofs.Placing.{puts-as, puts-then}
use Rattle.printing.proofs.Fields.{Then, then}

-- Every refusal has a number, and none the number of a wrong text.
number-is : (x : Refusal) → (1 ≤ number_of x) × (number_of x ≤ 12)
number-is EmptyLoop = omega arith
number-is TooLong = omega arith
number-is NoTable = omega arith
number-is BadEntry = omega arith
number-is TooHigh = omega arith
number-is NoEntry = omega arith
number-is TooFar = omega arith
number-is ShortWork = omega arith
number-is (NotValid p) = omega arith
number-is LongTree = omega arith
number-is TooLarge = omega arith
number-is ShortTree = omega arith

module _ (words : List ℕ) {start after : Writer} where
  pub refused-put : (x : Refusal) → Puts (NumberLine refused_is (number_of x)) start after
      → Puts (Rendered (refused x) words) start after
  refused-put x = puts-as (λ bs l. Texts.refused (number-is x).0 (omega (arith, (number-is x).1)) l)

  pub judged-put : (j : Judged) {second third : Writer} → Puts (VerdictLine (sign_of j.verdict)) start second
      → Puts (NumberLine size_is j.size) second third → Puts (NodeLines words) third after
      → Puts (Rendered (verdict_with j.verdict j.size) words) start after
  judged-put j v s l =
      puts-then judged-is v (puts-then (λ xs ys p q. then p q) s l)
    where
      judged-is : (xs ys : List ℕ) → VerdictLine (sign_of j.verdict) xs
          → Then (NumberLine size_is j.size) (NodeLines words) ys
          → Rendered (verdict_with j.verdict j.size) words (xs ++ ys)
      judged-is xs ys v' (then s' l') = Texts.judged refl v' s' l'

pub wrong-put : {line : ℕ} {start middle after : Writer} → Puts (NumberLine refused_is 13) start middle
    → Puts (NumberLine line_is line) middle after → Puts (WrongText line) start after
wrong-put = puts-then (λ xs ys p q. Texts.wrong_text p q)
