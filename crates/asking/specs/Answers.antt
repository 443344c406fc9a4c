-- The figures of every answer, case by case.
use Rattle.std.specs.Prelude.{ℕ, Result, Ok, Err}
use Rattle.schedule.specs.Figures.{Figures}
use Rattle.trees.specs.Verdicts.{sign_of}
use Rattle.trees.specs.declared.Verdict.{Verdict}
use Rattle.asking.specs.declared.Answer.{Answer}
use Rattle.asking.specs.declared.Refusal.{Refusal}
use Rattle.asking.specs.declared.Refusal.TheVariants.{EmptyLoop, TooLong, NoTable, BadEntry, TooHigh}
use Rattle.asking.specs.declared.Refusal.TheVariants.{NoEntry, TooFar, ShortWork, LongTree, TooLarge}
use Rattle.asking.specs.declared.Refusal.TheVariants.{ShortTree, NotValid}
use Rattle.asking.specs.declared.Judged.{Judged}

-- Refusal 9, with the place where words break off from being a tree.
abbrev pub broken_at : ℕ → Figures
broken_at p = record { number = 9; place = p; verdict = 0; size = 0 }

-- No refusal: a verdict, 1 holds or 2 violated, and a size, 0 where none is given.
abbrev pub verdict_with : Verdict → ℕ → Figures
verdict_with v n = record { number = 0; place = 0; verdict = sign_of v; size = n }

abbrev pub number_of : Refusal → ℕ
number_of EmptyLoop = 1
number_of TooLong = 2
number_of NoTable = 3
number_of BadEntry = 4
number_of TooHigh = 5
number_of NoEntry = 6
number_of TooFar = 7
number_of ShortWork = 8
number_of (NotValid p) = 9
number_of LongTree = 10
number_of TooLarge = 11
number_of ShortTree = 12

-- The place of a refusal: 9 has one.
abbrev pub place_of : Refusal → ℕ
place_of EmptyLoop = 0
place_of TooLong = 0
place_of NoTable = 0
place_of BadEntry = 0
place_of TooHigh = 0
place_of NoEntry = 0
place_of TooFar = 0
place_of ShortWork = 0
place_of (NotValid p) = p
place_of LongTree = 0
place_of TooLarge = 0
place_of ShortTree = 0

-- The figures of a refusal: its number, and 9 with its place.
abbrev pub refused : Refusal → Figures
refused x = record { number = number_of x; place = place_of x; verdict = 0; size = 0 }

abbrev pub figures_of : Result Judged Refusal → Figures
figures_of (Err x) = refused x
figures_of (Ok j) = verdict_with j.verdict j.size

-- The figures of an answer that has crossed.
abbrev pub answer_of : Answer → Figures
answer_of a = record { number = a.number; place = a.place; verdict = a.verdict; size = a.size }
