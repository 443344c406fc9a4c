-- Refusals in words, and by their numbers.
use Rattle.std.specs.Prelude.{ℕ, ◌≡◌, ◌≤◌, List, Result, codes, MatchResult}
use Rattle.asking.specs.Answers.{number_of, place_of}
use Rattle.asking.specs.declared.Refusal.{Refusal}
use Rattle.asking.specs.declared.Refusal.TheVariants.{EmptyLoop, TooLong, NoTable, BadEntry, TooHigh}
use Rattle.asking.specs.declared.Refusal.TheVariants.{NoEntry, TooFar, ShortWork, LongTree, TooLarge}
use Rattle.asking.specs.declared.Refusal.TheVariants.{ShortTree, NotValid}
use Rattle.asking.specs.declared.words.NoRefusal.{NoRefusal}

abbrev pub words_of : Refusal → List ℕ
words_of EmptyLoop = codes "the loop is empty"
words_of TooLong = codes "more than 48 letters"
words_of NoTable = codes "no entry, or more than 32"
words_of BadEntry = codes "some entry breaks the kind table"
words_of TooHigh = codes "some entry's two heights add up to more than 5"
words_of NoEntry = codes "the asked entry is not in the table"
words_of TooFar = codes "the asked position is above 255"
words_of ShortWork = codes "the work slice is shorter than 16384"
words_of (NotValid p) = codes "the words are no valid tree"
words_of LongTree = codes "the tree has more than 4095 words"
words_of TooLarge = codes "the least tree has more than 4095 words"
words_of ShortTree = codes "the tree buffer is shorter than the least tree"

-- A number names the refusal that has it, with no place; those that name none are not 1 to 12.
abbrev pub Names : ℕ → Result Refusal NoRefusal → Type 0
Names n r =
    MatchResult r (λ x. (number_of x ≡ n) × (place_of x ≡ 0))
    (λ e. (e.0 ≡ n) × ¬ ((1 ≤ n) × (n ≤ 12)))
