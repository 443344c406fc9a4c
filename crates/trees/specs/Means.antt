-- What a claim says of an endless word: the formula holds at the position, or it is violated there.
use Rattle.std.specs.Prelude.{ℕ}
use Rattle.rules.specs.Meaning.{Meant}
use Rattle.trees.specs.Rules.{Claim}
use Rattle.trees.specs.declared.Verdict.{Verdict}
use Rattle.trees.specs.declared.Verdict.TheVariants.{Holds, Violated}

abbrev pub Stated : Verdict → Type 0 → Type 0
Stated Holds P = P
Stated Violated P = ¬ P

abbrev pub Means : (ℕ → ℕ) → Claim → Type 0
Means word c = Stated c.verdict (Meant word c.formula c.position)
