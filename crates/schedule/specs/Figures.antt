-- The figures of an answer, as the document has them: number, place, verdict, size.
use Rattle.std.specs.Prelude.{ℕ}

pub record Figures : Type 0 where
  pub number : ℕ
  pub place : ℕ
  pub verdict : ℕ
  pub size : ℕ

-- A refusal that is its number and no more: every one but 9 and 13; and 0, none,
-- where a step answers no verdict.
abbrev pub refusal : ℕ → Figures
refusal n = record { number = n; place = 0; verdict = 0; size = 0 }
