-- What tests answer.
use Rattle.std.specs.Prelude.{List, Result, Ok, Err, ⊤}
use Rattle.schedule.specs.Tests.{Test, AllPass, FirstFails}
use Rattle.asking.specs.Answers.{refused}
use Rattle.asking.specs.declared.Refusal.{Refusal}

-- The first test that fails, or none.
pub data Gates (tests : List Test) : Result ⊤ Refusal → Type 0 where
  shuts : {x : Refusal} → FirstFails tests (refused x) → Gates tests (Err x)
  lets_by : {done : ⊤} → AllPass tests → Gates tests (Ok done)
