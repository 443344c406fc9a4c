-- Tests in their order: the first that fails counts, and what it answers is the answer.
use Rattle.std.specs.Prelude.{ℕ, Bool, true, false, List, [], ◌∷◌, ◌≡◌}
use Rattle.schedule.specs.Figures.{Figures, refusal}

-- Whether it passes, and what is answered if it fails.
pub record Test : Type 0 where
  pub passes : Bool
  pub answer : Figures

abbrev pub test : ℕ → Bool → Test
test n passes = record { passes = passes; answer = refusal n }

pub data AllPass : List Test → Type 0 where
  none : AllPass []
  also : {t : Test} {ts : List Test} → t.passes ≡ true → AllPass ts → AllPass (t ∷ ts)

pub data FirstFails : List Test → Figures → Type 0 where
  here : {t : Test} {ts : List Test} → t.passes ≡ false → FirstFails (t ∷ ts) t.answer
  later : {t : Test} {ts : List Test} {r : Figures} → t.passes ≡ true → FirstFails ts r
      → FirstFails (t ∷ ts) r
