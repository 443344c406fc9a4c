-- Two answers that meet the contract of reading coincide, and so do the buffers of a whole text.
use mathlib.Core.Path.{◌≡◌, sym, ap, ◌∙◌}
use mathlib.Core.List.{List}
use Prim.Native.Nat.{ℕ}
use lib.ListN.{take, length}
use Rattle.questions.specs.Texts.{Said}
use Rattle.questions.specs.inside.Questions.{Understood, QuestionRead}
use Rattle.std.specs.Prelude.{Result, Ok, Err}
use Rattle.questions.specs.declared.BadLine.{BadLine}
use Rattle.questions.specs.declared.TextRead.{TextRead}
use Rattle.questions.proofs.Wholes.{whole-one, whole-not-wrong, wrong-one}
use Rattle.schedule.specs.Buffers.{put}

module _ {text pf pn pn₂ lf ln ln₂ tf tn tn₂ : List ℕ} {r q : TextRead} where
  understood-one : Understood text pf pn lf ln tf tn r
      → Understood text pf pn₂ lf ln₂ tf tn₂ q → r ≡ q
  understood-one a b =
      let w = whole-one a.whole b.whole in
      λ i. record {
        prefix = (a.prefix ∙ ap (λ (s : Said). length s.prefix) w.says ∙ sym b.prefix) i;
        looped = (a.looped ∙ ap (λ (s : Said). length s.loop) w.says ∙ sym b.looped) i;
        entries = (a.entries ∙ ap (λ (s : Said). length s.table) w.says ∙ sym b.entries) i;
        entry = w.entries i;
        position = w.positions i;
      }

  pub buffers-one : Understood text pf pn lf ln tf tn r → Understood text pf pn₂ lf ln₂ tf tn₂ q
      → (pn ≡ pn₂) × (ln ≡ ln₂) × (tn ≡ tn₂)
  buffers-one a b =
      let w = whole-one a.whole b.whole in (
        a.prefix-kept ∙ ap (λ (s : Said). put 0 (take 49 s.prefix) pf) w.says ∙ sym b.prefix-kept,
        a.loop-kept ∙ ap (λ (s : Said). put 0 (take 49 s.loop) lf) w.says ∙ sym b.loop-kept,
        a.table_kept ∙ ap (λ (s : Said). put 0 (take 33 s.table) tf) w.says ∙ sym b.table_kept,
      )

pub text-read-one : (text pf pn pn₂ lf ln ln₂ tf tn tn₂ : List ℕ) (r q : Result TextRead BadLine)
    → QuestionRead text pf pn lf ln tf tn r → QuestionRead text pf pn₂ lf ln₂ tf tn₂ q → r ≡ q
text-read-one text pf pn pn₂ lf ln ln₂ tf tn tn₂ (Ok r) (Ok q) a b = ap Ok (understood-one a b)
text-read-one text pf pn pn₂ lf ln ln₂ tf tn tn₂ (Ok r) (Err f) a b = absurd (whole-not-wrong a.whole b)
text-read-one text pf pn pn₂ lf ln ln₂ tf tn tn₂ (Err e) (Ok q) a b = absurd (whole-not-wrong b.whole a)
text-read-one text pf pn pn₂ lf ln ln₂ tf tn tn₂ (Err e) (Err f) a b =
    λ i. Err (record { line = wrong-one a b i })
