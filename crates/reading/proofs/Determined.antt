-- Two answers that meet the contract of reading coincide, and so do the buffers.
use mathlib.Core.Path.{◌≡◌, sym, ap, ◌∙◌}
use mathlib.Core.List.{List}
use Prim.Native.Nat.{ℕ}
use native.Mathlib.Omega.{arith}
use lib.ListN.{take}
use Rattle.schedule.specs.Buffers.{put}
use Rattle.questions.specs.Texts.{Said}
use Rattle.questions.proofs.Wholes.{whole-one, whole-not-wrong, wrong-one}
use Rattle.reading.specs.Reads.{kept_letters, kept_entries, refused_text, read_text}
use Rattle.reading.specs.Reads.{Reads, long, wrong, read}
use Rattle.reading.specs.declared.TextAnswer.{TextAnswer}

-- The same answer, and the same buffers.
pub record SameReading (prefix_left prefix_left' loop_left loop_left' table_left table_left' : List ℕ)
    (r r' : TextAnswer) : Type 0 where
  pub prefix : prefix_left ≡ prefix_left'
  pub loop : loop_left ≡ loop_left'
  pub table : table_left ≡ table_left'
  pub answer : r ≡ r'

module _ {text prefix prefix_left prefix_left' loop loop_left loop_left' : List ℕ}
    {table table_left table_left' : List ℕ} {r r' : TextAnswer} where
  pub reads-one : Reads text prefix prefix_left loop loop_left table table_left r
      → Reads text prefix prefix_left' loop loop_left' table table_left' r'
      → SameReading prefix_left prefix_left' loop_left loop_left' table_left table_left' r r'
  reads-one (long lt p l t e) (long lt' p' l' t' e') =
      record { prefix = p ∙ sym p'; loop = l ∙ sym l'; table = t ∙ sym t'; answer = e ∙ sym e' }
  reads-one (long lt p l t e) (wrong k le w p' l' t' e') = absurd (omega (arith, lt, le))
  reads-one (long lt p l t e) (read s a i k le w p' l' t' e') = absurd (omega (arith, lt, le))
  reads-one (wrong k le w p l t e) (long lt p' l' t' e') = absurd (omega (arith, lt, le))
  reads-one (wrong k le w p l t e) (wrong k' le' w' p' l' t' e') = record {
    prefix = p ∙ sym p';
    loop = l ∙ sym l';
    table = t ∙ sym t';
    answer = e ∙ ap (refused_text 13) (wrong-one w w') ∙ sym e';
  }
  reads-one (wrong k le w p l t e) (read s a i k' le' w' p' l' t' e') = absurd (whole-not-wrong w' w)
  reads-one (read s a i k le w p l t e) (long lt p' l' t' e') = absurd (omega (arith, lt, le))
  reads-one (read s a i k le w p l t e) (wrong k' le' w' p' l' t' e') = absurd (whole-not-wrong w w')
  reads-one (read s a i k le w p l t e) (read s' a' i' k' le' w' p' l' t' e') =
      let one = whole-one w w' in
      record {
        prefix = p ∙ ap (λ (x : Said). put 0 (take kept_letters x.prefix) prefix) one.says ∙ sym p';
        loop = l ∙ ap (λ (x : Said). put 0 (take kept_letters x.loop) loop) one.says ∙ sym l';
        table = t ∙ ap (λ (x : Said). put 0 (take kept_entries x.table) table) one.says ∙ sym t';
        answer = e ∙ (λ j. read_text (one.says j) (one.entries j) (one.positions j)) ∙ sym e';
      }
