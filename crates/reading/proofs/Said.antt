-- What an answer of reading says of the text, by its number.
use mathlib.Core.Path.{◌≡◌, sym, ap, subst, ◌∙◌}
use mathlib.Core.List.{List}
use Prim.Native.Nat.{ℕ, ◌<◌, ◌≤◌}
use native.Mathlib.Omega.{arith}
use lib.ListN.{length, take, drop, length-append}
use lib.Seq.{take-append_seam}
use Rattle.schedule.specs.Buffers.{put}
use Rattle.schedule.proofs.Buffers.{put_front}
use Rattle.questions.specs.Texts.{Said, Whole, WrongLine}
use Rattle.explain_text.specs.Explained.{max_text}
use Rattle.reading.specs.Reads.{kept_letters, kept_entries, Reads, long, wrong, read}
use Rattle.reading.specs.declared.TextAnswer.{TextAnswer}

-- A whole text, and what stands at the fronts of the buffers.
pub record ReadWhole (text prefix_left loop_left table_left : List ℕ) (r : TextAnswer) : Type 0 where
  pub says : Said
  pub lines : ℕ
  pub within : length text ≤ max_text
  pub whole : Whole text says r.entry r.position lines
  pub prefix-room : r.prefix ≤ length prefix_left
  pub loop-room : r.looped ≤ length loop_left
  pub table-room : r.entries ≤ length table_left
  pub prefix-front : take r.prefix prefix_left ≡ take kept_letters says.prefix
  pub loop-front : take r.looped loop_left ≡ take kept_letters says.loop
  pub table-front : take r.entries table_left ≡ take kept_entries says.table

-- A list at the front of a buffer, and its length.
module _ (ns found : List ℕ) {left : List ℕ} {n : ℕ} (size : n ≡ length ns) (is : left ≡ put 0 ns found) where
  front-room : n ≤ length left
  front-room =
      omega (arith, size, ap length (is ∙ put_front ns found), length-append ns (drop (length ns) found))

  front-is : take n left ≡ ns
  front-is =
      (λ i. take (size i) ((is ∙ put_front ns found) i)) ∙ take-append_seam ns (drop (length ns) found)

module _ {text prefix prefix_left loop loop_left table table_left : List ℕ} {r : TextAnswer} where
  pub reads-long : Reads text prefix prefix_left loop loop_left table table_left r → r.number ≡ 14
      → max_text < length text
  reads-long (long lt p l t e) is = lt
  reads-long (wrong k le w p l t e) is = absurd (omega (arith, is, ap (λ (x : TextAnswer). x.number) e))
  reads-long (read s a i k le w p l t e) is = absurd (omega (arith, is, ap (λ (x : TextAnswer). x.number) e))

  pub reads-wrong : Reads text prefix prefix_left loop loop_left table table_left r → r.number ≡ 13
      → (length text ≤ max_text) × WrongLine text r.line
  reads-wrong (long lt p l t e) is = absurd (omega (arith, is, ap (λ (x : TextAnswer). x.number) e))
  reads-wrong (wrong k le w p l t e) is =
      (le, subst (WrongLine text) (sym (ap (λ (x : TextAnswer). x.line) e)) w)
  reads-wrong (read s a i k le w p l t e) is =
      absurd (omega (arith, is, ap (λ (x : TextAnswer). x.number) e))

  pub reads-said : Reads text prefix prefix_left loop loop_left table table_left r → ¬ (r.number ≡ 14)
      → ¬ (r.number ≡ 13) → ReadWhole text prefix_left loop_left table_left r
  reads-said (long lt p l t e) not-14 not-13 = absurd (not-14 (ap (λ (x : TextAnswer). x.number) e))
  reads-said (wrong k le w p l t e) not-14 not-13 = absurd (not-13 (ap (λ (x : TextAnswer). x.number) e))
  reads-said (read s a i k le w p l t e) not-14 not-13 =
      let in-prefix = ap (λ (x : TextAnswer). x.prefix) e in
      let in-loop = ap (λ (x : TextAnswer). x.looped) e in
      let in_table = ap (λ (x : TextAnswer). x.entries) e in
      let first = take kept_letters s.prefix in
      let second = take kept_letters s.loop in
      let third = take kept_entries s.table in
      record {
        says = s;
        lines = k;
        within = le;
        whole = subst (λ (x : TextAnswer). Whole text s x.entry x.position k) (sym e) w;
        prefix-room = front-room first prefix in-prefix p;
        loop-room = front-room second loop in-loop l;
        table-room = front-room third table in_table t;
        prefix-front = front-is first prefix in-prefix p;
        loop-front = front-is second loop in-loop l;
        table-front = front-is third table in_table t;
      }
