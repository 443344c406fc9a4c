-- What reading a whole text leaves: the lists, the table and what is asked.
use mathlib.Core.Path.{◌≡◌, sym, ◌∙◌}
use mathlib.Core.List.{List, ◌++◌}
use Prim.Native.Nat.{ℕ, ◌≤◌, min}
use lib.ListN.{length, take, drop}
use Rattle.schedule.specs.Buffers.{put}
use Rattle.schedule.proofs.Buffers.{put_front}
use Rattle.questions.specs.inside.Questions.{Understood}
use Rattle.questions.specs.declared.TextRead.{TextRead}
use Rattle.explain_text.specs.Explained.{max_text}
use Rattle.explain_text.proofs.Outputs.{kept-count, kept-front}
use Rattle.reading.specs.Reads.{kept_letters, kept_entries, Reads, read}

-- The beginning of a list that was kept apart, copied to the front of a buffer.
copied-front : (size : ℕ) {count n : ℕ} (ns found buffer : List ℕ) {left copy : List ℕ} → n ≡ min count size
    → count ≡ length ns → left ≡ put 0 (take size ns) found → copy ≡ take n left
    → copy ++ drop n buffer ≡ put 0 (take size ns) buffer
copied-front size ns found buffer e counted is same =
    (λ i. (same ∙ kept-front size ns found e counted is) i ++ drop (kept-count size ns e counted i) buffer)
    ∙ sym (put_front (take size ns) buffer)

-- What was read apart, copied.
pub reads-copied : {text pf pn lf ln tf tn : List ℕ} {q : TextRead} (u : Understood text pf pn lf ln tf tn q)
    {prefix loop table letters laps words : List ℕ} {n m k : ℕ} → length text ≤ max_text
    → n ≡ min q.prefix kept_letters → m ≡ min q.looped kept_letters → k ≡ min q.entries kept_entries
    → letters ≡ take n pn → laps ≡ take m ln → words ≡ take k tn
    → Reads text prefix (letters ++ drop n prefix) loop (laps ++ drop m loop) table (words ++ drop k table)
    (record {
      number = 0;
      line = 0;
      prefix = n;
      looped = m;
      entries = k;
      entry = q.entry;
      position = q.position;
    })
reads-copied {pf = pf} {lf = lf} {tf = tf} {q} u {prefix} {loop} {table} le en em ek ep el et =
    let s = u.says in
    read s q.entry q.position u.lines le u.whole
    (copied-front kept_letters s.prefix pf prefix en u.prefix u.prefix-kept ep)
    (copied-front kept_letters s.loop lf loop em u.looped u.loop-kept el)
    (copied-front kept_entries s.table tf table ek u.entries u.table_kept et)
    (λ j. record {
      number = 0;
      line = 0;
      prefix = kept-count kept_letters s.prefix en u.prefix j;
      looped = kept-count kept_letters s.loop em u.looped j;
      entries = kept-count kept_entries s.table ek u.entries j;
      entry = q.entry;
      position = q.position;
    })
