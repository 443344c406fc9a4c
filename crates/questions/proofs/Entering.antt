-- Lines of so many numbers, and the lines of entries, read one by one.
use mathlib.Core.Path.{◌≡◌, refl, sym, ap, subst, ◌∙◌}
use mathlib.Core.List.{List, [], ◌∷◌, ◌++◌, append_assoc, append-nil}
use Prim.Native.Nat.{ℕ, zero, suc, ◌+◌, ◌≤◌}
use native.Mathlib.Omega.{arith}
use lib.ListN.{take, length, get_or, set, length-append, drop_of_length-le}
use lib.Seq.{take_all}
use Rattle.std.specs.Prelude.{Option, Some, None}
use Rattle.questions.specs.Texts.{entry_key}
use Rattle.lists.specs.Lines.{line_of, Commas, last, more}
use Rattle.rules.specs.Words.{entry_word}
use Rattle.lists.specs.inside.Lists.{BytesFor, Ended, SomeList, Worded, Listed}
use Rattle.questions.specs.declared.Fields.{Fields}
use Rattle.questions.specs.inside.LinesRead.{EntryFields, AskFields, FieldsAt, FieldsRead}
use Rattle.questions.specs.inside.LinesRead.{EntryLines, none, more as another, AllEntries}
use Rattle.lists.proofs.Keeping.{kept-none, kept_more}
use Rattle.lists.proofs.Keyed.{OneReading, ended-one, ended-line}
use Rattle.schedule.specs.Buffers.{put}
use Rattle.schedule.proofs.Buffers.{put_front}

-- A list that fills its buffer is what stands there.
kept_whole : (found now ns : List ℕ) → length ns ≡ length found → now ≡ put 0 (take (length found) ns) found
    → now ≡ ns
kept_whole found now ns same keeps =
    let all : take (length found) ns ≡ ns = take_all (length found) ns (omega (arith, same)) in
    keeps ∙ ap (λ l. put 0 l found) all ∙ put_front ns found
    ∙ ap (λ l. ns ++ l) (drop_of_length-le found (omega (arith, same))) ∙ append-nil ns

pub numbers-none : (P : BytesFor) (many : ℕ) (text : List ℕ) {r : Option (Fields many)} → r ≡ None
    → ¬ SomeList P text → FieldsRead P many text r
numbers-none P many text e wrong = subst (FieldsRead P many text) (sym e)
    (λ ns rest size ended. wrong (record { numbers = ns; rest = rest; ended = ended }))

pub numbers-found : {P : BytesFor} {text found now rest : List ℕ} {count many : ℕ}
    → Listed P text found now count rest → length found ≡ many → count ≡ many
    → FieldsAt P many text now rest
numbers-found {P} {text} {found} {now} {rest} l size is =
    let full : length l.numbers ≡ length found = sym l.counted ∙ is ∙ sym size in
    let whole : now ≡ l.numbers = kept_whole found now l.numbers full l.keeps in
    record {
      ended = subst (λ ns. Ended P text ns rest) (sym whole) l.ended;
      size = ap length whole ∙ full ∙ size;
      past = omega (arith, l.past);
    }

pub numbers-other : {P : BytesFor} {word text found now left : List ℕ} {count many : ℕ} → OneReading P
    → Listed (Worded word P) text found now count left → ¬ (count ≡ many)
    → FieldsRead (Worded word P) many text None
numbers-other plain l other ns rest size ended =
    other (l.counted ∙ ap length (ended-one plain l.ended ended).0 ∙ size)

-- Each of some numbers is at most their bound.
pub commas-low : {max : ℕ} {bs ns : List ℕ} → Commas max bs ns → (k : ℕ) → get_or ns k 0 ≤ max
commas-low (last d le) zero = le
commas-low (last d le) (suc k) = omega arith
commas-low (more d le c) zero = le
commas-low (more d le c) (suc k) = commas-low c k

three : (ns : List ℕ) → length ns ≡ 3 → ns ≡ get_or ns 0 0 ∷ get_or ns 1 0 ∷ get_or ns 2 0 ∷ []
three [] size = absurd (omega arith)
three (a ∷ []) size = absurd (omega arith)
three (a ∷ b ∷ []) size = absurd (omega arith)
three (a ∷ b ∷ c ∷ []) size = refl
three (a ∷ b ∷ c ∷ d ∷ ns) size = absurd (omega arith)

two : (ns : List ℕ) → length ns ≡ 2 → ns ≡ get_or ns 0 0 ∷ get_or ns 1 0 ∷ []
two [] size = absurd (omega arith)
two (a ∷ []) size = absurd (omega arith)
two (a ∷ b ∷ []) size = refl
two (a ∷ b ∷ c ∷ ns) size = absurd (omega arith)

-- The question's line, by what reading it answers.
module _ (text : List ℕ) (r : Option (Fields 2)) (f : FieldsRead AskFields 2 text r) where
  pub ask-none : r ≡ None → FieldsRead AskFields 2 text None
  ask-none e = subst (FieldsRead AskFields 2 text) e f

  pub ask-some : {a : Fields 2} → r ≡ Some a → FieldsAt AskFields 2 text a.numbers a.rest.now
  ask-some e = subst (FieldsRead AskFields 2 text) e f

pub ask-ended : {text ns rest : List ℕ} → FieldsAt AskFields 2 text ns rest
    → Ended AskFields text (get_or ns 0 0 ∷ get_or ns 1 0 ∷ []) rest
ask-ended {text} {ns} {rest} f = subst (λ l. Ended AskFields text l rest) (two ns f.size) f.ended

-- Lines of entries stand before what is left.
pub record Entering (text found left : List ℕ) (count : ℕ) (now : List ℕ) : Type 0 where
  pub bytes : List ℕ
  pub words : List ℕ
  pub lines : EntryLines bytes words
  pub whole : text ≡ bytes ++ left
  pub past : count + length left ≤ length text
  pub counted : count ≡ length words
  pub keeps : now ≡ put 0 (take (length found) words) found

module _ {text found : List ℕ} where
  pub enter-none : Entering text found text 0 found
  enter-none = record {
    bytes = [];
    words = [];
    lines = none;
    whole = refl;
    past = omega arith;
    counted = refl;
    keeps = kept-none found;
  }

  module _ {left now : List ℕ} {count : ℕ} (g : Entering text found left count now) where
    pub enter-done : FieldsRead EntryFields 3 left None → AllEntries text found now count left
    enter-done over = record {
      bytes = g.bytes;
      words = g.words;
      lines = g.lines;
      whole = g.whole;
      past = g.past;
      counted = g.counted;
      keeps = g.keeps;
      last = λ kind left right rest. over (kind ∷ left ∷ right ∷ []) rest refl;
    }

    module _ {ns rest : List ℕ} (e : FieldsAt EntryFields 3 left ns rest) where
      abbrev word : ℕ
      word = entry_word (get_or ns 0 0) (get_or ns 1 0) (get_or ns 2 0)

      pub enter-turn : {then : List ℕ} → then ≡ set now count word → Entering text found rest (count + 1) then
      enter-turn stored = record {
        bytes = g.bytes ++ line_of entry_key e.ended.list.fields;
        words = g.words ++ word ∷ [];
        lines = another g.lines (subst (Commas 255 e.ended.list.fields) (three ns e.size) e.ended.list.list);
        whole = g.whole ∙ ap (λ l. g.bytes ++ l) (ended-line e.ended)
            ∙ sym (append_assoc g.bytes (line_of entry_key e.ended.list.fields) rest);
        past = omega (arith, g.past, e.past);
        counted = omega (arith, g.counted, length-append g.words (word ∷ []));
        keeps = stored ∙ (λ i. set (g.keeps i) (g.counted i) word) ∙ kept_more found g.words word;
      }
