-- Reading a text line by line: what is known behind some right lines, and the laws of the returns.
use mathlib.Core.Path.{◌≡◌, refl, sym, ap, subst, ◌∙◌}
use mathlib.Core.List.{List, [], ◌∷◌, ◌++◌, append_assoc, append-nil}
use Prim.Native.Nat.{ℕ, suc, ◌+◌, ◌≤◌}
use native.Mathlib.Nat.{suc_inj}
use native.Mathlib.Omega.{arith}
use lib.ListN.{take, length, get_or, length-append}
use Rattle.questions.specs.Texts.{prefix_key, loop_key, entry_key, ask_key, Said, said, Line, prefixed}
use Rattle.questions.specs.Texts.{looped, entered, RightLines, begun, further, Whole, WrongLine, stuck}
use Rattle.questions.specs.Texts.{goes_on}
use Rattle.lists.specs.Lines.{line_of, Commas, Letters}
use Rattle.rules.specs.Words.{entry_word}
use Rattle.lists.specs.inside.Lists.{BytesFor, Ended, SomeList, Worded, Listed}
use Rattle.questions.specs.inside.LinesRead.{EntryFields, AskFields, FieldsAt, FieldsRead}
use Rattle.questions.specs.inside.LinesRead.{EntryLines, none, more, AllEntries}
use Rattle.questions.specs.inside.Questions.{Understood}
use Rattle.lists.proofs.Keyed.{ended-line, line-ended}
use Rattle.questions.proofs.Entering.{ask-ended}
use Rattle.std.specs.Prelude.{None}
use Rattle.questions.proofs.Rights.{right-one, next-line}
use Rattle.questions.proofs.Wholes.{whole_split}
use Rattle.schedule.specs.Buffers.{put}

-- Right lines stand before what is left.
pub record Upto (text : List ℕ) (k : ℕ) (s : Said) (left : List ℕ) : Type 0 where
  pub front : List ℕ
  pub right : RightLines k front s
  pub whole : text ≡ front ++ left

pub upto-none : (text : List ℕ) → Upto text 0 (said [] [] []) text
upto-none text = record { front = []; right = begun; whole = refl }

upto-more : {text left rest : List ℕ} {k : ℕ} {s t : Said} (word fields : List ℕ) → Upto text k s left
    → Line k s (line_of word fields) t → left ≡ line_of word fields ++ rest
    → Upto text (suc k) t rest
upto-more {rest} word fields u l e = record {
  front = u.front ++ line_of word fields;
  right = further u.right l;
  whole = u.whole ∙ ap (λ cs. u.front ++ cs) e ∙ sym (append_assoc u.front (line_of word fields) rest);
}

module _ {text found now rest : List ℕ} {count : ℕ} where
  pub upto-prefix : (l : Listed (Worded prefix_key Letters) text found now count rest)
      → Upto text 1 (said l.numbers [] []) rest
  upto-prefix l =
      upto-more prefix_key l.ended.list.fields (upto-none text) (prefixed refl l.ended.list.list)
      (ended-line l.ended)

  pub upto-loop : {left ns : List ℕ} → Upto text 1 (said ns [] []) left
      → (l : Listed (Worded loop_key Letters) left found now count rest)
      → Upto text 2 (said ns l.numbers []) rest
  upto-loop u l =
      upto-more loop_key l.ended.list.fields u (looped refl l.ended.list.list)
      (ended-line l.ended)

entries-right : {front bs ns ms ws : List ℕ} → RightLines 2 front (said ns ms []) → EntryLines bs ws
    → RightLines (2 + length ws) (front ++ bs) (said ns ms ws)
entries-right {front} {ns} {ms} r none =
    subst (λ l. RightLines 2 l (said ns ms [])) (sym (append-nil front)) r
entries-right {front} {ns} {ms} r (more {bs} {fields} {ws} {kind} {left} {right} l c) =
    let w = entry_word kind left right in
    let then = further (entries-right r l) (entered (omega arith) c) in
    let lines : suc (2 + length ws) ≡ 2 + length (ws ++ w ∷ []) = omega (arith, length-append ws (w ∷ [])) in
    subst (λ k. RightLines k (front ++ (bs ++ line_of entry_key fields)) (said ns ms (ws ++ w ∷ []))) lines
    (subst (λ cs. RightLines (suc (2 + length ws)) cs (said ns ms (ws ++ w ∷ [])))
    (append_assoc front bs (line_of entry_key fields)) then)

pub upto-entries : {text ns ms left found now rest : List ℕ} {count : ℕ} → Upto text 2 (said ns ms []) left
    → (a : AllEntries left found now count rest) → Upto text (2 + length a.words) (said ns ms a.words) rest
upto-entries {rest} u a = record {
  front = u.front ++ a.bytes;
  right = entries-right u.right a.lines;
  whole = u.whole ∙ ap (λ l. u.front ++ l) a.whole ∙ sym (append_assoc u.front a.bytes rest);
}

-- No line of a text's order follows.
upto-stuck : {text left : List ℕ} {k : ℕ} {s : Said} → Upto text k s left
    → ((new others : List ℕ) (t : Said) → Line k s new t → ¬ (left ≡ new ++ others))
    → (2 ≤ k → (entry position : ℕ) (rest : List ℕ)
    → ¬ Ended AskFields left (entry ∷ position ∷ []) rest)
    → WrongLine text (suc k)
upto-stuck {text} {left} {k} {s} u no_line no-ask =
    stuck (record { says = s; front = u.front; rest = left; right = u.right; whole = u.whole })
    (λ b. let n = next-line u.right u.whole b in
    no_line n.new n.others n.says n.line n.whole)
    (λ b. let same : b.asked.before ≡ k = suc_inj (sym b.asked.count) in
    let r = right-one left (line_of ask_key b.asked.fields ++ b.rest) u.right
    (subst (λ n. RightLines n b.asked.front b.says) same b.asked.right)
    (sym u.whole ∙ whole_split b) in
    no-ask (subst (λ n. 2 ≤ n) same b.asked.enough) b.entry b.position b.rest
    (line-ended (Commas 65535) ask_key b.asked.fields left b.rest
    b.asked.asks r.behind))

no_line : (P : BytesFor) (word fields left others : List ℕ) {ns : List ℕ} → P fields ns
    → left ≡ line_of word fields ++ others → ¬ SomeList (Worded word P) left → ⊥
no_line P word fields left others {ns} p e free =
    free (record { numbers = ns; rest = others; ended = line-ended P word fields left others p e })

no-prefix : {s t : Said} {new : List ℕ} (left others : List ℕ) → ¬ SomeList (Worded prefix_key Letters) left
    → Line 0 s new t → ¬ (left ≡ new ++ others)
no-prefix left others free (prefixed {bs} z p) e = no_line Letters prefix_key bs left others p e free
no-prefix left others free (looped z p) e = omega arith
no-prefix left others free (entered z p) e = omega arith

no_loop : {s t : Said} {new : List ℕ} (left others : List ℕ) → ¬ SomeList (Worded loop_key Letters) left
    → Line 1 s new t → ¬ (left ≡ new ++ others)
no_loop left others free (prefixed z p) e = omega arith
no_loop left others free (looped {bs} z p) e = no_line Letters loop_key bs left others p e free
no_loop left others free (entered z p) e = omega arith

no-entry : {k : ℕ} {s t : Said} {new : List ℕ} (left others : List ℕ) → 2 ≤ k
    → ((kind left-field right : ℕ) (rest : List ℕ)
    → ¬ Ended EntryFields left (kind ∷ left-field ∷ right ∷ []) rest)
    → Line k s new t → ¬ (left ≡ new ++ others)
no-entry left others le free (prefixed z p) e = omega arith
no-entry left others le free (looped z p) e = omega arith
no-entry left others le free (entered {bs} {kind} {left = l} {right} z p) e =
    free kind l right others (line-ended (Commas 255) entry_key bs left others p e)

pub wrong-prefix : (text : List ℕ) → ¬ SomeList (Worded prefix_key Letters) text → WrongLine text 1
wrong-prefix text free =
    upto-stuck (upto-none text) (λ new others t l e. no-prefix text others free l e)
    (λ le. absurd (omega arith))

pub wrong-loop : {text ns left : List ℕ} → Upto text 1 (said ns [] []) left
    → ¬ SomeList (Worded loop_key Letters) left → WrongLine text 2
wrong-loop {left} u free =
    upto-stuck u (λ new others t l e. no_loop left others free l e) (λ le. absurd (omega arith))

-- Bytes that are left, by their number.
record Begins (l : List ℕ) : Type 0 where
  first : ℕ
  others : List ℕ
  whole : l ≡ first ∷ others

begins : (l : List ℕ) → ¬ (length l ≡ 0) → Begins l
begins [] some = absurd (some refl)
begins (b ∷ l) some = record { first = b; others = l; whole = refl }

empty : (l : List ℕ) → length l ≡ 0 → l ≡ []
empty [] bare = refl
empty (b ∷ l) bare = absurd (omega arith)

module _ {text ns ms left found now rest : List ℕ} {count : ℕ}
    (u : Upto text 2 (said ns ms []) left) (a : AllEntries left found now count rest) where
  pub wrong-ask : FieldsRead AskFields 2 rest None → WrongLine text (count + 3)
  wrong-ask free =
      subst (WrongLine text) (omega (arith, a.counted))
      (upto-stuck (upto-entries u a)
      (λ new others t l e. no-entry rest others (omega arith) a.last l e)
      (λ _ entry position others. free (entry ∷ position ∷ []) others refl))

  module _ {pair end : List ℕ} (k : FieldsAt AskFields 2 rest pair end) where
    abbrev entry : ℕ
    entry = get_or pair 0 0

    abbrev position : ℕ
    position = get_or pair 1 0

    abbrev line : Ended AskFields rest (entry ∷ position ∷ []) end
    line = ask-ended k

    asked : Whole ((upto-entries u a).front ++ line_of ask_key line.list.fields) (said ns ms a.words)
        entry position (suc (2 + length a.words))
    asked = record {
      before = 2 + length a.words;
      front = (upto-entries u a).front;
      fields = line.list.fields;
      enough = omega arith;
      right = (upto-entries u a).right;
      asks = line.list.list;
      whole = refl;
      count = refl;
    }

    split : text ≡ ((upto-entries u a).front ++ line_of ask_key line.list.fields) ++ end
    split =
        (upto-entries u a).whole ∙ ap (λ l. (upto-entries u a).front ++ l) (ended-line line)
        ∙ sym (append_assoc (upto-entries u a).front (line_of ask_key line.list.fields) end)

    pub wrong-behind : ¬ (length end ≡ 0) → WrongLine text (count + 4)
    wrong-behind some =
        let over = begins end some in
        subst (WrongLine text) (omega (arith, a.counted))
        (goes_on (record {
          says = said ns ms a.words;
          entry = entry;
          position = position;
          front = (upto-entries u a).front ++ line_of ask_key line.list.fields;
          rest = end;
          asked = asked;
          whole = split;
        }) over.whole)

    pub whole-read : length end ≡ 0
        → Whole text (said ns ms a.words) entry position (suc (2 + length a.words))
    whole-read bare =
        subst (λ l. Whole l (said ns ms a.words) entry position (suc (2 + length a.words)))
        (sym (split
        ∙ ap (λ l. ((upto-entries u a).front ++ line_of ask_key line.list.fields) ++ l) (empty end bare)
        ∙ append-nil ((upto-entries u a).front ++ line_of ask_key line.list.fields))) asked

kept-size : (found now ns : List ℕ) (n : ℕ) → length found ≡ n → now ≡ put 0 (take (length found) ns) found
    → now ≡ put 0 (take n ns) found
kept-size found now ns n size e = e ∙ ap (λ k. put 0 (take k ns) found) size

pub reads_whole : {text prefix_found prefix_now loop_found loop_now table_found table_now pair : List ℕ}
    {second third fourth end : List ℕ} {letters laps count : ℕ} → length prefix_found ≡ 49
    → length loop_found ≡ 49 → length table_found ≡ 33
    → Listed (Worded prefix_key Letters) text prefix_found prefix_now letters second
    → Listed (Worded loop_key Letters) second loop_found loop_now laps third
    → AllEntries third table_found table_now count fourth → FieldsAt AskFields 2 fourth pair end
    → length end ≡ 0
    → Understood text prefix_found prefix_now loop_found loop_now table_found table_now
    (record {
      prefix = letters;
      looped = laps;
      entries = count;
      entry = get_or pair 0 0;
      position = get_or pair 1 0;
    })
reads_whole {prefix_found} {prefix_now} {loop_found} {loop_now} {table_found} {table_now} p l t first second
    all k
    over = record {
      says = said first.numbers second.numbers all.words;
      lines = suc (2 + length all.words);
      whole = whole-read (upto-loop (upto-prefix first) second) all k over;
      prefix = first.counted;
      looped = second.counted;
      entries = all.counted;
      prefix-kept = kept-size prefix_found prefix_now first.numbers 49 p first.keeps;
      loop-kept = kept-size loop_found loop_now second.numbers 49 l second.keeps;
      table_kept = kept-size table_found table_now all.words 33 t all.keeps;
    }
