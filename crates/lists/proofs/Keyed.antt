-- A keyword and what is listed behind it, up to the newline.
use mathlib.Core.Path.{◌≡◌, refl, sym, ap, subst, ◌∙◌}
use mathlib.Core.List.{List, [], ◌∷◌, ◌++◌, append_assoc, append_cancel_left}
use Prim.Native.Nat.{ℕ}
use native.Mathlib.Omega.{arith}
use lib.ListN.{length, length-append}
use Rattle.lists.specs.Lines.{line_of, Commas, Letters, none, some}
use Rattle.lists.specs.inside.Lists.{BytesFor, Ended, SomeList, Worded, Listed, Lists}
use Rattle.lists.specs.declared.Listing.{Listing}
use Rattle.std.specs.Prelude.{Option, Some, None}
use Rattle.lists.proofs.Splits.{Without, split_one}
use Rattle.lists.proofs.Numbers.{commas-without, commas-one, letters-without, letters-one}
use Rattle.lists.proofs.Keeping.{kept-none}

-- Bytes without a newline that mean one list of numbers.
pub record OneReading (P : BytesFor) : Type 0 where
  pub free : {bs ns : List ℕ} → P bs ns → Without 10 bs
  pub one : {bs cs ns ms : List ℕ} → P bs ns → P cs ms → bs ≡ cs → ns ≡ ms

pub plain-commas : (max : ℕ) → OneReading (Commas max)
plain-commas max = record { free = commas-without; one = commas-one }

pub plain-letters : OneReading Letters
plain-letters = record { free = letters-without; one = letters-one }

-- a line, and what follows it
pub line_on : (word fields rest : List ℕ) → line_of word fields ++ rest ≡ word ++ (fields ++ 10 ∷ rest)
line_on word fields rest =
    append_assoc word (fields ++ 10 ∷ []) rest ∙ ap (λ l. word ++ l) (append_assoc fields (10 ∷ []) rest)

-- Lines of one keyword that begin the same bytes say the same and end in one place.
pub record SameLine (fields ns rest others-fields ms others : List ℕ) : Type 0 where
  pub bytes : fields ≡ others-fields
  pub numbers : ns ≡ ms
  pub behind : rest ≡ others

pub line-one : {P : BytesFor} → OneReading P → (word fields rest fields₂ others : List ℕ) {ns ms : List ℕ}
    → P fields ns → P fields₂ ms → line_of word fields ++ rest ≡ line_of word fields₂ ++ others
    → SameLine fields ns rest fields₂ ms others
line-one plain word fields rest fields₂ others p q e =
    let s = split_one 10 fields fields₂ rest others (plain.free p) (plain.free q)
    (append_cancel_left word (fields ++ 10 ∷ rest) (fields₂ ++ 10 ∷ others)
    (sym (line_on word fields rest) ∙ e ∙ line_on word fields₂ others)) in
    record { bytes = s.0; numbers = plain.one p q s.0; behind = s.1 }

module _ {P : BytesFor} {word left ns rest : List ℕ} (e : Ended (Worded word P) left ns rest) where
  pub ended-fields : left ≡ word ++ (e.list.fields ++ 10 ∷ rest)
  ended-fields =
      e.whole ∙ ap (λ l. l ++ 10 ∷ rest) e.list.whole ∙ append_assoc word e.list.fields (10 ∷ rest)

  pub ended-line : left ≡ line_of word e.list.fields ++ rest
  ended-line = ended-fields ∙ sym (line_on word e.list.fields rest)

-- a line that begins what is left is listed behind its keyword
pub line-ended : (P : BytesFor) (word fields left rest : List ℕ) {ns : List ℕ} → P fields ns
    → left ≡ line_of word fields ++ rest → Ended (Worded word P) left ns rest
line-ended P word fields left rest p e = record {
  bytes = word ++ fields;
  list = record { fields = fields; list = p; whole = refl };
  whole = e ∙ line_on word fields rest ∙ sym (append_assoc word fields (10 ∷ rest));
}

pub ended-one : {P : BytesFor} {word left ns rest ms others : List ℕ} → OneReading P
    → Ended (Worded word P) left ns rest → Ended (Worded word P) left ms others → (ns ≡ ms) × (rest ≡ others)
ended-one {word} {rest} {others} plain e f =
    let s = line-one plain word e.list.fields rest f.list.fields others e.list.list
    f.list.list (sym (ended-line e) ∙ ended-line f) in
    (s.numbers, s.behind)

module _ (P : BytesFor) (text found now : List ℕ) (r : Option Listing) where
  pub lists-wrong : Lists P text found now r → r ≡ None → ¬ SomeList P text
  unfolding Lists
  lists-wrong l e = subst (Lists P text found now) e l

  pub none-listed : r ≡ None → ¬ SomeList P text → Lists P text found now r
  unfolding Lists
  none-listed e wrong = subst (Lists P text found now) (sym e) wrong

pub lists-read : {P : BytesFor} {text found now : List ℕ} {r : Option Listing} {a : Listing}
    → Lists P text found now r → r ≡ Some a → Listed P text found now a.count a.rest.now
unfolding Lists
lists-read {P} {text} {found} {now} l e = subst (Lists P text found now) e l

module _ (P : BytesFor) (text word : List ℕ) where
  pub word-wrong : ((rest : List ℕ) → ¬ (text ≡ word ++ rest)) → ¬ SomeList (Worded word P) text
  word-wrong never s = never (s.ended.list.fields ++ 10 ∷ s.rest) (ended-fields s.ended)

  module _ (listed : List ℕ) (e : text ≡ word ++ listed) where
    on : {ns rest : List ℕ} → Ended P listed ns rest → Ended (Worded word P) text ns rest
    on {rest} l = record {
      bytes = word ++ l.bytes;
      list = record { fields = l.bytes; list = l.list; whole = refl };
      whole = e ∙ ap (λ l. word ++ l) l.whole ∙ sym (append_assoc word l.bytes (10 ∷ rest));
    }

    back : SomeList (Worded word P) text → SomeList P listed
    back s = record {
      numbers = s.numbers;
      rest = s.rest;
      ended = record {
        bytes = s.ended.list.fields;
        list = s.ended.list.list;
        whole = append_cancel_left word listed (s.ended.list.fields ++ 10 ∷ s.rest)
            (sym e ∙ ended-fields s.ended);
      };
    }

    pub word-lists : (found now : List ℕ) (r : Option Listing) → Lists P listed found now r
        → Lists (Worded word P) text found now r
    unfolding Lists
    word-lists found now None wrong = λ s. wrong (back s)
    word-lists found now (Some a) l = record {
      numbers = l.numbers;
      ended = on l.ended;
      past = omega (arith, l.past, ap length e, length-append word listed);
      counted = l.counted;
      keeps = l.keeps;
    }

module _ (text : List ℕ) where
  pub letters-none : {rest : List ℕ} (found : List ℕ) → text ≡ 10 ∷ rest
      → Listed Letters text found found 0 rest
  letters-none found e = record {
    numbers = [];
    ended = record { bytes = []; list = none; whole = e };
    past = omega (arith, ap length e);
    counted = refl;
    keeps = kept-none found;
  }

  begins-other : {bs ns : List ℕ} (rest : List ℕ) → Letters bs ns → ((rest : List ℕ) → ¬ (text ≡ 10 ∷ rest))
      → text ≡ bs ++ 10 ∷ rest → SomeList (Commas 4294967295) text
  begins-other rest none other e = absurd (other rest e)
  begins-other {bs} {ns} rest (some c) other e =
      record { numbers = ns; rest = rest; ended = record { bytes = bs; list = c; whole = e } }

  pub letters-some : (found now : List ℕ) (r : Option Listing) → ((rest : List ℕ) → ¬ (text ≡ 10 ∷ rest))
      → Lists (Commas 4294967295) text found now r → Lists Letters text found now r
  unfolding Lists
  letters-some found now None other wrong =
      λ s. wrong (begins-other s.rest s.ended.list other s.ended.whole)
  letters-some found now (Some a) other l = record {
    numbers = l.numbers;
    ended = record { bytes = l.ended.bytes; list = some l.ended.list; whole = l.ended.whole };
    past = l.past;
    counted = l.counted;
    keeps = l.keeps;
  }
