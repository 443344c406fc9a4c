-- Numbers with commas, read one by one: what is known behind some of them,
-- and the laws of a turn and of the returns.
use mathlib.Core.Path.{◌≡◌, refl, sym, ap, ap₂, subst, ◌∙◌}
use mathlib.Core.Logic.{inl, ⊎_elim}
use mathlib.Core.List.{List, [], ◌∷◌, ◌++◌, head-eq_of_cons-eq, tail-eq_of_cons-eq, append_assoc}
use Prim.Native.Nat.{ℕ, ◌+◌, ◌-◌, ◌<◌, ◌≤◌}
use native.Mathlib.Numerals.{add-one}
use native.Mathlib.Omega.{arith}
use lib.ListN.{take, length, get_or, drop, set, length-append, length-drop}
use lib.Seq.{slice, drop-cons, drop-drop, drop-append_seam, take_all}
use Rattle.decimals.specs.inside.Numbers.{NoDigit, Stands, Numbered}
use Rattle.std.specs.Prelude.{Some, None}
use Rattle.decimals.specs.declared.Numeral.{Numeral}
use Rattle.decimals.proofs.Standing.{stands_on, stands-made, stands_one}
use Rattle.lists.specs.Lines.{Commas, last, more}
use Rattle.lists.specs.inside.Lists.{Ended, SomeList, Listed}
use Rattle.lists.proofs.Numbers.{First, ended-first}
use Rattle.lists.proofs.Keeping.{kept-none, kept_more}
use Rattle.schedule.specs.Buffers.{put}

pub record Going (max : ℕ) (text found left : List ℕ) (count : ℕ) (now : List ℕ) : Type 0 where
  pub numbers : List ℕ
  pub counted : count ≡ length numbers
  pub past : count + length left ≤ length text
  pub forth : (ns rest : List ℕ) → Ended (Commas max) left ns rest
      → Ended (Commas max) text (numbers ++ ns) rest
  pub back : SomeList (Commas max) text → SomeList (Commas max) left
  pub keeps : now ≡ put 0 (take (length found) numbers) found

-- no digit stands where the first number ends
first_ends : {max : ℕ} {left : List ℕ} (f : First max left) → NoDigit (get_or f.others 0 0)
first_ends f = ⊎_elim
    (λ e. inl (subst (λ l. get_or l 0 0 < 48) (sym e) (omega arith)))
    (λ b. inl (subst (λ l. get_or l 0 0 < 48) (sym b.comma) (omega arith)))
    f.follows

module _ {max : ℕ} {left : List ℕ} (f : First max left) where
  first-stands : Stands left 0 (0 + length f.digits) f.n
  first-stands = stands-made left f.digits f.others 0 f.n (omega arith) f.whole f.decimal (first_ends f)

  -- behind the number that stands there
  first-others : {n k : ℕ} → Stands left 0 k n → drop k left ≡ f.others
  first-others s =
      ap (λ j. drop j left) (stands_one s first-stands).0
      ∙ sym (drop-drop (length f.digits) 0 left)
      ∙ ap (drop (length f.digits)) f.whole
      ∙ drop-append_seam f.digits f.others

cut : {next n b : ℕ} {left others : List ℕ} → Stands left 0 next n → drop next left ≡ b ∷ others
    → left ≡ slice 0 next left ++ b ∷ others
cut {next} {left} s e = stands_on s ∙ ap (λ l. slice 0 next left ++ l) e

module _ {max next n : ℕ} {left : List ℕ} (s : Stands left 0 next n) where
  -- no byte follows the number
  ends-text : length (drop next left) ≡ 0 → ¬ SomeList (Commas max) left
  ends-text end some =
      let f = ended-first some.ended in
      ⊎_elim (λ e. omega (arith, end, ap length (first-others f s ∙ e)))
      (λ b. omega (arith, end, ap length (first-others f s ∙ b.comma))) f.follows

  module _ {b : ℕ} {others : List ℕ} (e : drop next left ≡ b ∷ others) where
    newline-ends : n ≤ max → b ≡ 10 → Ended (Commas max) left (n ∷ []) others
    newline-ends le is = record {
      bytes = slice 0 next left;
      list = last s.digits le;
      whole = cut s e ∙ ap (λ c. slice 0 next left ++ c ∷ others) is;
    }

    comma-forth : n ≤ max → b ≡ 44 → (ns rest : List ℕ) → Ended (Commas max) others ns rest
        → Ended (Commas max) left (n ∷ ns) rest
    comma-forth le is ns rest ended = record {
      bytes = slice 0 next left ++ 44 ∷ ended.bytes;
      list = more s.digits le ended.list;
      whole =
          cut s e
          ∙ (λ i. slice 0 next left ++ is i ∷ ended.whole i)
          ∙ sym (append_assoc (slice 0 next left) (44 ∷ ended.bytes) (10 ∷ rest));
    }

    comma-back : b ≡ 44 → SomeList (Commas max) left → SomeList (Commas max) others
    comma-back is some =
        let f = ended-first some.ended in
        let here : b ∷ others ≡ f.others = sym e ∙ first-others f s in
        ⊎_elim (λ newline. absurd (omega (arith, is, head-eq_of_cons-eq (here ∙ newline))))
        (λ c. record {
          numbers = f.ns;
          rest = f.rest;
          ended = record {
            bytes = c.ended.bytes;
            list = c.ended.list;
            whole = tail-eq_of_cons-eq (here ∙ c.comma) ∙ c.ended.whole;
          };
        }) f.follows

    neither : ¬ (b ≡ 10) → ¬ (b ≡ 44) → ¬ SomeList (Commas max) left
    neither newline comma some =
        let f = ended-first some.ended in
        let here : b ∷ others ≡ f.others = sym e ∙ first-others f s in
        ⊎_elim (λ is. newline (head-eq_of_cons-eq (here ∙ is)))
        (λ c. comma (head-eq_of_cons-eq (here ∙ c.comma))) f.follows

-- The bytes behind a place, as a part of the text.
abbrev pub part : List ℕ → ℕ → List ℕ
part text at = take (length text - at) (drop at text)

part_all : (text : List ℕ) (at : ℕ) → part text at ≡ drop at text
part_all text at = take_all (length text - at) (drop at text) (omega (arith, length-drop at text))

pub part-none : (text : List ℕ) (at : ℕ) → length text ≤ at → length (part text at) ≡ 0
part-none text at le = omega (arith, ap length (part_all text at), length-drop at text, le)

pub part-more : (text : List ℕ) (at b : ℕ) → at < length text → b ≡ get_or text at 0
    → part text at ≡ b ∷ part text (at + 1)
part-more text at b lt is =
    part_all text at ∙ drop-cons text at 0 lt
    ∙ ap₂ (λ c l. c ∷ l) (sym is)
    (ap (λ k. drop k text) (sym (add-one at)) ∙ sym (part_all text (at + 1)))

module _ {max : ℕ} {text found : List ℕ} where
  pub go-none : Going max text found text 0 found
  go-none = record {
    numbers = [];
    counted = refl;
    past = omega arith;
    forth = λ ns rest e. e;
    back = λ s. s;
    keeps = kept-none found;
  }

  module _ {left now : List ℕ} {count : ℕ} (g : Going max text found left count now) where
    pub go-wrong : Numbered left 0 max None → ¬ SomeList (Commas max) text
    go-wrong wrong some =
        let f = ended-first (g.back some).ended in
        wrong (0 + length f.digits) f.n (first-stands f) f.small

    module _ {a : Numeral} (r : Numbered left 0 max (Some a)) where
      pub go-end : length (part left a.next) ≡ 0 → ¬ SomeList (Commas max) text
      go-end end some = ends-text r.2 (ap length (sym (part_all left a.next)) ∙ end) (g.back some)

      module _ {b : ℕ} {rest : List ℕ} (e : part left a.next ≡ b ∷ rest) where
        behind : drop a.next left ≡ b ∷ rest
        behind = sym (part_all left a.next) ∙ e

        pub go-other : ¬ (b ≡ 10) → ¬ (b ≡ 44) → ¬ SomeList (Commas max) text
        go-other newline comma some = neither r.2 behind newline comma (g.back some)

        module _ {then : List ℕ} (stored : then ≡ set now count a.value) where
          keeps-more : then ≡ put 0 (take (length found) (g.numbers ++ a.value ∷ [])) found
          keeps-more =
              stored ∙ (λ i. set (g.keeps i) (g.counted i) a.value) ∙ kept_more found g.numbers a.value

          shorter : count + 1 + length rest < length text
          shorter = omega (arith, g.past, r.0, ap length behind, length-drop a.next left)

          counted-more : count + 1 ≡ length (g.numbers ++ a.value ∷ [])
          counted-more = omega (arith, g.counted, length-append g.numbers (a.value ∷ []))

          pub go-done : b ≡ 10 → Listed (Commas max) text found then (count + 1) rest
          go-done is = record {
            numbers = g.numbers ++ a.value ∷ [];
            ended = g.forth (a.value ∷ []) rest (newline-ends r.2 behind r.1 is);
            past = shorter;
            counted = counted-more;
            keeps = keeps-more;
          }

          pub go-turn : b ≡ 44 → Going max text found rest (count + 1) then
          go-turn is = record {
            numbers = g.numbers ++ a.value ∷ [];
            counted = counted-more;
            past = omega (arith, shorter);
            forth = λ ns others ended. subst (λ l. Ended (Commas max) text l others)
                (sym (append_assoc g.numbers (a.value ∷ []) ns))
                (g.forth (a.value ∷ ns) others (comma-forth r.2 behind r.1 is ns others ended));
            back = λ some. comma-back r.2 behind is (g.back some);
            keeps = keeps-more;
          }
