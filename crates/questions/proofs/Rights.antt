-- Right lines: a text begins with k of them in one way.
use mathlib.Core.Path.{◌≡◌, refl, sym, ap, subst, ◌∙◌}
use mathlib.Core.Logic.{by_cases}
use mathlib.Core.List.{List, [], ◌∷◌, ◌++◌, append_assoc, head-eq_of_cons-eq}
use Prim.Native.Nat.{ℕ, zero, suc, ◌≤◌}
use native.Mathlib.Nat.{suc_inj, suc-ne-zero}
use native.Mathlib.Decide.{dec_lt}
use native.Mathlib.Omega.{arith}
use lib.ListN.{get_or}
use Rattle.questions.specs.Texts.{prefix_key, loop_key, entry_key, ask_key, Said, said, Line, prefixed}
use Rattle.questions.specs.Texts.{looped, entered, RightLines, begun, further, BeginsRight}
use Rattle.lists.specs.Lines.{line_of}
use Rattle.rules.specs.Words.{entry_word}
use Rattle.lists.proofs.Keyed.{plain-commas, plain-letters, line-one}

-- Right lines that begin the same bytes are the same.
pub record SameLines (bs : List ℕ) (s : Said) (rest cs : List ℕ) (t : Said) (others : List ℕ) : Type 0 where
  pub bytes : bs ≡ cs
  pub says : s ≡ t
  pub behind : rest ≡ others

next_one : {k : ℕ} {s t : Said} {new new₂ : List ℕ} {then then₂ : Said} (rest others : List ℕ)
    → Line k s new then → Line k t new₂ then₂ → s ≡ t → new ++ rest ≡ new₂ ++ others
    → SameLines new then rest new₂ then₂ others
next_one rest others (prefixed {bs} z p) (prefixed {bs = cs} y q) same e =
    let l = line-one plain-letters prefix_key bs rest cs others p q e in
    record {
      bytes = ap (line_of prefix_key) l.bytes;
      says = λ i. said (l.numbers i) (same i).loop (same i).table;
      behind = l.behind;
    }
next_one rest others (prefixed z p) (looped y q) same e = absurd (omega arith)
next_one rest others (prefixed z p) (entered y q) same e = absurd (omega arith)
next_one rest others (looped z p) (prefixed y q) same e = absurd (omega arith)
next_one rest others (looped {bs} z p) (looped {bs = cs} y q) same e =
    let l = line-one plain-letters loop_key bs rest cs others p q e in
    record {
      bytes = ap (line_of loop_key) l.bytes;
      says = λ i. said (same i).prefix (l.numbers i) (same i).table;
      behind = l.behind;
    }
next_one rest others (looped z p) (entered y q) same e = absurd (omega arith)
next_one rest others (entered z p) (prefixed y q) same e = absurd (omega arith)
next_one rest others (entered z p) (looped y q) same e = absurd (omega arith)
next_one rest others (entered {bs} z p) (entered {bs = cs} y q) same e =
    let l = line-one (plain-commas 255) entry_key bs rest cs others p q e in
    let word = ap (λ ns. entry_word (get_or ns 0 0) (get_or ns 1 0) (get_or ns 2 0)) l.numbers in
    record {
      bytes = ap (line_of entry_key) l.bytes;
      says = λ i. said (same i).prefix (same i).loop ((same i).table ++ word i ∷ []);
      behind = l.behind;
    }

same_lines : {j k : ℕ} {bs cs : List ℕ} {s t : Said} (rest others : List ℕ) → RightLines j bs s
    → RightLines k cs t → j ≡ k → bs ++ rest ≡ cs ++ others → SameLines bs s rest cs t others
same_lines rest others begun begun same e = record { bytes = refl; says = refl; behind = e }
same_lines rest others begun (further r l) same e = absurd (suc-ne-zero _ (sym same))
same_lines rest others (further r l) begun same e = absurd (suc-ne-zero _ same)
same_lines rest others (further {k} {bs} {new} {t} r l)
    (further {k = k₂} {bs = cs} {new = new₂} {s = s₂} {t = t₂} r₂ l₂) same e =
    let before = same_lines (new ++ rest) (new₂ ++ others) r r₂ (suc_inj same)
    (sym (append_assoc bs new rest) ∙ e ∙ append_assoc cs new₂ others) in
    let here = next_one rest others l (subst (λ n. Line n s₂ new₂ t₂) (sym (suc_inj same)) l₂) before.says
    before.behind in
    record { bytes = λ i. before.bytes i ++ here.bytes i; says = here.says; behind = here.behind }

pub right-one : {k : ℕ} {bs cs : List ℕ} {s t : Said} (rest others : List ℕ) → RightLines k bs s
    → RightLines k cs t → bs ++ rest ≡ cs ++ others → SameLines bs s rest cs t others
right-one rest others r q e = same_lines rest others r q refl e

-- The last of the right lines, and those before it.
pub record Last (j : ℕ) (bs : List ℕ) (s : Said) : Type 0 where
  pub front : List ℕ
  pub new : List ℕ
  pub says : Said
  pub right : RightLines j front says
  pub line : Line j says new s
  pub whole : bs ≡ front ++ new

pub right-last : {k j : ℕ} {bs : List ℕ} {s : Said} → RightLines k bs s → k ≡ suc j → Last j bs s
right-last begun e = absurd (suc-ne-zero _ (sym e))
right-last (further {bs} {new} {s} {t} r l) e = record {
  front = bs;
  new = new;
  says = s;
  right = subst (λ n. RightLines n bs s) (suc_inj e) r;
  line = subst (λ n. Line n s new t) (suc_inj e) l;
  whole = refl;
}

begins-before : {text : List ℕ} {k : ℕ} → BeginsRight text (suc k) → BeginsRight text k
begins-before b =
    let l = right-last b.right refl in
    record {
      says = l.says;
      front = l.front;
      rest = l.new ++ b.rest;
      right = l.right;
      whole = b.whole ∙ ap (λ cs. cs ++ b.rest) l.whole ∙ append_assoc l.front l.new b.rest;
    }

-- Fewer right lines begin it too.
pub begins-fewer : {text : List ℕ} (k j : ℕ) → j ≤ k → BeginsRight text k → BeginsRight text j
begins-fewer {text} zero j le b = subst (BeginsRight text) (omega arith) b
begins-fewer {text} (suc k) j le b =
    by_cases (dec_lt k j) (λ lt. subst (BeginsRight text) (omega arith) b)
    (λ ge. begins-fewer k j (omega (arith, ge)) (begins-before b))

-- Behind k right lines stands the next line of every text that begins with one more.
pub record NextLine (k : ℕ) (s : Said) (rest : List ℕ) : Type 0 where
  pub new : List ℕ
  pub says : Said
  pub others : List ℕ
  pub line : Line k s new says
  pub whole : rest ≡ new ++ others

pub next-line : {text front rest : List ℕ} {k : ℕ} {s : Said} → RightLines k front s → text ≡ front ++ rest
    → BeginsRight text (suc k) → NextLine k s rest
next-line {rest} {k} r e b =
    let l = right-last b.right refl in
    let same = right-one (l.new ++ b.rest) rest l.right r
    (sym (append_assoc l.front l.new b.rest) ∙ ap (λ cs. cs ++ b.rest) (sym l.whole)
    ∙ sym b.whole ∙ e) in
    record {
      new = l.new;
      says = b.says;
      others = b.rest;
      line = subst (λ s. Line k s l.new b.says) same.says l.line;
      whole = sym same.behind;
    }

differs : {k : ℕ} {s t : Said} {new : List ℕ} (after fields others : List ℕ) → 2 ≤ k → Line k s new t
    → ¬ (new ++ after ≡ line_of ask_key fields ++ others)
differs after fields others le (prefixed z p) e = omega arith
differs after fields others le (looped z p) e = omega arith
differs after fields others le (entered y p) e = omega (arith, head-eq_of_cons-eq e)

-- An entry is no question: they differ in their first byte.
pub entry-no-ask : {k : ℕ} {s : Said} {rest : List ℕ} (fields others : List ℕ) → 2 ≤ k → NextLine k s rest
    → ¬ (rest ≡ line_of ask_key fields ++ others)
entry-no-ask fields others le n e = differs n.others fields others le n.line (sym n.whole ∙ e)
