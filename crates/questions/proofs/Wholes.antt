-- A text is whole in one way or has one wrong line, never both.
use mathlib.Core.Path.{◌≡◌, refl, sym, ap, subst, ◌∙◌}
use mathlib.Core.Logic.{by_cases}
use mathlib.Core.List.{List, [], ◌++◌, append_assoc, append-nil, cons-ne-nil}
use Prim.Native.Nat.{ℕ, suc, ◌<◌}
use native.Mathlib.Decide.{dec_lt}
use native.Mathlib.Omega.{arith}
use lib.ListN.{get_or}
use Rattle.questions.specs.Texts.{ask_key, Said, RightLines, Whole, BeginsRight, BeginsWhole, WrongLine}
use Rattle.questions.specs.Texts.{stuck, goes_on}
use Rattle.lists.specs.Lines.{line_of}
use Rattle.lists.proofs.Keyed.{plain-commas, line-one}
use Rattle.questions.proofs.Rights.{right-one, begins-fewer, next-line, entry-no-ask}

module _ {text : List ℕ} {k : ℕ} (b : BeginsWhole text k) where
  -- the right lines before the question, and the question behind them
  pub whole_split : text ≡ b.asked.front ++ (line_of ask_key b.asked.fields ++ b.rest)
  whole_split =
      b.whole ∙ ap (λ l. l ++ b.rest) b.asked.whole
      ∙ append_assoc b.asked.front (line_of ask_key b.asked.fields) b.rest

  pub whole-right : BeginsRight text b.asked.before
  whole-right = record {
    says = b.says;
    front = b.asked.front;
    rest = line_of ask_key b.asked.fields ++ b.rest;
    right = b.asked.right;
    whole = whole_split;
  }

  -- No right line stands where the question does.
  pub whole-no-more : (j : ℕ) → b.asked.before < j → ¬ BeginsRight text j
  whole-no-more j lt more =
      entry-no-ask b.asked.fields b.rest b.asked.enough
      (next-line b.asked.right whole_split (begins-fewer j (suc b.asked.before) lt more)) refl

-- Whole texts that begin the same bytes are the same.
pub record SameWhole (s : Said) (entry position k : ℕ) (rest : List ℕ) (t : Said) (entry₂ position₂ k₂ : ℕ)
    (others : List ℕ) : Type 0 where
  pub says : s ≡ t
  pub entries : entry ≡ entry₂
  pub positions : position ≡ position₂
  pub lines : k ≡ k₂
  pub behind : rest ≡ others

begins-one : {text : List ℕ} {j k : ℕ} (a : BeginsWhole text j) (b : BeginsWhole text k)
    → SameWhole a.says a.entry a.position j a.rest b.says b.entry b.position k b.rest
begins-one {text} {j} {k} a b =
    let la = a.asked.before in
    let lb = b.asked.before in
    let same : la ≡ lb
    = by_cases (dec_lt la lb) (λ lt. absurd (whole-no-more a lb lt (whole-right b)))
    (λ ge. by_cases (dec_lt lb la) (λ lt. absurd (whole-no-more b la lt (whole-right a)))
    (λ le. omega (arith, ge, le))) in
    let r = right-one (line_of ask_key a.asked.fields ++ a.rest)
    (line_of ask_key b.asked.fields ++ b.rest) a.asked.right
    (subst (λ n. RightLines n b.asked.front b.says) (sym same) b.asked.right)
    (sym (whole_split a) ∙ whole_split b) in
    let l = line-one (plain-commas 65535) ask_key a.asked.fields a.rest b.asked.fields b.rest
    a.asked.asks b.asked.asks r.behind in
    record {
      says = r.says;
      entries = ap (λ ns. get_or ns 0 0) l.numbers;
      positions = ap (λ ns. get_or ns 1 0) l.numbers;
      lines = a.asked.count ∙ ap suc same ∙ sym b.asked.count;
      behind = l.behind;
    }

abbrev whole-begins : {text : List ℕ} {s : Said} {entry position k : ℕ} → Whole text s entry position k
    → BeginsWhole text k
whole-begins {text} {s} {entry} {position} w = record {
  says = s;
  entry = entry;
  position = position;
  front = text;
  rest = [];
  asked = w;
  whole = sym (append-nil text);
}

-- What a whole text says and asks is determined.
pub whole-one : {text : List ℕ} {s t : Said} {entry entry₂ position position₂ k k₂ : ℕ}
    → Whole text s entry position k → Whole text t entry₂ position₂ k₂
    → SameWhole s entry position k [] t entry₂ position₂ k₂ []
whole-one w v = begins-one (whole-begins w) (whole-begins v)

-- A text that begins with a whole text has no wrong line before its end.
whole-stuck : {text : List ℕ} {j k : ℕ} → BeginsWhole text j → BeginsRight text k → ¬ BeginsRight text (suc k)
    → ¬ BeginsWhole text (suc k) → ⊥
whole-stuck {text} {j} {k} b r no-right no_whole =
    let l = b.asked.before in
    by_cases (dec_lt l k) (λ lt. whole-no-more b k lt r)
    (λ ge. by_cases (dec_lt k l) (λ lt. no-right (begins-fewer l (suc k) lt (whole-right b)))
    (λ le. no_whole (subst (BeginsWhole text) (omega (arith, ge, le, b.asked.count)) b)))

-- A whole text has no wrong line.
pub whole-not-wrong : {text : List ℕ} {s : Said} {entry position k n : ℕ} → Whole text s entry position k
    → ¬ WrongLine text n
whole-not-wrong w (stuck r no-right no_whole) = whole-stuck (whole-begins w) r no-right no_whole
whole-not-wrong w (goes_on {x} {others} b e) =
    cons-ne-nil x others (sym e ∙ (begins-one b (whole-begins w)).behind)

-- A text has at most one wrong line.
pub wrong-one : {text : List ℕ} {n m : ℕ} → WrongLine text n → WrongLine text m → n ≡ m
wrong-one (stuck {k} r no-right no_whole) (stuck {k = j} q no-right₂ no-whole₂) =
    by_cases (dec_lt k j) (λ lt. absurd (no-right (begins-fewer j (suc k) lt q)))
    (λ ge. by_cases (dec_lt j k) (λ lt. absurd (no-right₂ (begins-fewer k (suc j) lt r)))
    (λ le. omega (arith, ge, le)))
wrong-one (stuck r no-right no_whole) (goes_on b e) = absurd (whole-stuck b r no-right no_whole)
wrong-one (goes_on b e) (stuck r no-right no_whole) = absurd (whole-stuck b r no-right no_whole)
wrong-one (goes_on b e) (goes_on c f) = ap suc (begins-one b c).lines
