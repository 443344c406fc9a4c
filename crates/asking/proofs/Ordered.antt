-- The order of refusals said a second time, as one number: the first of two that is one.
-- It is the number of the first test that fails.
use mathlib.Core.Path.{◌≡◌, refl, sym, ap, ◌∙◌}
use mathlib.Core.Bool.{Bool, true, false, not, cond, ◌&&◌, ◌||◌}
use mathlib.Core.Logic.{by_cases}
use mathlib.Core.List.{List, [], ◌∷◌}
use Prim.Native.Nat.{ℕ, ◌+◌}
use native.Mathlib.Decide.{dec_le, ℕ_discrete}
use native.Mathlib.Omega.{arith}
use borrow.Author.Tests.{eq-eqb, ne_eqb, lt-ltb, le-ltb, le-leb, lt-leb}
use lib.Dec.{eqb, ltb, leb}
use lib.ListN.{length}
use Rattle.schedule.specs.Limits.{max_letters, max_entries, max_position, work_length}
use Rattle.schedule.specs.Figures.{Figures}
use Rattle.schedule.specs.Tests.{Test, AllPass, none, also, FirstFails, here, later}
use Rattle.rules.specs.Tables.{keeps_all}
use Rattle.rules.specs.Low.{low_all}
use Rattle.asking.specs.Questions.{Question, question_tests, work_tests}

-- 0 is none.
abbrev or_else : ℕ → ℕ → ℕ
or_else n m = cond (eqb n 0) m n

abbrev lengths_refusal : ℕ → ℕ → ℕ
lengths_refusal u v = cond (eqb v 0) 1 (cond (ltb max_letters (u + v)) 2 0)

abbrev table_refusal : List ℕ → ℕ
table_refusal table =
    cond (eqb (length table) 0 || ltb max_entries (length table)) 3 (cond (keeps_all table) 0 4)

abbrev entry_refusal : List ℕ → ℕ → ℕ
entry_refusal table e = cond (low_all table) (cond (ltb e (length table)) 0 6) 5

abbrev position_refusal : ℕ → ℕ
position_refusal i = cond (ltb max_position i) 7 0

abbrev pub refusal_number : Question → ℕ → ℕ
refusal_number q len =
    or_else (lengths_refusal (length q.prefix) (length q.loop))
    (or_else (table_refusal q.table)
    (or_else (entry_refusal q.table q.entry)
    (or_else (position_refusal q.position) (cond (ltb len work_length) 8 0))))

-- the number of the first test that fails, or 0
abbrev first_number : List Test → ℕ
first_number [] = 0
first_number (t ∷ ts) = cond t.passes (first_number ts) t.answer.number

fails-number : {ts : List Test} {r : Figures} → FirstFails ts r → r.number ≡ first_number ts
fails-number (here {t} {ts} f) = sym (ap (λ b. cond b (first_number ts) t.answer.number) f)
fails-number (later {t} {ts} p a) =
    fails-number a ∙ sym (ap (λ b. cond b (first_number ts) t.answer.number) p)

passes-number : {ts : List Test} → AllPass ts → first_number ts ≡ 0
passes-number none = refl
passes-number (also {t} {ts} p ps) =
    ap (λ b. cond b (first_number ts) t.answer.number) p ∙ passes-number ps

-- the two ways, a pair of tests at a time; the rest is what comes behind
module _ (rest : ℕ) where
  lengths-same : (zero long : Bool)
      → or_else (cond zero 1 (cond long 2 0)) rest ≡ cond (not zero) (cond (not long) rest 2) 1
  lengths-same true long = refl
  lengths-same false true = refl
  lengths-same false false = refl

  table_same : (zero many kept : Bool)
      → or_else (cond (zero || many) 3 (cond kept 0 4)) rest
      ≡ cond (not zero && not many) (cond kept rest 4) 3
  table_same true many kept = refl
  table_same false true kept = refl
  table_same false false true = refl
  table_same false false false = refl

  entry-same : (low inside : Bool)
      → or_else (cond low (cond inside 0 6) 5) rest ≡ cond low (cond inside rest 6) 5
  entry-same true true = refl
  entry-same true false = refl
  entry-same false inside = refl

  position-same : (far : Bool) → or_else (cond far 7 0) rest ≡ cond (not far) rest 7
  position-same true = refl
  position-same false = refl

length-same : (short : Bool) → cond {A = ℕ} short 8 0 ≡ cond (not short) 0 8
length-same true = refl
length-same false = refl

-- what is tested is the opposite of what is refused
some-not : (n : ℕ) → not (eqb n 0) ≡ ltb 0 n
some-not n = by_cases (ℕ_discrete n 0)
    (λ e. simp (eq-eqb n 0 e, le-ltb 0 n (omega (arith, e))))
    (λ ne. simp (ne_eqb n 0 ne, lt-ltb 0 n (omega (arith, ne))))

most-not : (n m : ℕ) → not (ltb m n) ≡ leb n m
most-not n m = by_cases (dec_le n m)
    (λ le. simp (le-ltb m n le, le-leb n m le))
    (λ gt. simp (lt-ltb m n (omega (arith, gt)), lt-leb n m (omega (arith, gt))))

number_same : (q : Question) (len : ℕ) → refusal_number q len ≡ first_number (work_tests q len)
unfolding work_tests question_tests
number_same q len =
    let u = length q.prefix in
    let v = length q.loop in
    let n = length q.table in
    let kept = keeps_all q.table in
    let low = low_all q.table in
    let inside = ltb q.entry n in
    lengths-same _ (eqb v 0) (ltb max_letters (u + v))
    ∙ (λ k. cond (some-not v k)
    (cond (most-not (u + v) max_letters k)
    (table_same (or_else (cond low (cond inside 0 6) 5)
    (or_else (cond (ltb max_position q.position) 7 0) (cond (ltb len work_length) 8 0)))
    (eqb n 0) (ltb max_entries n) kept k) 2) 1)
    ∙ (λ k. cond (ltb 0 v)
    (cond (leb (u + v) max_letters)
    (cond (some-not n k && most-not n max_entries k)
    (cond kept
    (entry-same (or_else (cond (ltb max_position q.position) 7 0) (cond (ltb len work_length) 8 0))
    low inside k) 4) 3) 2) 1)
    ∙ (λ k. cond (ltb 0 v)
    (cond (leb (u + v) max_letters)
    (cond (ltb 0 n && leb n max_entries)
    (cond kept
    (cond low
    (cond inside (position-same (length-same (ltb len work_length) k) (ltb max_position q.position) k) 6) 5)
    4) 3) 2) 1)
    ∙ (λ k. cond (ltb 0 v)
    (cond (leb (u + v) max_letters)
    (cond (ltb 0 n && leb n max_entries)
    (cond kept
    (cond low
    (cond inside (cond (most-not q.position max_position k) (cond (most-not work_length len k) 0 8) 7) 6) 5)
    4) 3) 2) 1)

-- A question is refused with that number, and passes where it is 0.
pub order-refuses : (q : Question) (len : ℕ) {r : Figures} → FirstFails (work_tests q len) r
    → r.number ≡ refusal_number q len
order-refuses q len f = fails-number f ∙ sym (number_same q len)

pub order-passes : (q : Question) (len : ℕ) → AllPass (work_tests q len) → refusal_number q len ≡ 0
order-passes q len ps = number_same q len ∙ passes-number ps
