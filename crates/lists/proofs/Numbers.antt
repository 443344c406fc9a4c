-- Numbers with commas: their bytes have no newline, and mean one list of numbers.
use mathlib.Core.Path.{◌≡◌, refl, sym, ap, subst, ◌∙◌}
use mathlib.Core.Logic.{◌⊎◌, inl, inr}
use mathlib.Core.List.{List, [], ◌∷◌, ◌++◌, append_assoc}
use Prim.Native.Nat.{ℕ, ◌≤◌}
use native.Mathlib.Omega.{arith}
use lib.ListN.{length, length-append}
use Rattle.decimals.specs.Decimals.{Decimal}
use Rattle.decimals.proofs.Digits.{decimal-number, decimal-digits, decimal-some}
use Rattle.lists.specs.Lines.{Commas, last, more, Letters, none, some}
use Rattle.lists.specs.inside.Lists.{Ended}
use Rattle.lists.proofs.Splits.{Without, without-append, digits-without, no_stop, split_one}

comma-free : {ds : List ℕ} {n : ℕ} → Decimal ds n → Without 44 ds
comma-free {ds} d = digits-without 44 ds (omega arith) (decimal-digits d)

pub commas-without : {max : ℕ} {bs ns : List ℕ} → Commas max bs ns → Without 10 bs
commas-without (last {ds} d le) = digits-without 10 ds (omega arith) (decimal-digits d)
commas-without (more {ds} {bs} d le c) =
    without-append 10 ds (44 ∷ bs) (digits-without 10 ds (omega arith) (decimal-digits d))
    (λ e. omega arith, commas-without c)

pub letters-without : {bs ns : List ℕ} → Letters bs ns → Without 10 bs
letters-without none = tt
letters-without (some c) = commas-without c

pub commas-one : {max : ℕ} {bs cs ns ms : List ℕ} → Commas max bs ns → Commas max cs ms → bs ≡ cs → ns ≡ ms
commas-one (last d le) (last {n} e lf) same =
    ap (λ k. k ∷ []) (decimal-number d (subst (λ l. Decimal l n) (sym same) e))
commas-one (last {ds} d le) (more {ds = es} {bs} e lf c) same =
    absurd (no_stop 44 ds es bs (comma-free d) same)
commas-one (more {ds} {bs} d le c) (last {ds = es} e lf) same =
    absurd (no_stop 44 es ds bs (comma-free e) (sym same))
commas-one (more {ds} {bs} d le c) (more {ds = es} {bs = cs} {n} e lf f) same =
    let s = split_one 44 ds es bs cs (comma-free d) (comma-free e) same in
    let here = decimal-number d (subst (λ l. Decimal l n) (sym s.0) e) in
    let others = commas-one c f s.1 in
    λ i. here i ∷ others i

commas-some : {max : ℕ} {bs ns : List ℕ} → Commas max bs ns → 1 ≤ length bs
commas-some (last d le) = decimal-some d
commas-some (more {ds} {bs} d le c) = omega (arith, decimal-some d, length-append ds (44 ∷ bs))

pub letters-one : {bs cs ns ms : List ℕ} → Letters bs ns → Letters cs ms → bs ≡ cs → ns ≡ ms
letters-one none none same = refl
letters-one none (some c) same = absurd (omega (arith, commas-some c, ap length same))
letters-one (some c) none same = absurd (omega (arith, commas-some c, ap length same))
letters-one (some c) (some d) same = commas-one c d same

-- The numbers behind a comma.
pub record BehindComma (max : ℕ) (others ns rest : List ℕ) : Type 0 where
  pub after : List ℕ
  pub comma : others ≡ 44 ∷ after
  pub ended : Ended (Commas max) after ns rest

-- The first number of some with commas, and what follows it: a newline or a comma.
pub record First (max : ℕ) (left : List ℕ) : Type 0 where
  pub digits : List ℕ
  pub n : ℕ
  pub others : List ℕ
  pub ns : List ℕ
  pub rest : List ℕ
  pub decimal : Decimal digits n
  pub small : n ≤ max
  pub whole : left ≡ digits ++ others
  pub follows : (others ≡ 10 ∷ rest) ⊎ BehindComma max others ns rest

commas-first : {max : ℕ} {left bs ns : List ℕ} (rest : List ℕ) → Commas max bs ns → left ≡ bs ++ 10 ∷ rest
    → First max left
commas-first rest (last {ds} {n} d le) e = record {
  digits = ds;
  n = n;
  others = 10 ∷ rest;
  ns = [];
  rest = rest;
  decimal = d;
  small = le;
  whole = e;
  follows = inl refl;
}
commas-first rest (more {ds} {bs} {ns} {n} d le c) e = record {
  digits = ds;
  n = n;
  others = 44 ∷ (bs ++ 10 ∷ rest);
  ns = ns;
  rest = rest;
  decimal = d;
  small = le;
  whole = e ∙ append_assoc ds (44 ∷ bs) (10 ∷ rest);
  follows = inr (record {
    after = bs ++ 10 ∷ rest;
    comma = refl;
    ended = record { bytes = bs; list = c; whole = refl };
  });
}

pub ended-first : {max : ℕ} {left ns rest : List ℕ} → Ended (Commas max) left ns rest → First max left
ended-first {rest} e = commas-first rest e.list e.whole
