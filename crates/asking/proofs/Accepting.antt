-- Tests one after the other, as the entry points make them: the first that fails shuts the gate.
use mathlib.Core.Path.{◌≡◌, sym, subst, ◌∙◌}
use mathlib.Core.Bool.{Bool, true, false, ◌&&◌}
use mathlib.Core.List.{List, ◌++◌}
use Prim.Native.Nat.{ℕ, ◌<◌, ◌≤◌}
use native.Mathlib.Omega.{arith}
use borrow.Author.Tests.{eqb-true, eqb-false, lt-ltb, le-ltb, le-leb, lt-leb}
use lib.Dec.{eqb, leb, ltb}
use Rattle.std.specs.Prelude.{Result, Ok, Err, ⊤}
use Rattle.schedule.specs.Limits.{max_entries}
use Rattle.schedule.specs.Figures.{Figures}
use Rattle.schedule.specs.Tests.{Test, AllPass, FirstFails}
use Rattle.schedule.proofs.Tests.{fails-front, fails-behind, passes-both}
use Rattle.asking.specs.Answers.{refused}
use Rattle.asking.specs.inside.Gates.{Gates, shuts, lets_by}
use Rattle.asking.specs.declared.Refusal.{Refusal}

-- the number of entries: none, too many, or neither
module _ (n : ℕ) where
  pub count_none : n ≡ 0 → (ltb 0 n && leb n max_entries) ≡ false
  count_none e = simp (le-ltb 0 n (omega (arith, e)))

  pub count-many : max_entries < n → (ltb 0 n && leb n max_entries) ≡ false
  count-many lt = simp (lt-ltb 0 n (omega (arith, lt)), lt-leb n max_entries lt)

  pub count-passes : (n ≡ 0 → ⊥) → n ≤ max_entries → (ltb 0 n && leb n max_entries) ≡ true
  count-passes some le = simp (lt-ltb 0 n (omega (arith, some)), le-leb n max_entries le)

  -- the same by what a test for 0 says
  pub none-told : {b : Bool} → b ≡ eqb n 0 → b ≡ true → (ltb 0 n && leb n max_entries) ≡ false
  none-told is e = count_none (eqb-true n 0 (sym is ∙ e))

  pub some-told : {b : Bool} → b ≡ eqb n 0 → b ≡ false → n ≤ max_entries
      → (ltb 0 n && leb n max_entries) ≡ true
  some-told is e le = count-passes (eqb-false n 0 (sym is ∙ e)) le

-- a test of those in front fails, and what is answered has its figures
pub gates-front : (ts us : List Test) {gate : Result ⊤ Refusal} {r : Figures} → FirstFails ts r
    → (x : Refusal) × (gate ≡ Err x) × (refused x ≡ r) → Gates (ts ++ us) gate
gates-front ts us f (x, is, figures) =
    subst (Gates (ts ++ us)) (sym is) (shuts (subst (FirstFails (ts ++ us)) (sym figures) (fails-front us f)))

-- tests that pass, and others behind them
pub gates-behind : {ts us : List Test} {gate : Result ⊤ Refusal} → AllPass ts → Gates us gate
    → Gates (ts ++ us) gate
gates-behind ps (shuts f) = shuts (fails-behind ps f)
gates-behind ps (lets_by qs) = lets_by (passes-both ps qs)

pub gates-passed : {ts : List Test} {gate : Result ⊤ Refusal} {done : ⊤} → gate ≡ Ok done → Gates ts gate
    → AllPass ts
gates-passed {ts} {done = done} is g = all (subst (Gates ts) is g)
  where
    all : Gates ts (Ok done) → AllPass ts
    all (lets_by ps) = ps

pub gates-first : {ts : List Test} {gate : Result ⊤ Refusal} {x : Refusal} → gate ≡ Err x → Gates ts gate
    → FirstFails ts (refused x)
gates-first {ts} {x = x} is g = first (subst (Gates ts) is g)
  where
    first : Gates ts (Err x) → FirstFails ts (refused x)
    first (shuts f) = f

-- a gate that was shut stays shut with more tests behind it, by the same refusal
pub gates-still : (ts us : List Test) {gate still : Result ⊤ Refusal} {x : Refusal} → gate ≡ Err x
    → Gates ts gate → (y : Refusal) × (still ≡ Err y) × (y ≡ x) → Gates (ts ++ us) still
gates-still ts us is g (y, stays, same) =
    gates-front ts us (gates-first is g) (y, stays, λ k. refused (same k))
