-- A list of tests has one outcome: one first test that fails, or none.
-- How it is found along two lists, the one behind the other.
use mathlib.Core.Path.{◌≡◌, refl, sym, ap, ◌∙◌}
use mathlib.Core.Bool.{Bool, true, false, not, ◌&&◌, true≢false, false≢true}
use mathlib.Core.Logic.{◌↔◌, ◌⊎◌, inl, inr}
use mathlib.Core.List.{List, [], ◌∷◌, ◌++◌}
use Prim.Native.Nat.{ℕ}
use borrow.Author.Tests.{eq-eqb}
use lib.Dec.{eqb}
use Rattle.schedule.specs.Figures.{Figures}
use Rattle.schedule.specs.Tests.{Test, AllPass, none, also, FirstFails, here, later}

pub fails-one : {ts : List Test} {r s : Figures} → FirstFails ts r → FirstFails ts s → r ≡ s
fails-one (here f) (here g) = refl
fails-one (here f) (later p b) = absurd (true≢false (sym p ∙ f))
fails-one (later p a) (here g) = absurd (true≢false (sym p ∙ g))
fails-one (later p a) (later q b) = fails-one a b

pub fails-or-passes : {ts : List Test} {r : Figures} → FirstFails ts r → AllPass ts → ⊥
fails-or-passes (here f) (also p ps) = true≢false (sym p ∙ f)
fails-or-passes (later q a) (also p ps) = fails-or-passes a ps

module _ (us : List Test) where
  pub fails-front : {ts : List Test} {r : Figures} → FirstFails ts r → FirstFails (ts ++ us) r
  fails-front (here f) = here f
  fails-front (later p a) = later p (fails-front a)

  pub passes-front : (ts : List Test) → AllPass (ts ++ us) → AllPass ts
  passes-front [] ps = none
  passes-front (t ∷ ts) (also p ps) = also p (passes-front ts ps)

  pub passes-behind : (ts : List Test) → AllPass (ts ++ us) → AllPass us
  passes-behind [] ps = ps
  passes-behind (t ∷ ts) (also p ps) = passes-behind ts ps

  -- the first that fails stands in the front list, or behind one that passes
  pub fails-where : (ts : List Test) {r : Figures} → FirstFails (ts ++ us) r
      → FirstFails ts r ⊎ (AllPass ts × FirstFails us r)
  fails-where [] b = inr (none, b)
  fails-where (t ∷ ts) (here f) = inl (here f)
  fails-where (t ∷ ts) (later p b) = further (fails-where ts b)
    where
      further : {r : Figures} → FirstFails ts r ⊎ (AllPass ts × FirstFails us r)
          → FirstFails (t ∷ ts) r ⊎ (AllPass (t ∷ ts) × FirstFails us r)
      further (inl a) = inl (later p a)
      further (inr b) = inr (also p b.0, b.1)

pub fails-behind : {ts us : List Test} {r : Figures} → AllPass ts → FirstFails us r → FirstFails (ts ++ us) r
fails-behind none b = b
fails-behind (also p ps) b = later p (fails-behind ps b)

pub passes-both : {ts us : List Test} → AllPass ts → AllPass us → AllPass (ts ++ us)
passes-both none qs = qs
passes-both (also p ps) qs = also p (passes-both ps qs)

-- both of two
pub and_both : (a b : Bool) → (a && b) ≡ true → (a ≡ true) × (b ≡ true)
and_both true true p = (refl, refl)
and_both true false p = absurd (false≢true p)
and_both false b p = absurd (false≢true p)

-- A list has a first test that fails, or all pass: never both.
pub fails-or-all : (ts : List Test) → ((r : Figures) × FirstFails ts r) ⊎ AllPass ts
fails-or-all [] = inr none
fails-or-all (t ∷ ts) = by t.passes refl (fails-or-all ts)
  where
    by : (b : Bool) → t.passes ≡ b → ((r : Figures) × FirstFails ts r) ⊎ AllPass ts
        → ((r : Figures) × FirstFails (t ∷ ts) r) ⊎ AllPass (t ∷ ts)
    by false f rest = inl (t.answer, here f)
    by true p (inl a) = inl (a.0, later p a.1)
    by true p (inr ps) = inr (also p ps)

-- No test of the list answers with the number.
abbrev pub lacks : ℕ → List Test → Bool
lacks n [] = true
lacks n (t ∷ ts) = not (eqb t.answer.number n) && lacks n ts

pub lacks-fails : {ts : List Test} {r : Figures} (n : ℕ) → lacks n ts ≡ true → FirstFails ts r → r.number ≡ n
    → ⊥
lacks-fails {ts = []} n l x e = elim x [ ]
lacks-fails {ts = t ∷ ts} n l (here f) e =
    false≢true (sym (ap not (eq-eqb t.answer.number n e))
    ∙ (and_both (not (eqb t.answer.number n)) (lacks n ts) l).0)
lacks-fails {ts = t ∷ ts} n l (later p a) e =
    lacks-fails n (and_both (not (eqb t.answer.number n)) (lacks n ts) l).1 a e

-- A number that only one test answers with is given exactly if that test fails and all before it pass.
pub refused-exactly : (before : List Test) (t : Test) (after : List Test)
    → lacks t.answer.number before ≡ true → lacks t.answer.number after ≡ true
    → ((r : Figures) × FirstFails (before ++ (t ∷ after)) r × (r.number ≡ t.answer.number))
    ↔ (AllPass before × (t.passes ≡ false))
refused-exactly before t after ahead behind = (forth, back)
  where
    by : {r : Figures} → r.number ≡ t.answer.number
        → FirstFails before r ⊎ (AllPass before × FirstFails (t ∷ after) r)
        → AllPass before × (t.passes ≡ false)
    by e (inl a) = absurd (lacks-fails t.answer.number ahead a e)
    by e (inr (ps, here f)) = (ps, f)
    by e (inr (ps, later p a)) = absurd (lacks-fails t.answer.number behind a e)

    forth : ((r : Figures) × FirstFails (before ++ (t ∷ after)) r × (r.number ≡ t.answer.number))
        → AllPass before × (t.passes ≡ false)
    forth x = by x.2 (fails-where (t ∷ after) before x.1)

    back : AllPass before × (t.passes ≡ false)
        → ((r : Figures) × FirstFails (before ++ (t ∷ after)) r × (r.number ≡ t.answer.number))
    back x = (t.answer, fails-behind x.0 (here x.1), refl)
