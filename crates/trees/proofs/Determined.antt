-- Two results that meet a function's contract coincide.
use Prim.Native.Nat.{ℕ}
use mathlib.Core.Path.{◌≡◌, refl, sym, ap, ◌∙◌}
use mathlib.Core.Bool.{cond}
use lib.Dec.{eqb}
use Rattle.schedule.proofs.Determined.{equal-one}
use Rattle.trees.specs.Verdicts.{claimed_by}
use Rattle.trees.specs.declared.Verdict.{Verdict}
use Rattle.trees.specs.declared.Kind.{Kind}
use Rattle.trees.specs.declared.Kind.TheVariants.{Atom, Not, Or, And, Since, Until}
use Rattle.trees.specs.inside.Table.{kind_number}

pub claimed-one : (word : ℕ) (a b : Verdict) → a ≡ claimed_by word → b ≡ claimed_by word → a ≡ b
claimed-one word a b p q = equal-one p q

-- a kind is known by its number
abbrev kind_from : ℕ → Kind
kind_from n =
    cond (eqb n 0) Atom
    (cond (eqb n 1) Not (cond (eqb n 2) Or (cond (eqb n 3) And (cond (eqb n 4) Since Until))))

kind-back : (k : Kind) → kind_from (kind_number k) ≡ k
kind-back Atom = refl
kind-back Not = refl
kind-back Or = refl
kind-back And = refl
kind-back Since = refl
kind-back Until = refl

pub kind-one : (a b : Kind) → kind_number a ≡ kind_number b → a ≡ b
kind-one a b p = sym (kind-back a) ∙ ap kind_from p ∙ kind-back b
