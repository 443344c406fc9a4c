-- From u + v × past height on, the meaning of a formula repeats with the lap of the word.
use Prim.Native.Nat.{ℕ, ◌+◌, ◌*◌, ◌≤◌, max}
use mathlib.Core.Logic.{◌↔◌}
use native.Mathlib.Nat.{mul-le-mul_left, mul-add}
use native.Mathlib.Omega.{arith}
use Rattle.rules.specs.Formula.{Formula, atom, notᶠ, orᶠ, andᶠ, since, until, height}
use Rattle.rules.specs.Meaning.{Meant}
use Rattle.rules.specs.declared.Side.TheVariants.{Past}
use Rattle.theory.specs.inside.Words.{Repeats, Recurs}
use Rattle.theory.specs.inside.Threshold.{threshold}
use Rattle.theory.proofs.Recurs.{recurs-later, not-recurs, or-recurs, and-recurs, since-recurs}
use Rattle.theory.proofs.Recurs.{until-recurs}

-- since begins to repeat a lap after both its parts do, which is where their disjunction does
since-threshold : (u v : ℕ) (f g : Formula) → threshold u v (orᶠ f g) + v ≤ threshold u v (since f g)
since-threshold u v f g = omega (arith, mul-add v (max (height Past f) (height Past g)) 1)

module _ {word : ℕ → ℕ} {u v : ℕ} (w : Repeats word u v) where
  -- what recurs from the threshold of one height recurs from that of every greater one
  higher : {P : ℕ → Type 0} {h m : ℕ} → h ≤ m → Recurs P (u + v * h) v → Recurs P (u + v * m) v
  higher le p = recurs-later p (omega (arith, mul-le-mul_left v le))

  pub holds-recurs : (f : Formula) → Recurs (Meant word f) (threshold u v f) v
  holds-recurs (atom a) = record {
    forth = λ k ge h. rw (w.again k (omega arith)) h;
    back = λ k ge h. rw (w.again k (omega arith)) at h;
  }
  holds-recurs (notᶠ f) = not-recurs (holds-recurs f)
  holds-recurs (orᶠ f g) =
      or-recurs (higher (omega arith) (holds-recurs f)) (higher (omega arith) (holds-recurs g))
  holds-recurs (andᶠ f g) =
      and-recurs (higher (omega arith) (holds-recurs f)) (higher (omega arith) (holds-recurs g))
  holds-recurs (since f g) =
      recurs-later
      (since-recurs (higher (omega arith) (holds-recurs f)) (higher (omega arith) (holds-recurs g)))
      (since-threshold u v f g)
  holds-recurs (until f g) =
      until-recurs (higher (omega arith) (holds-recurs f)) (higher (omega arith) (holds-recurs g))

  pub periodic : (f : Formula) (k : ℕ) → threshold u v f ≤ k → Meant word f k ↔ Meant word f (k + v)
  periodic f k ge = ((holds-recurs f).forth k ge, (holds-recurs f).back k ge)
