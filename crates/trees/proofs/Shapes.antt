-- A rule by its shape: a first part or none and then a run, no part later than the
-- claim; or ahead, as an until looks.
use Prim.Native.Nat.{ℕ, ◌+◌, ◌-◌, ◌<◌, ◌≤◌}
use mathlib.Core.Path.{◌≡◌}
use mathlib.Core.List.{List, [], ◌∷◌, ◌++◌}
use native.Mathlib.Omega.{arith}
use Rattle.rules.specs.Formula.{Formula, atom, until, height}
use Rattle.rules.specs.declared.Side.TheVariants.{Past, Future}
use Rattle.trees.specs.Nodes.{node}
use Rattle.trees.specs.declared.Node.{Node}
use Rattle.trees.specs.Rules.{Frame, Claim, claim, run, Rule, rule1, rule2, rule3, rule4, rule5, rule6}
use Rattle.trees.specs.Rules.{rule7, rule8, rule9, rule10, rule11, rule12, rule13, rule14, rule15}
use Rattle.trees.specs.Rules.{rule16}
use Rattle.trees.specs.declared.Verdict.{Verdict}
use Rattle.trees.specs.declared.Verdict.TheVariants.{Holds, Violated}

-- A part of g: no height of it is greater, and below an until the future is less by 1.
pub record PartOf (less : ℕ) (f g : Formula) : Type 0 where
  pub past : height Past f ≤ height Past g
  pub future : height Future f + less ≤ height Future g

-- A root x for c that looks behind: at k for its first part h, if there is one, and then at n positions for
-- its members m, from a first one on.
pub record Behind (c : Claim) (x : Node)
    (fixed : ℕ) (h : Formula) (k : ℕ) (m : Formula) (from n : ℕ) : Type 0 where
  pub rule : x.rule ≤ 13
  pub number : x.number ≤ c.position + 1
  pub one : fixed ≤ 1
  pub leaf : x.rule ≤ 2 → fixed + n ≡ 0
  pub first : PartOf 0 h c.formula
  pub member : PartOf 0 m c.formula
  pub place : k ≤ c.position
  pub last : from + n ≤ c.position + 1

-- The rules of an until.
pub data Ahead (frame : Frame) : Claim → Node → List Claim → Type 0 where
  ahead : {f g : Formula} {i n : ℕ}
      → Ahead frame (claim (until f g) i Holds) (node 14 0 n) (claim g (i + n) Holds ∷ run f i n Holds)
  cut : {f g : Formula} {i n : ℕ} → 1 ≤ n
      → Ahead frame (claim (until f g) i Violated) (node 15 0 n)
      (claim f (i + n - 1) Violated ∷ run g i n Violated)
  through : {f g : Formula} {i n : ℕ} → n ≡ frame.count i (height Past g)
      → Ahead frame (claim (until f g) i Violated) (node 16 0 n) (run g i n Violated)

pub data Shape (frame : Frame) (c : Claim) (x : Node) : List Claim → Type 0 where
  behind : (fixed : ℕ) (h : Formula) (k : ℕ) (m : Formula) (from n : ℕ) (t : Verdict)
      → Behind c x fixed h k m from n → Shape frame c x (run h k fixed t ++ run m from n t)
  looks : {needs : List Claim} → Ahead frame c x needs → Shape frame c x needs

pub shape_of : {frame : Frame} {c : Claim} {x : Node} {needs : List Claim}
    → Rule frame c x needs → Shape frame c x needs
shape_of (rule1 {a} {i} h) = behind 0 (atom a) i (atom a) i 0 Holds (omega arith)
shape_of (rule2 {a} {i} h) = behind 0 (atom a) i (atom a) i 0 Violated (omega arith)
shape_of (rule3 {f} {i}) = behind 1 f i f i 0 Violated (omega arith)
shape_of (rule4 {f} {i}) = behind 1 f i f i 0 Holds (omega arith)
shape_of (rule5 {f} {g} {i}) = behind 1 f i g i 0 Holds (omega arith)
shape_of (rule6 {f} {g} {i}) = behind 1 g i g i 0 Holds (omega arith)
shape_of (rule7 {f} {g} {i}) = behind 1 f i g i 1 Violated (omega arith)
shape_of (rule8 {f} {g} {i}) = behind 1 f i g i 1 Holds (omega arith)
shape_of (rule9 {f} {g} {i}) = behind 1 f i g i 0 Violated (omega arith)
shape_of (rule10 {f} {g} {i}) = behind 1 g i g i 0 Violated (omega arith)
shape_of (rule11 {f} {g} {i} {n} le) = behind 1 g (i - n) f (i - n + 1) n Holds (omega arith)
shape_of (rule12 {f} {g} {i} {n} some le) = behind 1 f (i + 1 - n) g (i + 1 - n) n Violated (omega arith)
shape_of (rule13 {f} {g} {i} {n} e) = behind 0 g 0 g 0 n Violated (omega arith)
shape_of rule14 = looks ahead
shape_of (rule15 some) = looks (cut some)
shape_of (rule16 e) = looks (through e)

-- rules 1 and 2 have no parts
pub leaf-needs : {frame : Frame} {c : Claim} {x : Node} {needs : List Claim} → Rule frame c x needs
    → x.rule < 3 → needs ≡ []
leaf-needs r lt = by (shape_of r) lt
  where
    by : {frame : Frame} {c : Claim} {x : Node} {needs : List Claim} → Shape frame c x needs → x.rule < 3
        → needs ≡ []
    by (behind fixed h k m from n t b) lt =
        let none = b.leaf (omega arith) in
        let no-first : fixed ≡ 0 = omega arith in
        let no_member : n ≡ 0 = omega arith in
        λ j. run h k (no-first j) t ++ run m from (no_member j) t
    by (looks ahead) lt = absurd (omega arith)
    by (looks (cut some)) lt = absurd (omega arith)
    by (looks (through e)) lt = absurd (omega arith)
