-- A node leaves its claim no choice: claim and node fix what the parts have to prove,
-- and the rule fixes what claim and node look like.
use Prim.Native.Nat.{ℕ, ◌+◌, ◌-◌, ◌≤◌}
use mathlib.Core.Path.{◌≡◌, refl, sym, ap, ◌∙◌}
use mathlib.Core.Bool.{cond}
use mathlib.Core.List.{List, [], ◌∷◌}
use native.Mathlib.Omega.{arith}
use lib.Dec.{eqb}
use Rattle.rules.specs.Formula.{Formula, atom, notᶠ, orᶠ, andᶠ, since, until, height}
use Rattle.rules.specs.Meaning.{HasAtom}
use Rattle.rules.specs.declared.Side.TheVariants.{Past}
use Rattle.trees.specs.declared.Node.{Node}
use Rattle.trees.specs.Rules.{Frame, Claim, claim, run, Rule, rule1, rule2, rule3, rule4, rule5, rule6}
use Rattle.trees.specs.Rules.{rule7, rule8, rule9, rule10, rule11, rule12, rule13, rule14, rule15}
use Rattle.trees.specs.Rules.{rule16}
use Rattle.trees.specs.Verdicts.{rule_sign, sign_of, proven_by}
use Rattle.trees.specs.inside.Table.{rule_kind}
use Rattle.trees.specs.declared.Verdict.{Verdict}
use Rattle.trees.specs.declared.Verdict.TheVariants.{Holds, Violated}

-- What the parts of a node with rule r and number n have to prove.
-- Where two rules compete, the test picks one.
abbrev pub needs_by : Formula → ℕ → Verdict → ℕ → ℕ → List Claim
needs_by (atom a) i Holds r n = []
needs_by (atom a) i Violated r n = []
needs_by (notᶠ f) i Holds r n = claim f i Violated ∷ []
needs_by (notᶠ f) i Violated r n = claim f i Holds ∷ []
needs_by (orᶠ f g) i Holds r n = cond (eqb r 5) (claim f i Holds ∷ []) (claim g i Holds ∷ [])
needs_by (orᶠ f g) i Violated r n = claim f i Violated ∷ claim g i Violated ∷ []
needs_by (andᶠ f g) i Holds r n = claim f i Holds ∷ claim g i Holds ∷ []
needs_by (andᶠ f g) i Violated r n = cond (eqb r 9) (claim f i Violated ∷ []) (claim g i Violated ∷ [])
needs_by (since f g) i Holds r n = claim g (i - n) Holds ∷ run f (i - n + 1) n Holds
needs_by (since f g) i Violated r n =
    cond (eqb r 12) (claim f (i + 1 - n) Violated ∷ run g (i + 1 - n) n Violated) (run g 0 n Violated)
needs_by (until f g) i Holds r n = claim g (i + n) Holds ∷ run f i n Holds
needs_by (until f g) i Violated r n =
    cond (eqb r 15) (claim f (i + n - 1) Violated ∷ run g i n Violated) (run g i n Violated)

abbrev pub needs_of : Claim → Node → List Claim
needs_of c x = needs_by c.formula c.position c.verdict x.rule x.number

abbrev pub formula_kind : Formula → ℕ
formula_kind (atom a) = 0
formula_kind (notᶠ f) = 1
formula_kind (orᶠ f g) = 2
formula_kind (andᶠ f g) = 3
formula_kind (since f g) = 4
formula_kind (until f g) = 5

-- the atom that a node names, by the formula of its claim
abbrev pub formula_atom : Formula → ℕ
formula_atom (atom a) = a
formula_atom (notᶠ f) = 0
formula_atom (orᶠ f g) = 0
formula_atom (andᶠ f g) = 0
formula_atom (since f g) = 0
formula_atom (until f g) = 0

-- the last part of a formula that has parts
abbrev pub formula_right : Formula → Formula
formula_right (atom a) = atom a
formula_right (notᶠ f) = f
formula_right (orᶠ f g) = g
formula_right (andᶠ f g) = g
formula_right (since f g) = g
formula_right (until f g) = g

pub sign-one : {a b : Verdict} → sign_of a ≡ sign_of b → a ≡ b
sign-one {a} {b} e = go a b e
  where
    go : (a b : Verdict) → sign_of a ≡ sign_of b → a ≡ b
    go Holds Holds e = refl
    go Holds Violated e = absurd (omega arith)
    go Violated Holds e = absurd (omega arith)
    go Violated Violated e = refl

-- What the kind and the verdict of a claim and the numbers of its node are, by the node's rule.
-- A node that breaks one of these laws is wrong for its claim.
pub record Numbers (frame : Frame) (c : Claim) (x : Node) : Type 0 where
  pub kind : formula_kind c.formula ≡ rule_kind x.rule
  pub sign : sign_of c.verdict ≡ rule_sign x.rule
  pub low : 1 ≤ x.rule
  pub high : x.rule ≤ 16
  pub named : x.atom ≡ formula_atom c.formula
  pub unnamed : 3 ≤ x.rule → x.atom ≡ 0
  pub place : x.rule ≤ 2 → x.number ≡ c.position
  pub plain : 3 ≤ x.rule → x.rule ≤ 10 → x.number ≡ 0
  pub letter1 : x.rule ≡ 1 → HasAtom (frame.letter c.position) (formula_atom c.formula)
  pub letter2 : x.rule ≡ 2 → ¬ HasAtom (frame.letter c.position) (formula_atom c.formula)
  pub count11 : x.rule ≡ 11 → x.number ≤ c.position
  pub count12 : x.rule ≡ 12 → (1 ≤ x.number) × (x.number ≤ c.position + 1)
  pub count13 : x.rule ≡ 13 → x.number ≡ c.position + 1
  pub count15 : x.rule ≡ 15 → 1 ≤ x.number
  pub count16 : x.rule ≡ 16
      → x.number ≡ frame.count c.position (height Past (formula_right c.formula))

-- the one table of the rules: all that claim and node say of them
rule_told : {frame : Frame} {c : Claim} {x : Node} {needs : List Claim}
    → Rule frame c x needs → (needs ≡ needs_of c x) × Numbers frame c x
rule_told (rule1 h) = (refl, omega arith)
rule_told (rule2 h) = (refl, omega arith)
rule_told rule3 = (refl, omega arith)
rule_told rule4 = (refl, omega arith)
rule_told rule5 = (refl, omega arith)
rule_told rule6 = (refl, omega arith)
rule_told rule7 = (refl, omega arith)
rule_told rule8 = (refl, omega arith)
rule_told rule9 = (refl, omega arith)
rule_told rule10 = (refl, omega arith)
rule_told (rule11 h) = (refl, omega arith)
rule_told (rule12 h l) = (refl, omega arith)
rule_told (rule13 h) = (refl, omega arith)
rule_told rule14 = (refl, omega arith)
rule_told (rule15 h) = (refl, omega arith)
rule_told (rule16 h) = (refl, omega arith)

module _ {frame : Frame} {c : Claim} {x : Node} {needs : List Claim} (r : Rule frame c x needs) where
  pub rule-needs : needs ≡ needs_of c x
  rule-needs = (rule_told r).0

  pub rule-numbers : Numbers frame c x
  rule-numbers = (rule_told r).1

  pub rule-kind : formula_kind c.formula ≡ rule_kind x.rule
  rule-kind = rule-numbers.kind

  pub rule-sign : sign_of c.verdict ≡ rule_sign x.rule
  rule-sign = rule-numbers.sign

pub needs-one : {frame : Frame} {c : Claim} {x : Node} {ns ms : List Claim}
    → Rule frame c x ns → Rule frame c x ms → ns ≡ ms
needs-one r s = rule-needs r ∙ sym (rule-needs s)

-- a rule proves the verdict of its claim
sign-proves : (s : Verdict) (n : ℕ) → sign_of s ≡ n → cond (eqb n 1) Holds Violated ≡ s
sign-proves Holds n e = ap (λ k. cond (eqb k 1) Holds Violated) (sym e)
sign-proves Violated n e = ap (λ k. cond (eqb k 1) Holds Violated) (sym e)

pub rule-proves : {frame : Frame} {c : Claim} {x : Node} {needs : List Claim} → Rule frame c x needs
    → proven_by x.rule ≡ c.verdict
unfolding proven_by
rule-proves {c} {x} r = sign-proves c.verdict (rule_sign x.rule) (rule-sign r)
