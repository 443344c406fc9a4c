-- A rule that fits an entry has its kind and the needed sign; where kind and sign fit,
-- the entry's formula has the rule's form.
use mathlib.Core.Path.{◌≡◌, refl, sym, ap, subst₂, ◌∙◌}
use mathlib.Core.Bool.{Bool, true, false, true≢false, false≢true}
use mathlib.Core.List.{List}
use Prim.Native.Nat.{ℕ}
use borrow.Author.Tests.{eq-eqb, eqb-true}
use lib.Dec.{eqb}
use Rattle.rules.specs.Formula.{Formula}
use Rattle.rules.specs.Tables.{entry_at, build, formula_of}
use Rattle.rules.specs.declared.Entry.{Entry}
use Rattle.rules.specs.declared.Entry.TheVariants.{Atom, One, Two, Broken}
use Rattle.rules.specs.declared.Unary.TheVariants.{Not}
use Rattle.rules.specs.declared.Binary.TheVariants.{Or, And, Since, Until}
use Rattle.schedule.proofs.Tests.{and_both}
use Rattle.rules.proofs.Unrolls.{formula-unrolls}
use Rattle.trees.specs.declared.Node.{Node}
use Rattle.trees.specs.Rules.{Frame, Claim, claim, Rule}
use Rattle.trees.specs.Verdicts.{rule_sign, sign_of}
use Rattle.trees.specs.inside.Table.{rule_kind}
use Rattle.nodes.specs.inside.Fits.{kind_of, left_of, right_of, fits_of}
use Rattle.trees.specs.Place.{NoRule}
use Rattle.nodes.specs.inside.Tested.{Tested, fits, unfit}
use Rattle.trees.specs.declared.Verdict.{Verdict}
use Rattle.nodes.proofs.Parts.{by_kind, formula-kind}
use Rattle.trees.proofs.Needs.{formula_kind, rule-kind, rule-sign, sign-one}

kind-built : (part : ℕ → Formula) (x : Entry) → formula_kind (build part x) ≡ kind_of x
kind-built part (Atom a) = refl
kind-built part (One Not l) = refl
kind-built part (Two Or l r) = refl
kind-built part (Two And l r) = refl
kind-built part (Two Since l r) = refl
kind-built part (Two Until l r) = refl
kind-built part Broken = refl

pub fits-says : (k : ℕ) (x : Entry) (s : Verdict) → fits_of k x s ≡ true
    → (rule_kind k ≡ kind_of x) × (rule_sign k ≡ sign_of s)
unfolding fits_of
fits-says k x s h =
    let both = and_both (eqb (rule_kind k) (kind_of x)) (eqb (rule_sign k) (sign_of s)) h in
    (eqb-true (rule_kind k) (kind_of x) both.0, eqb-true (rule_sign k) (sign_of s) both.1)

module _ (table : List ℕ) (e i : ℕ) (s : Verdict) where
  -- a rule that fits has the entry's kind and the needed sign
  pub rule_fits : {frame : Frame} {y : Node} {needs : List Claim}
      → Rule frame (claim (formula_of table e) i s) y needs → fits_of y.rule (entry_at table e) s ≡ true
  unfolding fits_of
  rule_fits {y} r =
      let kinds = sym
      (ap formula_kind (formula-unrolls table e) ∙ kind-built (formula_of table) (entry_at table e))
      ∙ rule-kind r in
      simp (
        eq-eqb (rule_kind y.rule) (kind_of (entry_at table e)) (sym kinds),
        eq-eqb (rule_sign y.rule) (sign_of s) (sym (rule-sign r)),
      )

  -- what holds of the formula of the rule's kind and of the rule's verdict holds of the entry's
  -- formula and the needed verdict
  pub at-kind : (k : ℕ) (t : Verdict) (P : Formula → Verdict → Type 0) → fits_of k (entry_at table e) s ≡ true
      → rule_sign k ≡ sign_of t
      → P (by_kind (rule_kind k) (formula_of table) (left_of (entry_at table e))
      (right_of (entry_at table e))) t
      → P (formula_of table e) s
  at-kind k t P h se p =
      let says = fits-says k (entry_at table e) s h in
      subst₂ P (sym (formula-kind table e (rule_kind k) (sym says.0))) (sign-one (sym se ∙ says.1)) p

-- a test that passes where a rule fits, and only there
pub tested-by : {frame : Frame} {c : Claim} {x : Node} (b : Bool)
    → (b ≡ true → (needs : List Claim) × Rule frame c x needs)
    → ((needs : List Claim) → Rule frame c x needs → b ≡ true) → Tested frame c x b
tested-by true forth back = fits (forth refl).1
tested-by false forth back = unfit (λ needs r. false≢true (back needs r))

-- what a test that passed says, and one that failed
pub tested-rule : {frame : Frame} {c : Claim} {x : Node} {b : Bool} → b ≡ true → Tested frame c x b
    → (needs : List Claim) × Rule frame c x needs
tested-rule e (fits {needs} r) = (needs, r)
tested-rule e (unfit n) = absurd (false≢true e)

pub tested-wrong : {frame : Frame} {c : Claim} {x : Node} {b : Bool} → b ≡ false → Tested frame c x b
    → NoRule frame c x
tested-wrong e (fits r) = absurd (true≢false e)
tested-wrong e (unfit n) = n
