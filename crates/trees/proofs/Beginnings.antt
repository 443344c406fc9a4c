-- No valid tree's words are a proper beginning of another's: where two trees for one claim begin the
-- same words, they are the same.
use Prim.Native.Nat.{ℕ}
use mathlib.Core.Path.{◌≡◌, refl, sym, ◌∙◌, ap, ap₂}
use mathlib.Core.List.{List, ◌∷◌, ◌++◌, head-eq_of_cons-eq, tail-eq_of_cons-eq, append_cancel_left}
use Rattle.rules.specs.Formula.{Formula}
use Rattle.trees.specs.declared.Node.{Node}
use Rattle.trees.specs.Rules.{Frame, Claim, claim}
use Rattle.trees.specs.Trees.{Tree, grown, Forest}
use Rattle.trees.specs.declared.Verdict.{Verdict}
use Rattle.trees.specs.Verdicts.{rule_sign}
use Rattle.trees.proofs.Needs.{needs_of, rule-needs, rule-sign, sign-one}
use Rattle.trees.proofs.Forests.{tree-alone}
use Rattle.trees.proofs.Laid.{Laid, done, laid, forest-laid}

module _ {frame : Frame} where
  -- equal nodes have equal needs, so both go on with the same claims
  laid-first : {cs : List Claim} {ws vs : List Node} → Laid frame cs ws → Laid frame cs vs
      → (a b : List Node) → ws ++ a ≡ vs ++ b → ws ≡ vs
  laid-first done done a b e = refl
  laid-first (laid {c} r l) (laid s m) a b e =
      let h = head-eq_of_cons-eq e in
      let n = rule-needs s ∙ ap (needs_of c) (sym h) ∙ sym (rule-needs r) in
      ap₂ ◌∷◌ h (laid-first l (rw n at m) a b (tail-eq_of_cons-eq e))

  pub forest-first : {cs : List Claim} {ws vs : List Node} → Forest frame cs ws → Forest frame cs vs
      → (a b : List Node) → ws ++ a ≡ vs ++ b → ws ≡ vs
  forest-first fs gs = laid-first (forest-laid fs) (forest-laid gs)

  -- and so what follows is the same too
  pub forest-rest : {cs : List Claim} {ws vs : List Node} → Forest frame cs ws → Forest frame cs vs
      → (a b : List Node) → ws ++ a ≡ vs ++ b → a ≡ b
  forest-rest {vs} fs gs a b e =
      append_cancel_left vs a b (ap (λ l. l ++ a) (sym (forest-first fs gs a b e)) ∙ e)

  pub tree-first : {c : Claim} {ws vs : List Node} → Tree frame c ws → Tree frame c vs
      → (a b : List Node) → ws ++ a ≡ vs ++ b → ws ≡ vs
  tree-first t s = forest-first (tree-alone t) (tree-alone s)

  -- the first node tells the verdict
  pub first-verdict : {c d : Claim} {ws vs : List Node} → Tree frame c ws → Tree frame d vs
      → (a b : List Node) → ws ++ a ≡ vs ++ b → c.verdict ≡ d.verdict
  first-verdict (grown r fs) (grown s gs) a b e =
      sign-one (rule-sign r ∙ ap (λ x. rule_sign x.rule) (head-eq_of_cons-eq e) ∙ sym (rule-sign s))

  -- so trees of either verdict are among those of which none begins another
  pub either_first : {f : Formula} {i : ℕ} {p q : Verdict} {ws vs : List Node} → Tree frame (claim f i p) ws
      → Tree frame (claim f i q) vs → (a b : List Node) → ws ++ a ≡ vs ++ b → ws ≡ vs
  either_first t s a b e = tree-first t (rw (sym (first-verdict t s a b e)) at s) a b e
