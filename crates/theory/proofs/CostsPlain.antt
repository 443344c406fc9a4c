-- What the trees of an atom, a not, an or and an and cost at least, cut off,
-- by what those of their parts cost.
use Prim.Native.Nat.{ℕ, ◌+◌, min}
use mathlib.Core.Path.{◌≡◌, subst}
use mathlib.Core.Logic.{◌⊎◌, inl, inr, ⊎_elim}
use mathlib.Core.List.{List, [], ◌∷◌}
use native.Mathlib.Omega.{arith}
use Rattle.rules.specs.Formula.{Formula, atom, notᶠ, orᶠ, andᶠ}
use Rattle.rules.specs.Meaning.{HasAtom}
use Rattle.trees.specs.Nodes.{node}
use Rattle.trees.specs.declared.Node.{Node}
use Rattle.trees.specs.Rules.{Frame, Claim, claim, Rule, rule1, rule2, rule3, rule4, rule5, rule6, rule7}
use Rattle.trees.specs.Rules.{rule8, rule9, rule10}
use Rattle.trees.specs.Trees.{Tree, grown}
use Rattle.trees.specs.Least.{Cost, cost_of}
use Rattle.trees.specs.declared.Verdict.TheVariants.{Holds, Violated}
use Rattle.theory.specs.inside.Costs.{TreeCosts, ForestCosts, CutLeast, Raised, cut}
use Rattle.theory.proofs.Cuts.{cut-same, cut_or, cut-raised, cut_again}
use Rattle.theory.proofs.Costs.{costs-none, cut-alone, cut-more, costs-grown, costs-root}

-- What a root costs with a forest of the claims below it.
abbrev pub RootCosts : Cost → Frame → Node → List Claim → ℕ → Type 0
RootCosts cost frame x needs = Raised (cost.weigh x.rule x.atom) (ForestCosts cost frame needs)

-- All that a root of the claim costs is in Q, whichever the rules allow.
abbrev pub EachRoot : Cost → Frame → Claim → (ℕ → Type 0) → Type 0
EachRoot cost frame c Q =
    (x : Node) (needs : List Claim) → Rule frame c x needs → (n : ℕ) → RootCosts cost frame x needs n → Q n

module _ {cost : Cost} {frame : Frame} {c : Claim} where
  on-root : {Q : ℕ → Type 0} → EachRoot cost frame c Q → (n : ℕ) {ws : List Node} → Tree frame c ws
      → cost_of cost ws ≡ n → Q n
  on-root split n (grown {x} {needs} r fs) e = split x needs r n (costs-root x n fs e)

  pub by-root : {Q : ℕ → Type 0} → EachRoot cost frame c Q → (n : ℕ) → TreeCosts cost frame c n → Q n
  by-root split n t = on-root split n t.tree t.costs

  -- the claim has this root alone
  pub cut-root : {x : Node} {needs : List Claim} {p : ℕ} → Rule frame c x needs
      → EachRoot cost frame c (RootCosts cost frame x needs) → CutLeast (ForestCosts cost frame needs) p
      → CutLeast (TreeCosts cost frame c) (cut (cost.weigh x.rule x.atom + p))
  cut-root r only a = cut-same (costs-grown r) (by-root only) (cut-raised _ a)

  -- the claim has these two
  pub cut-roots : {x z : Node} {needs others : List Claim} {p q : ℕ} → Rule frame c x needs
      → Rule frame c z others
      → EachRoot cost frame c (λ n. RootCosts cost frame x needs n ⊎ RootCosts cost frame z others n)
      → CutLeast (ForestCosts cost frame needs) p → CutLeast (ForestCosts cost frame others) q
      → CutLeast (TreeCosts cost frame c)
      (min (cut (cost.weigh x.rule x.atom + p)) (cut (cost.weigh z.rule z.atom + q)))
  cut-roots r o split a b = cut-same
      (λ n. ⊎_elim (costs-grown r n) (costs-grown o n))
      (by-root split)
      (cut_or (cut-raised _ a) (cut-raised _ b))

-- Atoms

module _ {cost : Cost} {frame : Frame} {a i : ℕ} where
  holds-atom : EachRoot cost frame (claim (atom a) i Holds) (RootCosts cost frame (node 1 a i) [])
  holds-atom y ms (rule1 h) n t = t

  pub atom-holds-cost : HasAtom (frame.letter i) a
      → CutLeast (TreeCosts cost frame (claim (atom a) i Holds)) (cut (cost.weigh 1 a))
  atom-holds-cost h =
      subst (CutLeast (TreeCosts cost frame (claim (atom a) i Holds))) (omega arith)
      (cut-root (rule1 h) holds-atom costs-none)

  violated-atom : EachRoot cost frame (claim (atom a) i Violated) (RootCosts cost frame (node 2 a i) [])
  violated-atom y ms (rule2 h) n t = t

  pub atom-violated-cost : ¬ HasAtom (frame.letter i) a
      → CutLeast (TreeCosts cost frame (claim (atom a) i Violated)) (cut (cost.weigh 2 a))
  atom-violated-cost h =
      subst (CutLeast (TreeCosts cost frame (claim (atom a) i Violated))) (omega arith)
      (cut-root (rule2 h) violated-atom costs-none)

-- Not

module _ {cost : Cost} {frame : Frame} {f : Formula} {i : ℕ} where
  holds_not : EachRoot cost frame (claim (notᶠ f) i Holds)
      (RootCosts cost frame (node 3 0 0) (claim f i Violated ∷ []))
  holds_not y ms rule3 n t = t

  pub not-holds-cost : {p : ℕ} → CutLeast (TreeCosts cost frame (claim f i Violated)) p
      → CutLeast (TreeCosts cost frame (claim (notᶠ f) i Holds)) (cut (cost.weigh 3 0 + p))
  not-holds-cost a = cut-root rule3 holds_not (cut-alone a)

  violated-not : EachRoot cost frame (claim (notᶠ f) i Violated)
      (RootCosts cost frame (node 4 0 0) (claim f i Holds ∷ []))
  violated-not y ms rule4 n t = t

  pub not-violated-cost : {p : ℕ} → CutLeast (TreeCosts cost frame (claim f i Holds)) p
      → CutLeast (TreeCosts cost frame (claim (notᶠ f) i Violated)) (cut (cost.weigh 4 0 + p))
  not-violated-cost a = cut-root rule4 violated-not (cut-alone a)

-- Or, and

module _ {cost : Cost} {frame : Frame} where
  -- two parts
  pub cut-two : {c d : Claim} {p q : ℕ} → CutLeast (TreeCosts cost frame c) p
      → CutLeast (TreeCosts cost frame d) q → CutLeast (ForestCosts cost frame (c ∷ d ∷ [])) (cut (p + q))
  cut-two {d} a b = cut-more (d ∷ []) a (cut-alone b)

module _ {cost : Cost} {frame : Frame} {f g : Formula} {i : ℕ} where
  holds-or : EachRoot cost frame (claim (orᶠ f g) i Holds)
      (λ n. RootCosts cost frame (node 5 0 0) (claim f i Holds ∷ []) n
      ⊎ RootCosts cost frame (node 6 0 0) (claim g i Holds ∷ []) n)
  holds-or y ms rule5 n t = inl t
  holds-or y ms rule6 n t = inr t

  pub or-holds-cost : {p q : ℕ} → CutLeast (TreeCosts cost frame (claim f i Holds)) p
      → CutLeast (TreeCosts cost frame (claim g i Holds)) q
      → CutLeast (TreeCosts cost frame (claim (orᶠ f g) i Holds))
      (min (cut (cost.weigh 5 0 + p)) (cut (cost.weigh 6 0 + q)))
  or-holds-cost a b = cut-roots rule5 rule6 holds-or (cut-alone a) (cut-alone b)

  violated-or : EachRoot cost frame (claim (orᶠ f g) i Violated)
      (RootCosts cost frame (node 7 0 0) (claim f i Violated ∷ claim g i Violated ∷ []))
  violated-or y ms rule7 n t = t

  pub or-violated-cost : {p q : ℕ} → CutLeast (TreeCosts cost frame (claim f i Violated)) p
      → CutLeast (TreeCosts cost frame (claim g i Violated)) q
      → CutLeast (TreeCosts cost frame (claim (orᶠ f g) i Violated)) (cut (cost.weigh 7 0 + (p + q)))
  or-violated-cost {p} {q} a b =
      subst (CutLeast (TreeCosts cost frame (claim (orᶠ f g) i Violated)))
      (cut_again (cost.weigh 7 0) (p + q)) (cut-root rule7 violated-or (cut-two a b))

  holds-and : EachRoot cost frame (claim (andᶠ f g) i Holds)
      (RootCosts cost frame (node 8 0 0) (claim f i Holds ∷ claim g i Holds ∷ []))
  holds-and y ms rule8 n t = t

  pub and-holds-cost : {p q : ℕ} → CutLeast (TreeCosts cost frame (claim f i Holds)) p
      → CutLeast (TreeCosts cost frame (claim g i Holds)) q
      → CutLeast (TreeCosts cost frame (claim (andᶠ f g) i Holds)) (cut (cost.weigh 8 0 + (p + q)))
  and-holds-cost {p} {q} a b =
      subst (CutLeast (TreeCosts cost frame (claim (andᶠ f g) i Holds))) (cut_again (cost.weigh 8 0) (p + q))
      (cut-root rule8 holds-and (cut-two a b))

  violated-and : EachRoot cost frame (claim (andᶠ f g) i Violated)
      (λ n. RootCosts cost frame (node 9 0 0) (claim f i Violated ∷ []) n
      ⊎ RootCosts cost frame (node 10 0 0) (claim g i Violated ∷ []) n)
  violated-and y ms rule9 n t = inl t
  violated-and y ms rule10 n t = inr t

  pub and-violated-cost : {p q : ℕ} → CutLeast (TreeCosts cost frame (claim f i Violated)) p
      → CutLeast (TreeCosts cost frame (claim g i Violated)) q
      → CutLeast (TreeCosts cost frame (claim (andᶠ f g) i Violated))
      (min (cut (cost.weigh 9 0 + p)) (cut (cost.weigh 10 0 + q)))
  and-violated-cost a b = cut-roots rule9 rule10 violated-and (cut-alone a) (cut-alone b)
