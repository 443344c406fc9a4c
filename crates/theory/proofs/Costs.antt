-- What forests cost: as much as their parts together, and a tree as much as its root and the forest below it.
use Prim.Native.Nat.{ℕ, suc, ◌+◌}
use mathlib.Core.Path.{◌≡◌, refl, sym, ◌∙◌, ap, subst}
use mathlib.Core.List.{List, [], ◌∷◌, ◌++◌, append_assoc}
use native.Mathlib.Omega.{arith}
use Rattle.rules.specs.Formula.{Formula}
use Rattle.trees.specs.declared.Node.{Node}
use Rattle.trees.specs.Rules.{Frame, Claim, claim, run, Rule}
use Rattle.trees.specs.Trees.{grown, Forest, none}
use Rattle.trees.specs.Least.{Cost, cost_of}
use Rattle.trees.specs.declared.Verdict.{Verdict}
use Rattle.trees.proofs.Order.{cost-append}
use Rattle.trees.proofs.Forests.{forest-append, forest-parts, tree-alone, alone-tree, run-snoc}
use Rattle.theory.specs.inside.Costs.{TreeCosts, ForestCosts, CutLeast, Sum, Raised, cut}
use Rattle.theory.proofs.Cuts.{cut-same, cut_sum}

run-longer : (cs : List Claim) (f : Formula) (from n j : ℕ) (s : Verdict) → from + n ≡ j
    → (cs ++ run f from n s) ++ claim f j s ∷ [] ≡ cs ++ run f from (suc n) s
run-longer cs f from n j s e = append_assoc cs (run f from n s) (claim f j s ∷ []) ∙ ap (λ l. cs ++ l)
    (ap (λ p. run f from n s ++ claim f p s ∷ []) (sym e) ∙ sym (run-snoc f from n s))

module _ {cost : Cost} {frame : Frame} where
  pub costs-joined : (cs ds : List Claim) (n : ℕ)
      → Sum (ForestCosts cost frame cs) (ForestCosts cost frame ds) n → ForestCosts cost frame (cs ++ ds) n
  costs-joined cs ds n s =
      let a = s.one in
      let b = s.other in
      record {
        nodes = a.nodes ++ b.nodes;
        forest = forest-append a.forest b.forest;
        costs = omega (arith, cost-append cost a.nodes b.nodes, a.costs, b.costs, s.adds);
      }

  pub costs-parted : (cs ds : List Claim) (n : ℕ) → ForestCosts cost frame (cs ++ ds) n
      → Sum (ForestCosts cost frame cs) (ForestCosts cost frame ds) n
  costs-parted cs ds n a =
      let p = forest-parts cs a.forest in
      record {
        first = cost_of cost p.before;
        second = cost_of cost p.after;
        one = record { nodes = p.before; forest = p.first; costs = refl };
        other = record { nodes = p.after; forest = p.second; costs = refl };
        adds = omega (arith, cost-append cost p.before p.after, ap (cost_of cost) p.whole, a.costs);
      }

  pub costs-none : CutLeast (ForestCosts cost frame []) 0
  costs-none = record {
    top = omega arith;
    under = λ n a. omega arith;
    met = λ h. record { nodes = []; forest = none; costs = refl };
  }

  pub alone-costs : {c : Claim} (n : ℕ) → TreeCosts cost frame c n → ForestCosts cost frame (c ∷ []) n
  alone-costs n a = record { nodes = a.nodes; forest = tree-alone a.tree; costs = a.costs }

  pub costs-alone : {c : Claim} (n : ℕ) → ForestCosts cost frame (c ∷ []) n → TreeCosts cost frame c n
  costs-alone n a = record { nodes = a.nodes; tree = alone-tree a.forest; costs = a.costs }

  pub cut-joined : (cs ds : List Claim) {p q : ℕ} → CutLeast (ForestCosts cost frame cs) p
      → CutLeast (ForestCosts cost frame ds) q → CutLeast (ForestCosts cost frame (cs ++ ds)) (cut (p + q))
  cut-joined cs ds a b = cut-same (costs-joined cs ds) (costs-parted cs ds) (cut_sum a b)

  pub cut-alone : {c : Claim} {p : ℕ} → CutLeast (TreeCosts cost frame c) p
      → CutLeast (ForestCosts cost frame (c ∷ [])) p
  cut-alone a = cut-same alone-costs costs-alone a

  pub cut-more : {c : Claim} (cs : List Claim) {p q : ℕ} → CutLeast (TreeCosts cost frame c) p
      → CutLeast (ForestCosts cost frame cs) q → CutLeast (ForestCosts cost frame (c ∷ cs)) (cut (p + q))
  cut-more {c} cs a b = cut-joined (c ∷ []) cs (cut-alone a) b

  -- what a root costs with a forest of its parts
  pub costs-grown : {c : Claim} {x : Node} {needs : List Claim} → Rule frame c x needs → (n : ℕ)
      → Raised (cost.weigh x.rule x.atom) (ForestCosts cost frame needs) n → TreeCosts cost frame c n
  costs-grown {x} r n a = record {
    nodes = x ∷ a.one.nodes;
    tree = grown r a.one.forest;
    costs = omega (arith, a.one.costs, a.adds);
  }

  pub costs-root : {needs : List Claim} {ws : List Node} (x : Node) (n : ℕ) → Forest frame needs ws
      → cost_of cost (x ∷ ws) ≡ n → Raised (cost.weigh x.rule x.atom) (ForestCosts cost frame needs) n
  costs-root {ws} x n fs e =
      record { from = cost_of cost ws; one = record { nodes = ws; forest = fs; costs = refl }; adds = e }

  -- a run with one member more costs that member more
  pub longer-costs : (cs : List Claim) (f : Formula) (from n j : ℕ) (s : Verdict) → from + n ≡ j → (k m : ℕ)
      → Sum (Raised k (ForestCosts cost frame (cs ++ run f from n s))) (TreeCosts cost frame (claim f j s)) m
      → Raised k (ForestCosts cost frame (cs ++ run f from (suc n) s)) m
  longer-costs cs f from n j s e k m a =
      let whole = costs-joined (cs ++ run f from n s) (claim f j s ∷ []) (a.one.from + a.second)
      (record {
        first = _;
        second = _;
        one = a.one.one;
        other = alone-costs a.second a.other;
        adds = refl;
      }) in
      record {
        from = _;
        one = subst (λ l. ForestCosts cost frame l (a.one.from + a.second))
            (run-longer cs f from n j s e) whole;
        adds = omega (arith, a.adds, a.one.adds);
      }

  pub shorter-costs : (cs : List Claim) (f : Formula) (from n j : ℕ) (s : Verdict) → from + n ≡ j → (k m : ℕ)
      → Raised k (ForestCosts cost frame (cs ++ run f from (suc n) s)) m
      → Sum (Raised k (ForestCosts cost frame (cs ++ run f from n s))) (TreeCosts cost frame (claim f j s)) m
  shorter-costs cs f from n j s e k m a =
      let p = costs-parted (cs ++ run f from n s) (claim f j s ∷ []) a.from
      (subst (λ l. ForestCosts cost frame l a.from) (sym (run-longer cs f from n j s e)) a.one) in
      record {
        first = k + p.first;
        second = p.second;
        one = record { from = p.first; one = p.one; adds = refl };
        other = costs-alone p.second p.other;
        adds = omega (arith, p.adds, a.adds);
      }
