-- What the trees of a since cost at a position, from what they cost one position before.
use Prim.Native.Nat.{ℕ, zero, suc, ◌+◌, ◌-◌, min}
use mathlib.Core.Path.{◌≡◌, subst}
use mathlib.Core.Logic.{◌⊎◌, inl, inr}
use mathlib.Core.List.{List, [], ◌∷◌}
use native.Mathlib.Omega.{arith}
use Rattle.rules.specs.Formula.{Formula, since}
use Rattle.trees.specs.Nodes.{node}
use Rattle.trees.specs.declared.Node.{Node}
use Rattle.trees.specs.Rules.{Frame, claim, run, rule11, rule12, rule13}
use Rattle.trees.specs.Trees.{Tree, grown}
use Rattle.trees.specs.Least.{Cost, cost_of}
use Rattle.trees.specs.declared.Verdict.TheVariants.{Holds, Violated}
use Rattle.theory.specs.inside.Costs.{TreeCosts, ForestCosts, CutLeast, Sum, Raised, cut, cut_off}
use Rattle.theory.specs.inside.SinceCosts.{HeldUpTo, BrokenUpTo, from, throughout}
use Rattle.theory.proofs.Cuts.{cut-same, cut_or, cut-raised, cut_sum, cut-none}
use Rattle.theory.proofs.Costs.{costs-none, alone-costs, costs-alone, costs-joined, costs-parted}
use Rattle.theory.proofs.Costs.{costs-grown, costs-root, longer-costs, shorter-costs}

module _ {cost : Cost} {frame : Frame} {f g : Formula} where
  -- At the position i these are the costs of its trees.
  held-tree : (i m : ℕ) → HeldUpTo cost frame f g (suc i) m
      → TreeCosts cost frame (claim (since f g) i Holds) m
  held-tree i m a =
      costs-grown (rule11 {n = a.n} (omega (arith, a.ends))) m
      (subst (λ p. Raised (cost.weigh 11 0)
      (ForestCosts cost frame (claim g p Holds ∷ run f (p + 1) a.n Holds)) m)
      (omega (arith, a.ends)) a.costs)

  tree-held : (i m : ℕ) → TreeCosts cost frame (claim (since f g) i Holds) m
      → HeldUpTo cost frame f g (suc i) m
  tree-held i m a = root a.tree a.costs where
    root : {ws : List Node} → Tree frame (claim (since f g) i Holds) ws → cost_of cost ws ≡ m
        → HeldUpTo cost frame f g (suc i) m
    root (grown (rule11 {n} le) fs) e =
        record { k = i - n; n = n; ends = omega (arith, le); costs = costs-root (node 11 0 n) m fs e }

  broken-tree : (i m : ℕ) → BrokenUpTo cost frame f g (suc i) m
      → TreeCosts cost frame (claim (since f g) i Violated) m
  broken-tree i m (from k n some e a) =
      costs-grown (rule12 {n = n} some (omega (arith, e))) m
      (subst
      (λ p. Raised (cost.weigh 12 0) (ForestCosts cost frame (claim f p Violated ∷ run g p n Violated)) m)
      (omega (arith, e)) a)
  broken-tree i m (throughout a) = costs-grown (rule13 {n = suc i} (omega arith)) m a

  tree-broken : (i m : ℕ) → TreeCosts cost frame (claim (since f g) i Violated) m
      → BrokenUpTo cost frame f g (suc i) m
  tree-broken i m a = root a.tree a.costs where
    root : {ws : List Node} → Tree frame (claim (since f g) i Violated) ws → cost_of cost ws ≡ m
        → BrokenUpTo cost frame f g (suc i) m
    root (grown (rule12 {n} some le) fs) e =
        from (i + 1 - n) n some (omega (arith, le)) (costs-root (node 12 0 n) m fs e)
    root (grown (rule13 {n} d) fs) e =
        throughout (subst (λ p. Raised (cost.weigh 13 0) (ForestCosts cost frame (run g 0 p Violated)) m)
        {x = n} {y = suc i} (omega (arith, d)) (costs-root (node 13 0 n) m fs e))

  -- One position on: the witness is here, or a tree before is grown by a member here.
  held_on : (i m : ℕ)
      → Raised (cost.weigh 11 0) (TreeCosts cost frame (claim g i Holds)) m
      ⊎ Sum (HeldUpTo cost frame f g i) (TreeCosts cost frame (claim f i Holds)) m
      → HeldUpTo cost frame f g (suc i) m
  held_on i m (inl a) = record {
    k = i;
    n = 0;
    ends = omega arith;
    costs = record { from = a.from; one = alone-costs a.from a.one; adds = a.adds };
  }
  held_on i m (inr a) =
      let b = a.one in
      record {
        k = b.k;
        n = suc b.n;
        ends = omega (arith, b.ends);
        costs = longer-costs (claim g b.k Holds ∷ []) f (b.k + 1) b.n i Holds (omega (arith, b.ends))
            (cost.weigh 11 0) m
            (record { first = _; second = _; one = b.costs; other = a.other; adds = a.adds });
      }

  held_back : (i m : ℕ) → HeldUpTo cost frame f g (suc i) m
      → Raised (cost.weigh 11 0) (TreeCosts cost frame (claim g i Holds)) m
      ⊎ Sum (HeldUpTo cost frame f g i) (TreeCosts cost frame (claim f i Holds)) m
  held_back i m a = by a.n a.ends a.costs where
    by : (n : ℕ) → a.k + n + 1 ≡ suc i
        → Raised (cost.weigh 11 0)
        (ForestCosts cost frame (claim g a.k Holds ∷ run f (a.k + 1) n Holds)) m
        → Raised (cost.weigh 11 0) (TreeCosts cost frame (claim g i Holds)) m
        ⊎ Sum (HeldUpTo cost frame f g i) (TreeCosts cost frame (claim f i Holds)) m
    by zero e b =
        inl (record {
          from = b.from;
          one = subst (λ p. TreeCosts cost frame (claim g p Holds) b.from) (omega (arith, e))
              (costs-alone b.from b.one);
          adds = b.adds;
        })
    by (suc n) e b =
        let c = shorter-costs (claim g a.k Holds ∷ []) f (a.k + 1) n i Holds (omega (arith, e))
        (cost.weigh 11 0) m b in
        inr (record {
          first = _;
          second = _;
          one = record { k = a.k; n = n; ends = omega (arith, e); costs = c.one };
          other = c.other;
          adds = c.adds;
        })

  broken-on : (i m : ℕ)
      → Raised (cost.weigh 12 0)
      (Sum (TreeCosts cost frame (claim f i Violated)) (TreeCosts cost frame (claim g i Violated))) m
      ⊎ Sum (BrokenUpTo cost frame f g i) (TreeCosts cost frame (claim g i Violated)) m
      → BrokenUpTo cost frame f g (suc i) m
  broken-on i m (inl a) =
      let s = a.one in
      from i 1 (omega arith) (omega arith)
      (record {
        from = a.from;
        one = costs-joined (claim f i Violated ∷ []) (claim g i Violated ∷ []) a.from
            (record {
              first = _;
              second = _;
              one = alone-costs s.first s.one;
              other = alone-costs s.second s.other;
              adds = s.adds;
            });
        adds = a.adds;
      })
  broken-on i m (inr a) = grow a.one where
    grow : BrokenUpTo cost frame f g i a.first → BrokenUpTo cost frame f g (suc i) m
    grow (from k n some e b) =
        from k (suc n) (omega arith) (omega (arith, e))
        (longer-costs (claim f k Violated ∷ []) g k n i Violated e (cost.weigh 12 0) m
        (record { first = _; second = _; one = b; other = a.other; adds = a.adds }))
    grow (throughout b) = throughout (longer-costs [] g 0 i i Violated (omega arith) (cost.weigh 13 0) m
        (record { first = _; second = _; one = b; other = a.other; adds = a.adds }))

  broken-back : (i m : ℕ) → BrokenUpTo cost frame f g (suc i) m
      → Raised (cost.weigh 12 0)
      (Sum (TreeCosts cost frame (claim f i Violated)) (TreeCosts cost frame (claim g i Violated))) m
      ⊎ Sum (BrokenUpTo cost frame f g i) (TreeCosts cost frame (claim g i Violated)) m
  broken-back i m (throughout b) =
      let c = shorter-costs [] g 0 i i Violated (omega arith) (cost.weigh 13 0) m b in
      inr (record { first = _; second = _; one = throughout c.one; other = c.other; adds = c.adds })
  broken-back i m (from k zero some e b) = absurd (omega (arith, some))
  broken-back i m (from k (suc zero) some e b) =
      let here = subst (λ p. Raised (cost.weigh 12 0)
      (ForestCosts cost frame (claim f p Violated ∷ claim g p Violated ∷ [])) m)
      {x = k} {y = i} (omega (arith, e)) b in
      let s = costs-parted (claim f i Violated ∷ []) (claim g i Violated ∷ []) here.from here.one in
      inl (record {
        from = here.from;
        one = record {
          first = _;
          second = _;
          one = costs-alone s.first s.one;
          other = costs-alone s.second s.other;
          adds = s.adds;
        };
        adds = here.adds;
      })
  broken-back i m (from k (suc (suc n)) some e b) =
      let c = shorter-costs (claim f k Violated ∷ []) g k (suc n) i Violated (omega (arith, e))
      (cost.weigh 12 0) m b in
      inr (record {
        first = _;
        second = _;
        one = from k (suc n) (omega arith) (omega (arith, e)) c.one;
        other = c.other;
        adds = c.adds;
      })

  -- The least costs, cut off: at the start, and one position on.
  pub held_start : CutLeast (HeldUpTo cost frame f g 0) cut_off
  held_start = cut-none (λ n a. omega (arith, a.ends))

  pub broken-start : CutLeast (BrokenUpTo cost frame f g 0) (cut (cost.weigh 13 0 + 0))
  broken-start = cut-same (λ n a. throughout a) back (cut-raised (cost.weigh 13 0) costs-none) where
    back : (n : ℕ) → BrokenUpTo cost frame f g 0 n → Raised (cost.weigh 13 0) (ForestCosts cost frame []) n
    back n (from k m some e a) = absurd (omega (arith, some, e))
    back n (throughout a) = a

  pub held-step : (i : ℕ) {a b x : ℕ} → CutLeast (TreeCosts cost frame (claim f i Holds)) a
      → CutLeast (TreeCosts cost frame (claim g i Holds)) b → CutLeast (HeldUpTo cost frame f g i) x
      → CutLeast (HeldUpTo cost frame f g (suc i)) (min (cut (cost.weigh 11 0 + b)) (cut (x + a)))
  held-step i a b x =
      cut-same (held_on i) (held_back i) (cut_or (cut-raised (cost.weigh 11 0) b) (cut_sum x a))

  pub broken-step : (i : ℕ) {a b x : ℕ} → CutLeast (TreeCosts cost frame (claim f i Violated)) a
      → CutLeast (TreeCosts cost frame (claim g i Violated)) b → CutLeast (BrokenUpTo cost frame f g i) x
      → CutLeast (BrokenUpTo cost frame f g (suc i))
      (min (cut (cost.weigh 12 0 + cut (a + b))) (cut (x + b)))
  broken-step i a b x =
      cut-same (broken-on i) (broken-back i)
      (cut_or (cut-raised (cost.weigh 12 0) (cut_sum a b)) (cut_sum x b))

  pub held_whole : (i : ℕ) {p : ℕ} → CutLeast (HeldUpTo cost frame f g (suc i)) p
      → CutLeast (TreeCosts cost frame (claim (since f g) i Holds)) p
  held_whole i = cut-same (held-tree i) (tree-held i)

  pub broken-whole : (i : ℕ) {p : ℕ} → CutLeast (BrokenUpTo cost frame f g (suc i)) p
      → CutLeast (TreeCosts cost frame (claim (since f g) i Violated)) p
  broken-whole i = cut-same (broken-tree i) (tree-broken i)
