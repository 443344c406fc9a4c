-- What trees of an until cost, from each position to the one before: those with a witness before a top, and
-- with a top past the window all of them.
use Prim.Native.Nat.{ℕ, zero, suc, ◌+◌, ◌-◌, ◌<◌, ◌≤◌, min}
use mathlib.Core.Path.{◌≡◌, refl, sym, subst, ◌∙◌}
use mathlib.Core.Logic.{◌⊎◌, inl, inr, ⊎_elim}
use mathlib.Core.List.{List, [], ◌∷◌}
use native.Mathlib.Nat.{zero-add, suc-add, add-zero, add-suc}
use native.Mathlib.Omega.{arith}
use Rattle.rules.specs.Formula.{Formula, until, height}
use Rattle.rules.specs.declared.Side.TheVariants.{Past}
use Rattle.trees.specs.declared.Node.{Node}
use Rattle.trees.specs.Rules.{Frame, Claim, claim, run, rule14, rule15, rule16}
use Rattle.trees.specs.Trees.{Tree, grown}
use Rattle.trees.specs.Frames.{window_count}
use Rattle.trees.specs.Least.{Cost, cost_of}
use Rattle.trees.specs.declared.Verdict.{Verdict}
use Rattle.trees.specs.declared.Verdict.TheVariants.{Holds, Violated}
use Rattle.trees.proofs.Order.{at-cost}
use Rattle.theory.specs.inside.Threshold.{window_end}
use Rattle.theory.specs.inside.Level.{Level}
use Rattle.theory.specs.inside.Costs.{TreeCosts, ForestCosts, CutLeast, Sum, Raised, cut, cut_off}
use Rattle.theory.specs.inside.UntilCosts.{WitnessBefore, HoldsBefore, CutBefore}
use Rattle.theory.proofs.Cuts.{cut-same, cut-none, cut_or, cut_sum, cut-raised}
use Rattle.theory.proofs.Costs.{costs-joined, costs-parted, alone-costs, costs-alone, cut-alone}
use Rattle.theory.proofs.Costs.{cut-more, costs-grown, costs-root}
use Rattle.theory.proofs.Horizon.{InWindow}
use Rattle.theory.proofs.Windowed.{Windowed}

-- a claim aside, or in the second place
module _ {cost : Cost} {frame : Frame} {c d : Claim} (cs : List Claim) (n : ℕ) where
  costs-put : Sum (ForestCosts cost frame (c ∷ cs)) (TreeCosts cost frame d) n
      → ForestCosts cost frame (c ∷ d ∷ cs) n
  costs-put s =
      let p = costs-parted (c ∷ []) cs _ s.one in
      let q = costs-joined (d ∷ []) cs _
      record { first = _; second = _; one = alone-costs _ s.other; other = p.other; adds = refl } in
      costs-joined (c ∷ []) (d ∷ cs) n
      record { first = _; second = _; one = p.one; other = q; adds = omega (arith, p.adds, s.adds) }

  costs-taken : ForestCosts cost frame (c ∷ d ∷ cs) n
      → Sum (ForestCosts cost frame (c ∷ cs)) (TreeCosts cost frame d) n
  costs-taken a =
      let p = costs-parted (c ∷ []) (d ∷ cs) n a in
      let q = costs-parted (d ∷ []) cs _ p.other in
      let r = costs-joined (c ∷ []) cs _
      record { first = _; second = _; one = p.one; other = q.other; adds = refl } in
      record {
        first = _;
        second = _;
        one = r;
        other = costs-alone _ q.one;
        adds = omega (arith, p.adds, q.adds);
      }

module _ {cost : Cost} {frame : Frame} {rule m : ℕ} {h g : Formula} {s : Verdict} {top i : ℕ} where
  pub witness-start : top ≤ i → CutLeast (WitnessBefore cost frame rule m h g s top i) cut_off
  witness-start le = cut-none (λ n a. omega (arith, a.near, le))

  -- the witness at i, or further on and g at i
  witness-joined : i < top → (n : ℕ)
      → Raised (cost.weigh rule 0) (ForestCosts cost frame (claim h i s ∷ run g i m s)) n
      ⊎ Sum (WitnessBefore cost frame rule m h g s top (suc i)) (TreeCosts cost frame (claim g i s)) n
      → WitnessBefore cost frame rule m h g s top i n
  witness-joined lt n (inl a) =
      record {
        far = 0;
        near = omega (arith, lt);
        from = a.from;
        below = rw (add-zero i, add-zero m) a.one;
        adds = a.adds;
      }
  witness-joined lt n (inr a) =
      let b = a.one in
      let rest = rw (suc-add i b.far) at b.below in
      let all = costs-put (run g (suc i) (m + b.far) s) _
      record { first = _; second = _; one = rest; other = a.other; adds = refl } in
      record {
        far = suc b.far;
        near = omega (arith, b.near);
        from = b.from + a.second;
        below = rw (add-suc i b.far, add-suc m b.far) all;
        adds = omega (arith, b.adds, a.adds);
      }

  witness-parted : (n far from : ℕ) → i + far < top
      → ForestCosts cost frame (claim h (i + far) s ∷ run g i (m + far) s) from
      → cost.weigh rule 0 + from ≡ n
      → Raised (cost.weigh rule 0) (ForestCosts cost frame (claim h i s ∷ run g i m s)) n
      ⊎ Sum (WitnessBefore cost frame rule m h g s top (suc i)) (TreeCosts cost frame (claim g i s)) n
  witness-parted n zero from lt a e =
      inl record { from = from; one = rw (add-zero i, add-zero m) at a; adds = e }
  witness-parted n (suc far) from lt a e =
      let b = costs-taken (run g (suc i) (m + far) s) from (rw (add-suc i far, add-suc m far) at a) in
      inr record {
        first = cost.weigh rule 0 + b.first;
        second = b.second;
        one = record {
          far = far;
          near = omega (arith, lt);
          from = b.first;
          below = rw (suc-add i far) b.one;
          adds = refl;
        };
        other = b.other;
        adds = omega (arith, b.adds, e);
      }

  witness-step : {a b x : ℕ} → i < top → CutLeast (ForestCosts cost frame (claim h i s ∷ run g i m s)) a
      → CutLeast (TreeCosts cost frame (claim g i s)) b
      → CutLeast (WitnessBefore cost frame rule m h g s top (suc i)) x
      → CutLeast (WitnessBefore cost frame rule m h g s top i)
      (min (cut (cost.weigh rule 0 + a)) (cut (x + b)))
  witness-step lt here there on =
      cut-same (witness-joined lt) (λ n a. witness-parted n a.far a.from a.near a.below a.adds)
      (cut_or (cut-raised (cost.weigh rule 0) here) (cut_sum on there))

module _ {cost : Cost} {frame : Frame} {f g : Formula} {top i a b x : ℕ} where
  pub until-holds-step : i < top
      → CutLeast (TreeCosts cost frame (claim g i Holds)) b
      → CutLeast (TreeCosts cost frame (claim f i Holds)) a
      → CutLeast (HoldsBefore cost frame f g top (suc i)) x
      → CutLeast (HoldsBefore cost frame f g top i) (min (cut (cost.weigh 14 0 + b)) (cut (x + a)))
  until-holds-step lt right left on = witness-step lt (cut-alone right) left on

  pub until-violated-step : i < top
      → CutLeast (TreeCosts cost frame (claim g i Violated)) b
      → CutLeast (TreeCosts cost frame (claim f i Violated)) a
      → CutLeast (CutBefore cost frame f g top (suc i)) x
      → CutLeast (CutBefore cost frame f g top i) (min (cut (cost.weigh 15 0 + (a + b))) (cut (x + b)))
  until-violated-step lt right left on = subst (CutLeast (CutBefore cost frame f g top i)) (omega arith)
      (witness-step lt (cut-more (claim g i Violated ∷ []) left (cut-alone right)) right on)

-- a root inside the window has its witness before the top
module _ {cost : Cost} {frame : Frame} {u v reach : ℕ} (w : Windowed frame u v reach) {f g : Formula}
    {top i : ℕ} (le : window_end u v g i ≤ top) where
  holds-near : {x : Node} {ws : List Node} → Tree frame (claim (until f g) i Holds) (x ∷ ws)
      → InWindow u v (claim (until f g) i Holds) x → HoldsBefore cost frame f g top i (cost_of cost (x ∷ ws))
  holds-near (grown {ws} (rule14 {n}) fs) near = record {
    far = n;
    near = omega (arith, near.ahead refl, le);
    from = cost_of cost ws;
    below = record { nodes = ws; forest = rw (zero-add n) fs; costs = refl };
    adds = refl;
  }

  violated-near : {x : Node} {ws : List Node} → Tree frame (claim (until f g) i Violated) (x ∷ ws)
      → InWindow u v (claim (until f g) i Violated) x
      → CutBefore cost frame f g top i (cost_of cost (x ∷ ws))
      ⊎ Raised (cost.weigh 16 0)
      (ForestCosts cost frame (run g i (window_count u v i (height Past g)) Violated)) (cost_of cost (x ∷ ws))
  violated-near (grown {ws} (rule15 {n} some) fs) near =
      let place : i + (n - 1) ≡ i + n - 1 = omega arith in
      let count : 1 + (n - 1) ≡ n = omega arith in
      inl record {
        far = n - 1;
        near = omega (arith, near.cut refl, le);
        from = cost_of cost ws;
        below = record { nodes = ws; forest = rw (place, count) fs; costs = refl };
        adds = refl;
      }
  violated-near (grown {x} (rule16 e) fs) near =
      inr (costs-root x _ (rw (e ∙ w.counts i (height Past g)) at fs) refl)

module _ {cost : Cost} {frame : Frame} {f g : Formula} {top i : ℕ} (n : ℕ) where
  holds-grown : HoldsBefore cost frame f g top i n → TreeCosts cost frame (claim (until f g) i Holds) n
  holds-grown a =
      costs-grown rule14 n
      record { from = a.from; one = rw (zero-add a.far) at a.below; adds = a.adds }

  violated-grown : CutBefore cost frame f g top i n → TreeCosts cost frame (claim (until f g) i Violated) n
  violated-grown a =
      let place : i + (1 + a.far) - 1 ≡ i + a.far = omega arith in
      costs-grown (rule15 {n = 1 + a.far} (omega arith)) n
      record { from = a.from; one = rw place a.below; adds = a.adds }

-- No tree is cheaper than those with a witness inside the window.
module _ {cost : Cost} (lv : Level cost) {frame : Frame} {u v reach : ℕ} (w : Windowed frame u v reach)
    {f g : Formula} {top i : ℕ} where
  pub until-holds-costs : {p : ℕ} → window_end u v g i ≤ top
      → CutLeast (HoldsBefore cost frame f g top i) p
      → CutLeast (TreeCosts cost frame (claim (until f g) i Holds)) p
  until-holds-costs le a = record {
    top = a.top;
    under = λ n t. let b = w.near cost lv _ _ t.tree in
        omega (arith, a.under _ (holds-near w le b.tree b.near), at-cost b.before, t.costs);
    met = λ h. holds-grown _ (a.met h);
  }

  pub until-violated-costs : {q r : ℕ} → window_end u v g i ≤ top
      → CutLeast (CutBefore cost frame f g top i) q
      → CutLeast (ForestCosts cost frame (run g i (window_count u v i (height Past g)) Violated)) r
      → CutLeast (TreeCosts cost frame (claim (until f g) i Violated)) (min q (cut (cost.weigh 16 0 + r)))
  until-violated-costs le a c =
      let both = cut_or a (cut-raised (cost.weigh 16 0) c) in
      record {
        top = both.top;
        under = λ n t. let b = w.near cost lv _ _ t.tree in
            omega (
              arith,
              both.under _ (violated-near w le b.tree b.near),
              at-cost b.before,
              t.costs,
            );
        met = λ h. ⊎_elim (violated-grown _)
            (costs-grown (rule16 (sym (w.counts i (height Past g)))) _) (both.met h);
      }
