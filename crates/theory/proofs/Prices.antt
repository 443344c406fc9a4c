-- What the price of a claim says about the least tree, and the least tree about the prices.
use Prim.Native.Nat.{ℕ, ◌<◌, ◌≤◌}
use mathlib.Core.Path.{◌≡◌, refl}
use mathlib.Core.List.{List}
use native.Mathlib.Omega.{arith}
use Rattle.rules.specs.Formula.{Formula}
use Rattle.trees.specs.declared.Node.{Node}
use Rattle.trees.specs.Rules.{Frame, claim}
use Rattle.trees.specs.Trees.{Tree}
use Rattle.trees.specs.Least.{Cost, cost_of, Least}
use Rattle.trees.specs.declared.Verdict.{Verdict}
use Rattle.trees.specs.declared.Verdict.TheVariants.{Holds, Violated}
use Rattle.trees.proofs.Order.{at-cost}
use Rattle.theory.specs.inside.Frames.{Lawful}
use Rattle.trees.specs.Means.{Means}
use Rattle.theory.specs.inside.Costs.{cut_off, cut}
use Rattle.theory.specs.inside.Prices.{Price}
use Rattle.theory.proofs.Cuts.{cut-none}
use Rattle.theory.proofs.Sound.{sound}
use Rattle.theory.proofs.LeastForests.{same-verdict}

module _ {cost : Cost} {frame : Frame} {f : Formula} {i : ℕ} where
  -- a tree has at least the price of its claim
  pub price-under : {s : Verdict} {p : ℕ} {vs : List Node} → Price cost frame (claim f i s) p
      → Tree frame (claim f i s) vs → p ≤ cost_of cost vs
  price-under {vs} c t =
      omega (arith, c.under (cost_of cost vs) (record { nodes = vs; tree = t; costs = refl }))

  pub least-price : {us : List Node} (l : Least cost frame f i us)
      → Price cost frame (claim f i l.verdict) (cut (cost_of cost us))
  least-price {us} l = record {
    top = omega arith;
    under = λ n t. omega (arith, at-cost (l.least l.verdict t.nodes t.tree), t.costs);
    met = λ h. record { nodes = us; tree = l.valid; costs = omega (arith, h) };
  }

module _ {frame : Frame} (law : Lawful frame) {f : Formula} {i : ℕ} where
  means-verdict : (s q : Verdict) {vs : List Node} → Means frame.letter (claim f i s)
      → Tree frame (claim f i q) vs → q ≡ s
  means-verdict Holds Holds m t = refl
  means-verdict Holds Violated m t = absurd (sound law t m)
  means-verdict Violated Holds m t = absurd (m (sound law t))
  means-verdict Violated Violated m t = refl

module _ {cost : Cost} {frame : Frame} (law : Lawful frame) {f : Formula} {i : ℕ} where
  pub price-verdict : {s : Verdict} {p : ℕ} {us : List Node} → Price cost frame (claim f i s) p → p < cut_off
      → (l : Least cost frame f i us) → l.verdict ≡ s
  price-verdict {s} c h l = same-verdict law l.verdict s l.valid (c.met h).tree

  pub price-least : {s : Verdict} {p : ℕ} {us : List Node} → Price cost frame (claim f i s) p → p < cut_off
      → Least cost frame f i us → cost_of cost us ≡ p
  price-least {s} {us} c h l =
      let t = c.met h in
      omega (
        arith,
        price-under c (rw (price-verdict c h l) at l.valid),
        at-cost (l.least s t.nodes t.tree),
        t.costs,
      )

  pub price-large : {s q : Verdict} {vs : List Node} → Price cost frame (claim f i s) cut_off
      → Means frame.letter (claim f i s) → Tree frame (claim f i q) vs → cut_off ≤ cost_of cost vs
  price-large {s} {q} c m t = price-under c (rw (means-verdict law s q m t) at t)

  pub unmeant-price : {s : Verdict} → ¬ Means frame.letter (claim f i s)
      → Price cost frame (claim f i s) cut_off
  unmeant-price n = cut-none (λ k t. n (sound law t.tree))
