-- The roots of a since and of an until, by the steps to the witness,
-- with what they cost by the cells of their parts.
use Prim.Native.Nat.{ℕ, suc, ◌+◌, ◌-◌, ◌≤◌}
use mathlib.Core.Path.{◌≡◌, sym, subst}
use mathlib.Core.Bool.{true, false}
use mathlib.Core.List.{◌∷◌}
use native.Mathlib.Omega.{arith}
use Rattle.rules.specs.Formula.{Formula, since, until, height}
use Rattle.rules.specs.declared.Side.TheVariants.{Past}
use Rattle.trees.specs.Nodes.{node}
use Rattle.trees.specs.Rules.{Frame, claim, run, rule11, rule12, rule13, rule14, rule15, rule16}
use Rattle.trees.specs.Least.{Cost}
use Rattle.trees.specs.declared.Verdict.TheVariants.{Holds, Violated}
use Rattle.theory.specs.inside.RunCosts.{sum_run}
use Rattle.theory.specs.inside.Prices.{Price}
use Rattle.cells.specs.inside.Meant.{CellFor}
use Rattle.scans.specs.inside.Scans.{price_in, step_from, members_of, prices_from}
use Rattle.roots.proofs.Sums.{run-ahead, run-back}
use Rattle.roots.proofs.Meets.{Costed}
use Rattle.roots.proofs.PartPrices.{part-price, list-costs, first-costs}

-- since: a and b are the cells of left and right, up to i
module _ {cost : Cost} {frame : Frame} {f g : Formula} (i : ℕ) (a b : ℕ → ℕ)
    (ca : (k : ℕ) → k ≤ i → CellFor cost frame f k (a k))
    (cb : (k : ℕ) → k ≤ i → CellFor cost frame g k (b k)) (n : ℕ) (le : n ≤ i) where
  pub held-since : Costed cost frame (claim (since f g) i Holds) (node 11 0 (members_of true n))
      (prices_from b true false i n + sum_run (prices_from a true false i) 0 (members_of true n))
  unfolding members_of step_from
  held-since = record {
    needs = claim g (i - n) Holds ∷ run f (i - n + 1) n Holds;
    rule = rule11 le;
    costs = first-costs (λ q. price_in true (a q)) (i - n) (i - n + 1) n _ _
        (part-price Holds (cb (i - n) (omega arith))) (λ j ge lt. part-price Holds (ca j (omega arith)))
        (run-back (λ q. price_in true (a q)) i (i - n + 1) n (omega arith) (omega arith));
  }

  pub broken-since : Costed cost frame (claim (since f g) i Violated) (node 12 0 (members_of false n))
      (prices_from a false false i n + sum_run (prices_from b false false i) 0 (members_of false n))
  unfolding members_of step_from
  broken-since =
      let here : i + 1 - suc n ≡ i - n = omega arith in
      record {
        needs = claim f (i + 1 - suc n) Violated ∷ run g (i + 1 - suc n) (suc n) Violated;
        rule = rule12 {i = i} {n = suc n} (omega arith) (omega arith);
        costs = first-costs (λ q. price_in false (b q)) (i + 1 - suc n) (i + 1 - suc n) (suc n) _ _
            (subst (λ p. Price cost frame (claim f p Violated) (price_in false (a (i - n)))) (sym here)
            (part-price Violated (ca (i - n) (omega arith))))
            (λ j ge lt. part-price Violated (cb j (omega arith)))
            (run-back (λ q. price_in false (b q)) i (i + 1 - suc n) (suc n) (omega arith) (omega arith));
      }

module _ {cost : Cost} {frame : Frame} {f g : Formula} (i : ℕ) (b : ℕ → ℕ)
    (cb : (k : ℕ) → k ≤ i → CellFor cost frame g k (b k)) where
  pub never-since : Costed cost frame (claim (since f g) i Violated) (node 13 0 (members_of false i))
      (sum_run (prices_from b false false i) 0 (members_of false i))
  unfolding members_of step_from
  never-since = record {
    needs = run g 0 (suc i) Violated;
    rule = rule13 {i = i} {n = suc i} (omega arith);
    costs = list-costs (λ q. price_in false (b q)) 0 (suc i) _
        (λ j ge lt. part-price Violated (cb j (omega arith)))
        (run-back (λ q. price_in false (b q)) i 0 (suc i) (omega arith) (omega arith));
  }

-- until: a and b are the cells of left and right, from i up to the witness
module _ {cost : Cost} {frame : Frame} {f g : Formula} (i : ℕ) (a b : ℕ → ℕ) (n : ℕ)
    (ca : (k : ℕ) → k ≤ i + n → CellFor cost frame f k (a k))
    (cb : (k : ℕ) → k ≤ i + n → CellFor cost frame g k (b k)) where
  pub held-until : Costed cost frame (claim (until f g) i Holds) (node 14 0 (members_of true n))
      (prices_from b true true i n + sum_run (prices_from a true true i) 0 (members_of true n))
  unfolding members_of step_from
  held-until = record {
    needs = claim g (i + n) Holds ∷ run f i n Holds;
    rule = rule14;
    costs = first-costs (λ q. price_in true (a q)) (i + n) i n _ _
        (part-price Holds (cb (i + n) (omega arith))) (λ j ge lt. part-price Holds (ca j (omega arith)))
        (run-ahead (λ q. price_in true (a q)) i n);
  }

  pub broken-until : Costed cost frame (claim (until f g) i Violated) (node 15 0 (members_of false n))
      (prices_from a false true i n + sum_run (prices_from b false true i) 0 (members_of false n))
  unfolding members_of step_from
  broken-until =
      let here : i + suc n - 1 ≡ i + n = omega arith in
      record {
        needs = claim f (i + suc n - 1) Violated ∷ run g i (suc n) Violated;
        rule = rule15 {n = suc n} (omega arith);
        costs = first-costs (λ q. price_in false (b q)) (i + suc n - 1) i (suc n) _ _
            (subst (λ p. Price cost frame (claim f p Violated) (price_in false (a (i + n)))) (sym here)
            (part-price Violated (ca (i + n) (omega arith))))
            (λ j ge lt. part-price Violated (cb j (omega arith)))
            (run-ahead (λ q. price_in false (b q)) i (suc n));
      }

module _ {cost : Cost} {frame : Frame} {f g : Formula} (i : ℕ) (b : ℕ → ℕ) (n : ℕ)
    (cb : (k : ℕ) → k ≤ i + n → CellFor cost frame g k (b k)) where
  pub never-until : suc n ≡ frame.count i (height Past g)
      → Costed cost frame (claim (until f g) i Violated) (node 16 0 (members_of false n))
      (sum_run (prices_from b false true i) 0 (members_of false n))
  unfolding members_of step_from
  never-until e = record {
    needs = run g i (suc n) Violated;
    rule = rule16 {n = suc n} e;
    costs = list-costs (λ q. price_in false (b q)) i (suc n) _
        (λ j ge lt. part-price Violated (cb j (omega arith)))
        (run-ahead (λ q. price_in false (b q)) i (suc n));
  }
