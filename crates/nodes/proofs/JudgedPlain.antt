-- The test of rules 3 to 10 is right, and what they ask of one part or two.
use mathlib.Core.Path.{◌≡◌, refl}
use mathlib.Core.Bool.{true}
use mathlib.Core.List.{List}
use Prim.Native.Nat.{ℕ, ◌-◌, ◌<◌, ◌≤◌}
use native.Mathlib.Omega.{arith}
use Rattle.rules.specs.Tables.{entry_at, formula_of}
use Rattle.trees.specs.Nodes.{node}
use Rattle.trees.specs.Rules.{Frame, claim, Rule, rule3, rule4, rule5, rule6, rule7, rule8, rule9, rule10}
use Rattle.trees.specs.Verdicts.{rule_sign, sign_of}
use Rattle.trees.specs.inside.Table.{rule_kind, rule_fixed}
use Rattle.nodes.specs.inside.Fits.{left_of, right_of, fits_of}
use Rattle.nodes.specs.inside.Demands.{first_of, plain_demands, claims_of, Earlier, Asks}
use Rattle.nodes.specs.inside.Tested.{Tested}
use Rattle.trees.specs.declared.Verdict.{Verdict}
use Rattle.trees.specs.declared.Verdict.TheVariants.{Holds, Violated}
use Rattle.nodes.specs.declared.Demands.{Demands}
use Rattle.trees.proofs.Table.{peel}
use Rattle.nodes.proofs.Parts.{by_kind, left-earlier, right-earlier}
use Rattle.nodes.proofs.Judged.{fits-says, rule_fits, at-kind, tested-by}

module _ (frame : Frame) (table : List ℕ) (e i : ℕ) (s : Verdict) where
  abbrev demands : ℕ → Verdict → Demands
  demands k t = plain_demands (entry_at table e) i t k

  Right : ℕ → Type 0
  Right k = fits_of k (entry_at table e) s ≡ true → Asks frame table e i s (node k 0 0) (demands k s)

  -- a part that is the left or the right one, and a second one only for an entry of two
  near : (k : ℕ) → first_of (entry_at table e) k < e
      → (0 < rule_fixed k - 1 → right_of (entry_at table e) < e)
      → rule_fixed k ≤ 2 → Earlier e i (demands k s)
  unfolding plain_demands
  near k first second two = record {
    one = omega arith;
    first = λ _. first;
    place = omega arith;
    member = second;
    last = omega arith;
  }

  module _ (k : ℕ) (h : fits_of k (entry_at table e) s ≡ true) where
    ruled : (t : Verdict) → rule_sign k ≡ sign_of t
        → Rule frame
        (claim (by_kind (rule_kind k) (formula_of table) (left_of (entry_at table e))
        (right_of (entry_at table e)))
        i t)
        (node k 0 0) (claims_of table (demands k t))
        → Rule frame (claim (formula_of table e) i s) (node k 0 0) (claims_of table (demands k s))
    ruled t =
        at-kind table e i s k t
        (λ f t. Rule frame (claim f i t) (node k 0 0) (claims_of table (demands k t))) h

    left_near : 1 ≤ rule_kind k → left_of (entry_at table e) < e
    left_near le = left-earlier table e (omega (arith, (fits-says k (entry_at table e) s h).0))

    right_near : 2 ≤ rule_kind k → right_of (entry_at table e) < e
    right_near le = right-earlier table e (omega (arith, (fits-says k (entry_at table e) s h).0))

  right-3 : Right 3
  unfolding Right plain_demands
  right-3 h = record {
    rule = ruled 3 h Holds refl rule3;
    near = near 3 (left_near 3 h (omega arith)) (λ c. absurd (omega arith)) (omega arith);
  }

  right-4 : Right 4
  unfolding Right plain_demands
  right-4 h = record {
    rule = ruled 4 h Violated refl rule4;
    near = near 4 (left_near 4 h (omega arith)) (λ c. absurd (omega arith)) (omega arith);
  }

  right-5 : Right 5
  unfolding Right plain_demands
  right-5 h = record {
    rule = ruled 5 h Holds refl rule5;
    near = near 5 (left_near 5 h (omega arith)) (λ c. absurd (omega arith)) (omega arith);
  }

  right-6 : Right 6
  unfolding Right plain_demands
  right-6 h = record {
    rule = ruled 6 h Holds refl rule6;
    near = near 6 (right_near 6 h (omega arith)) (λ c. absurd (omega arith)) (omega arith);
  }

  right-7 : Right 7
  unfolding Right plain_demands
  right-7 h = record {
    rule = ruled 7 h Violated refl rule7;
    near = near 7 (left_near 7 h (omega arith)) (λ _. right_near 7 h (omega arith)) (omega arith);
  }

  right-8 : Right 8
  unfolding Right plain_demands
  right-8 h = record {
    rule = ruled 8 h Holds refl rule8;
    near = near 8 (left_near 8 h (omega arith)) (λ _. right_near 8 h (omega arith)) (omega arith);
  }

  right-9 : Right 9
  unfolding Right plain_demands
  right-9 h = record {
    rule = ruled 9 h Violated refl rule9;
    near = near 9 (left_near 9 h (omega arith)) (λ c. absurd (omega arith)) (omega arith);
  }

  right-10 : Right 10
  unfolding Right plain_demands
  right-10 h = record {
    rule = ruled 10 h Violated refl rule10;
    near = near 10 (right_near 10 h (omega arith)) (λ c. absurd (omega arith)) (omega arith);
  }

  -- where kind and sign fit, the rule does, and its parts are what it asks
  pub asks-plain : (k : ℕ) → 3 ≤ k → k ≤ 10 → fits_of k (entry_at table e) s ≡ true
      → Asks frame table e i s (node k 0 0) (demands k s)
  unfolding Right
  asks-plain k low high =
      peel Right 3 k low right-3
      (λ l. peel Right 4 k l right-4
      (λ l. peel Right 5 k l right-5
      (λ l. peel Right 6 k l right-6
      (λ l. peel Right 7 k l right-7
      (λ l. peel Right 8 k l right-8
      (λ l. peel Right 9 k l right-9 (λ l. peel Right 10 k l right-10 (λ l. absurd (omega arith)))))))))

  pub judged-plain : (k : ℕ) → 3 ≤ k → k ≤ 10
      → Tested frame (claim (formula_of table e) i s) (node k 0 0) (fits_of k (entry_at table e) s)
  judged-plain k low high =
      tested-by _ (λ t. (_, (asks-plain k low high t).rule)) (λ needs r. rule_fits table e i s r)
