-- The test of rules 11 to 16 is right, and what they ask: a first part and a list, or a list alone.
use mathlib.Core.Path.{◌≡◌, refl, sym, ap, ◌∙◌}
use mathlib.Core.Bool.{true}
use mathlib.Core.List.{List}
use Prim.Native.Nat.{ℕ, ◌+◌, ◌-◌, ◌<◌, ◌≤◌}
use native.Mathlib.Omega.{arith}
use borrow.Author.Tests.{eq-eqb, eqb-true, le-leb, leb-true}
use lib.Dec.{leb}
use Rattle.rules.specs.Formula.{height}
use Rattle.rules.specs.Tables.{entry_at, formula_of}
use Rattle.rules.specs.declared.Side.TheVariants.{Past}
use Rattle.schedule.proofs.Tests.{and_both}
use Rattle.trees.specs.Nodes.{node}
use Rattle.trees.specs.Rules.{Frame, Claim, claim, Rule, rule11, rule12, rule13, rule14, rule15, rule16}
use Rattle.trees.specs.Frames.{window_count}
use Rattle.trees.specs.Verdicts.{rule_sign, sign_of}
use Rattle.trees.specs.inside.Table.{rule_kind, rule_fixed}
use Rattle.nodes.specs.inside.Fits.{left_of, right_of, fits_of, count_fits, list_fits}
use Rattle.nodes.specs.inside.Demands.{list_demands, count_demands, claims_of, Earlier, Asks}
use Rattle.nodes.specs.inside.Tested.{Tested}
use Rattle.trees.specs.declared.Verdict.{Verdict}
use Rattle.trees.specs.declared.Verdict.TheVariants.{Holds, Violated}
use Rattle.nodes.specs.declared.Demands.{Demands}
use Rattle.trees.proofs.Table.{peel}
use Rattle.forms.proofs.Words.{within_in}
use Rattle.nodes.proofs.Parts.{by_kind, formula-kind, left-earlier, right-earlier}
use Rattle.trees.proofs.Needs.{formula_right, rule-numbers}
use Rattle.nodes.proofs.Judged.{fits-says, rule_fits, at-kind, tested-by}

module _ (letter : ℕ → ℕ) (u v : ℕ) (table : List ℕ) (e i : ℕ) (s : Verdict) (n : ℕ) (small : n < 65536) where
  abbrev frame : Frame
  frame = record { letter = letter; count = window_count u v }

  abbrev window : ℕ
  window = window_count u v i (height Past (formula_of table (right_of (entry_at table e))))

  abbrev demands : ℕ → Demands
  demands k = count_demands k (left_of (entry_at table e)) (right_of (entry_at table e)) i n s

  -- where kind and sign fit and the count is allowed, the rule does;
  -- and where the rule does, the count is allowed
  record Right (k : ℕ) : Type 0 where
    forth : fits_of k (entry_at table e) s ≡ true → count_fits k i n window ≡ true
        → Asks frame table e i s (node k 0 n) (demands k)
    back : {needs : List Claim} → Rule frame (claim (formula_of table e) i s) (node k 0 n) needs
        → count_fits k i n window ≡ true

  -- the rule, from its own form; and its parts are near, since entries of two name earlier ones
  module _ (k : ℕ) (h : fits_of k (entry_at table e) s ≡ true) (first place member from : ℕ) where
    ruled : (t : Verdict) → rule_sign k ≡ sign_of t
        → Rule frame
        (claim (by_kind (rule_kind k) (formula_of table) (left_of (entry_at table e))
        (right_of (entry_at table e)))
        i t)
        (node k 0 n) (claims_of table (list_demands k first place member from n t))
        → Rule frame (claim (formula_of table e) i s) (node k 0 n)
        (claims_of table (list_demands k first place member from n s))
    ruled t =
        at-kind table e i s k t
        (λ f t. Rule frame (claim f i t) (node k 0 n)
        (claims_of table (list_demands k first place member from n t))) h

    near : rule_fixed k ≤ 1 → first < e → member < e → place ≤ i + 65535 → from + n ≤ i + 65536
        → Earlier e i (list_demands k first place member from n s)
    near one a b c d = record { one = one; first = λ _. a; place = c; member = λ _. b; last = d }

  module _ (k : ℕ) (h : fits_of k (entry_at table e) s ≡ true) (two : 2 ≤ rule_kind k) where
    left_near : left_of (entry_at table e) < e
    left_near = left-earlier table e (omega (arith, (fits-says k (entry_at table e) s h).0))

    right_near : right_of (entry_at table e) < e
    right_near = right-earlier table e (omega (arith, (fits-says k (entry_at table e) s h).0))

  right-11 : Right 11
  unfolding count_fits count_demands
  right-11 = record {
    forth = λ h t. let le = leb-true n i t in
        record {
          rule = ruled 11 h _ (i - n) _ (i - n + 1) Holds refl (rule11 le);
          near = near 11 h _ (i - n) _ (i - n + 1) (omega arith) (right_near 11 h (omega arith))
              (left_near 11 h (omega arith)) (omega arith) (omega arith);
        };
    back = λ r. le-leb n i ((rule-numbers r).count11 refl);
  }

  right-12 : Right 12
  unfolding count_fits count_demands
  right-12 = record {
    forth = λ h t. let both = and_both (leb 1 n) (leb n (i + 1)) t in
        let some = leb-true 1 n both.0 in
        let le = leb-true n (i + 1) both.1 in
        record {
          rule = ruled 12 h _ (i + 1 - n) _ (i + 1 - n) Violated refl (rule12 some le);
          near = near 12 h _ (i + 1 - n) _ (i + 1 - n) (omega arith) (left_near 12 h (omega arith))
              (right_near 12 h (omega arith)) (omega arith) (omega arith);
        };
    back = λ r. let allowed = (rule-numbers r).count12 refl in within_in 1 (i + 1) n allowed.0 allowed.1;
  }

  right-13 : Right 13
  unfolding count_fits count_demands
  right-13 = record {
    forth = λ h t. let all = eqb-true n (i + 1) t in
        record {
          rule = ruled 13 h (left_of (entry_at table e)) 0 _ 0 Violated refl (rule13 all);
          near = near 13 h _ 0 _ 0 (omega arith) (left_near 13 h (omega arith))
              (right_near 13 h (omega arith)) (omega arith) (omega arith);
        };
    back = λ r. eq-eqb n (i + 1) ((rule-numbers r).count13 refl);
  }

  right-14 : Right 14
  unfolding count_fits count_demands
  right-14 = record {
    forth = λ h t. record {
      rule = ruled 14 h _ (i + n) _ i Holds refl rule14;
      near = near 14 h _ (i + n) _ i (omega arith) (right_near 14 h (omega arith))
          (left_near 14 h (omega arith)) (omega arith) (omega arith);
    };
    back = λ r. refl;
  }

  right-15 : Right 15
  unfolding count_fits count_demands
  right-15 = record {
    forth = λ h t. let some = leb-true 1 n t in
        record {
          rule = ruled 15 h _ (i + n - 1) _ i Violated refl (rule15 some);
          near = near 15 h _ (i + n - 1) _ i (omega arith) (left_near 15 h (omega arith))
              (right_near 15 h (omega arith)) (omega arith) (omega arith);
        };
    back = λ r. le-leb 1 n ((rule-numbers r).count15 refl);
  }

  right-16 : Right 16
  unfolding count_fits count_demands
  right-16 = record {
    forth = λ h t. let all = eqb-true n window t in
        record {
          rule = ruled 16 h (left_of (entry_at table e)) 0 _ i Violated refl (rule16 all);
          near = near 16 h _ 0 _ i (omega arith) (left_near 16 h (omega arith))
              (right_near 16 h (omega arith)) (omega arith) (omega arith);
        };
    back = λ r. let kind = sym (fits-says 16 (entry_at table e) s (rule_fits table e i s r)).0 in
        let right = ap formula_right (formula-kind table e 5 kind) in
        eq-eqb n window
        ((rule-numbers r).count16 refl
        ∙ ap (λ g. window_count u v i (height Past g)) right);
  }

  right-count : (k : ℕ) → 11 ≤ k → k ≤ 16 → Right k
  right-count k low high =
      peel Right 11 k low right-11
      (λ l. peel Right 12 k l right-12
      (λ l. peel Right 13 k l right-13
      (λ l. peel Right 14 k l right-14
      (λ l. peel Right 15 k l right-15 (λ l. peel Right 16 k l right-16 (λ l. absurd (omega arith)))))))

  pub asks-count : (k : ℕ) → 11 ≤ k → k ≤ 16 → {needs : List Claim}
      → Rule frame (claim (formula_of table e) i s) (node k 0 n) needs
      → Asks frame table e i s (node k 0 n) (demands k)
  asks-count k low high r =
      let right = right-count k low high in right.forth (rule_fits table e i s r) (right.back r)

  pub judged-list : (k : ℕ) → 11 ≤ k → k ≤ 16
      → Tested frame (claim (formula_of table e) i s) (node k 0 n)
      (list_fits u v table (entry_at table e) i s k n)
  unfolding list_fits
  judged-list k low high =
      let right = right-count k low high in
      tested-by _
      (λ t. let both = and_both (fits_of k (entry_at table e) s) (count_fits k i n window) t in
      (_, (right.forth both.0 both.1).rule))
      (λ needs r. simp (rule_fits table e i s r, right.back r))
