-- The test of rules 1 and 2 is right: it passes where atom, position and letter are the claim's.
use mathlib.Core.Path.{◌≡◌, refl, sym, ap, subst, subst₂, ◌∙◌}
use mathlib.Core.Bool.{Bool, true, ◌&&◌}
use mathlib.Core.List.{List, []}
use Prim.Native.Nat.{ℕ, ◌-◌, ◌/◌, ◌%◌, ◌^◌, ◌≤◌}
use native.Mathlib.Omega.{arith}
use borrow.Author.Tests.{eq-eqb, eqb-true}
use lib.Dec.{eqb}
use Rattle.rules.specs.Formula.{atom}
use Rattle.rules.specs.Tables.{entry_at, formula_of}
use Rattle.schedule.proofs.Tests.{and_both}
use Rattle.trees.specs.Nodes.{node}
use Rattle.trees.specs.Rules.{Frame, Claim, claim, Rule, rule1, rule2}
use Rattle.trees.specs.Verdicts.{rule_sign, sign_of}
use Rattle.trees.specs.inside.Table.{rule_kind}
use Rattle.nodes.specs.inside.Fits.{left_of, fits_of, atom_agrees, atom_fits}
use Rattle.nodes.specs.inside.Tested.{Tested}
use Rattle.trees.specs.declared.Verdict.{Verdict}
use Rattle.trees.specs.declared.Verdict.TheVariants.{Holds, Violated}
use Rattle.trees.proofs.Table.{peel}
use Rattle.nodes.proofs.Parts.{formula-kind}
use Rattle.trees.proofs.Needs.{formula_atom, rule-numbers}
use Rattle.nodes.proofs.Judged.{fits-says, rule_fits, at-kind, tested-by}

module _ (frame : Frame) (table : List ℕ) (e i : ℕ) (s : Verdict) (a n : ℕ) where
  -- what is asked of atom, position and letter
  record Named (k : ℕ) : Type 0 where
    named : a ≡ left_of (entry_at table e)
    placed : n ≡ i
    lettered : frame.letter i / 2 ^ a % 2 ≡ 2 - rule_sign k

  Right : ℕ → Type 0
  Right k =
      fits_of k (entry_at table e) s ≡ true → Named k
      → Rule frame (claim (formula_of table e) i s) (node k a n) []

  right-1 : Right 1
  unfolding Right
  right-1 h told =
      at-kind table e i s 1 Holds (λ f t. Rule frame (claim f i t) (node 1 a n) []) h refl
      (subst₂ (λ b m. Rule frame (claim (atom (left_of (entry_at table e))) i Holds) (node 1 b m) [])
      (sym told.named) (sym told.placed)
      (rule1 (subst (λ b. frame.letter i / 2 ^ b % 2 ≡ 1) told.named told.lettered)))

  right-2 : Right 2
  unfolding Right
  right-2 h told =
      at-kind table e i s 2 Violated (λ f t. Rule frame (claim f i t) (node 2 a n) []) h refl
      (subst₂ (λ b m. Rule frame (claim (atom (left_of (entry_at table e))) i Violated) (node 2 b m) [])
      (sym told.named) (sym told.placed)
      (rule2
      (λ one. omega (arith, subst (λ b. frame.letter i / 2 ^ b % 2 ≡ 0) told.named told.lettered))))

  -- a rule that fits has passed every test
  module _ (needs : List Claim) where
    name-told : (k : ℕ) → k ≤ 2 → Rule frame (claim (formula_of table e) i s) (node k a n) needs
        → rule_kind k ≡ 0 → a ≡ left_of (entry_at table e)
    name-told k high r kind =
        (rule-numbers r).named
        ∙ ap formula_atom
        (formula-kind table e 0 (sym (fits-says k (entry_at table e) s (rule_fits table e i s r)).0 ∙ kind))

    Passed : ℕ → Type 0
    Passed k = Rule frame (claim (formula_of table e) i s) (node k a n) needs → Named k

    passed-1 : Passed 1
    unfolding Passed
    passed-1 r =
        let name = name-told 1 (omega arith) r refl in
        record {
          named = name;
          placed = (rule-numbers r).place (omega arith);
          lettered = subst (λ b. frame.letter i / 2 ^ b % 2 ≡ 1) (sym (rule-numbers r).named)
              ((rule-numbers r).letter1 refl);
        }

    passed-2 : Passed 2
    unfolding Passed
    passed-2 r =
        let name = name-told 2 (omega arith) r refl in
        let not-one = (rule-numbers r).letter2 refl in
        record {
          named = name;
          placed = (rule-numbers r).place (omega arith);
          lettered =
              subst (λ b. frame.letter i / 2 ^ b % 2 ≡ 0) (sym (rule-numbers r).named)
              (zero_or (frame.letter i / 2 ^ formula_atom (formula_of table e)) not-one);
        }
      where
        zero_or : (q : ℕ) → ¬ (q % 2 ≡ 1) → q % 2 ≡ 0
        zero_or q h = omega arith

    passed : (k : ℕ) → 1 ≤ k → k ≤ 2 → Passed k
    passed k low high =
        peel Passed 1 k low passed-1 (λ l. peel Passed 2 k l passed-2 (λ l. absurd (omega arith)))

  pub judged-atom : (k : ℕ) → 1 ≤ k → k ≤ 2
      → Tested frame (claim (formula_of table e) i s) (node k a n)
      (atom_fits (frame.letter i) (entry_at table e) i s k a n)
  unfolding atom_fits atom_agrees Right Passed
  judged-atom k low high =
      tested-by _ (λ t. ([], forth t)) (λ needs r. back (passed needs k low high r) (rule_fits table e i s r))
    where
      right : Right k
      right = peel Right 1 k low right-1 (λ l. peel Right 2 k l right-2 (λ l. absurd (omega arith)))

      named : Bool
      named = eqb a (left_of (entry_at table e))

      placed : Bool
      placed = eqb n i

      lettered : Bool
      lettered = eqb (frame.letter i / 2 ^ a % 2) (2 - sign_of s)

      signed : fits_of k (entry_at table e) s ≡ true → 2 - rule_sign k ≡ 2 - sign_of s
      signed f = ap (λ m. 2 - m) (fits-says k (entry_at table e) s f).1

      forth : (fits_of k (entry_at table e) s && (named && (placed && lettered))) ≡ true
          → Rule frame (claim (formula_of table e) i s) (node k a n) []
      forth t =
          let first = and_both (fits_of k (entry_at table e) s) (named && (placed && lettered)) t in
          let second = and_both named (placed && lettered) first.1 in
          let third = and_both placed lettered second.1 in
          right first.0 (record {
            named = eqb-true a (left_of (entry_at table e)) second.0;
            placed = eqb-true n i third.0;
            lettered = eqb-true (frame.letter i / 2 ^ a % 2) (2 - sign_of s) third.1 ∙ sym (signed first.0);
          })

      back : Named k → fits_of k (entry_at table e) s ≡ true
          → (fits_of k (entry_at table e) s && (named && (placed && lettered))) ≡ true
      back told f =
          simp (
            f,
            eq-eqb a (left_of (entry_at table e)) told.named,
            eq-eqb n i told.placed,
            eq-eqb (frame.letter i / 2 ^ a % 2) (2 - sign_of s) (told.lettered ∙ signed f),
          )
