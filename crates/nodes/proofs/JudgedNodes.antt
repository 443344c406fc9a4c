-- The test of a written word is right, by the word's case; and what a node asks that a rule fits.
use mathlib.Core.Path.{◌≡◌, refl, sym, subst, ◌∙◌}
use mathlib.Core.Bool.{Bool, false}
use mathlib.Core.List.{List}
use Prim.Native.Nat.{ℕ, ◌/◌, ◌%◌, ◌^◌, ◌<◌, ◌≤◌}
use native.Mathlib.Omega.{arith}
use mathlib.Core.Logic.{by_cases}
use native.Mathlib.Decide.{dec_le}
use Rattle.std.specs.Prelude.{Option, Some, None}
use lib.ListN.{length}
use Rattle.schedule.specs.Letters.{letter_at}
use Rattle.rules.specs.Tables.{entry_at, formula_of}
use Rattle.rules.specs.declared.Entry.{Entry}
use Rattle.trees.specs.Nodes.{node, node_of}
use Rattle.trees.specs.declared.Node.{Node}
use Rattle.trees.specs.Rules.{Claim, claim, Rule}
use Rattle.trees.specs.Frames.{schedule_frame}
use Rattle.forms.specs.inside.Forms.{form_from, form_of}
use Rattle.nodes.specs.inside.Fits.{left_of, right_of, fits_of, atom_fits, list_fits}
use Rattle.nodes.specs.inside.Demands.{plain_demands, count_demands, Countable, demands_of, Asks}
use Rattle.nodes.specs.inside.Tested.{Tested, unfit}
use Rattle.trees.specs.declared.Verdict.{Verdict}
use Rattle.forms.specs.declared.Form.{Form}
use Rattle.forms.specs.declared.Form.TheVariants.{Atom, Plain, Counted}
use Rattle.nodes.specs.declared.Demands.{Demands}
use Rattle.forms.proofs.Words.{word-says, word-atom, word-plain, word-counted}
use Rattle.nodes.proofs.Plans.{demands-plain, demands-count}
use Rattle.trees.proofs.Needs.{rule-numbers}
use Rattle.nodes.proofs.Judged.{rule_fits}
use Rattle.nodes.proofs.JudgedAtoms.{judged-atom}
use Rattle.nodes.proofs.JudgedPlain.{asks-plain, judged-plain}
use Rattle.nodes.proofs.JudgedLists.{asks-count, judged-list}

abbrev IsNone : Option Form → Type 0
IsNone (Some x) = ⊥
IsNone None = Unit

-- three fields that a rule allows make a word that has a form
formed : (r a n : ℕ) → 1 ≤ r → r ≤ 16 → (3 ≤ r → a ≡ 0) → (3 ≤ r → r ≤ 10 → n ≡ 0)
    → IsNone (form_from r a n) → ⊥
formed r a n low high atomless plain bad =
    by_cases (dec_le r 2) (λ two. subst IsNone (sym (word-atom r a n low two)) bad)
    (λ more. by_cases (dec_le r 10)
    (λ ten. subst IsNone
    (sym (word-plain r a n (omega arith) ten (atomless (omega arith)) (plain (omega arith) ten))) bad)
    (λ past. subst IsNone (sym (word-counted r a n (omega arith) high (atomless (omega arith)))) bad))

node-is : (w k b m : ℕ) → w / 16777216 ≡ k → w / 65536 % 256 ≡ b → w % 65536 ≡ m → node k b m ≡ node_of w
node-is w k b m p q r = λ j. node (sym p j) (sym q j) (sym r j)

module _ (prefix loop table : List ℕ) (e i : ℕ) (s : Verdict) (w : ℕ) where
  abbrev Right : Bool → Type 0
  Right = Tested (schedule_frame prefix loop) (claim (formula_of table e) i s) (node_of w)

  -- the test of a node is that of the word
  at-node : {b : Bool} (k a n : ℕ) → w / 16777216 ≡ k → w / 65536 % 256 ≡ a → w % 65536 ≡ n
      → Tested (schedule_frame prefix loop) (claim (formula_of table e) i s) (node k a n) b → Right b
  at-node {b} k a n p q r t =
      subst (λ y. Tested (schedule_frame prefix loop) (claim (formula_of table e) i s) y b)
      (node-is w k a n p q r) t

  pub node-formless : form_of w ≡ None → Right false
  unfolding form_of
  node-formless p =
      unfit (λ needs r. let numbers = rule-numbers r in
      formed (w / 16777216) (w / 65536 % 256) (w % 65536) numbers.low numbers.high numbers.unnamed
      numbers.plain (subst IsNone (sym p) tt))

  -- the code hands over the letter and the entry that it read
  pub node-atom : (b : Bool) (letter : ℕ) (x : Entry) (k a n : ℕ) → form_of w ≡ Some (Atom k a n)
      → letter ≡ letter_at prefix loop i → x ≡ entry_at table e → b ≡ atom_fits letter x i s k a n → Right b
  node-atom b letter x k a n p l q d =
      let says = word-says w (Some (Atom k a n)) p in
      subst Right (sym (d ∙ (λ j. atom_fits (l j) (q j) i s k a n)))
      (at-node k a n says.0 says.1 says.2
      (judged-atom (schedule_frame prefix loop) table e i s a n k says.3 says.4))

  pub node-plain : (b : Bool) (x : Entry) (k : ℕ) → form_of w ≡ Some (Plain k) → x ≡ entry_at table e
      → b ≡ fits_of k x s → Right b
  node-plain b x k p q d =
      let says = word-says w (Some (Plain k)) p in
      subst Right (sym (d ∙ (λ j. fits_of k (q j) s)))
      (at-node k 0 0 says.0 says.1 says.2
      (judged-plain (schedule_frame prefix loop) table e i s k says.3 says.4))

  pub node-counted : (b : Bool) (x : Entry) (k n : ℕ) → form_of w ≡ Some (Counted k n) → x ≡ entry_at table e
      → b ≡ list_fits (length prefix) (length loop) table x i s k n → Right b
  node-counted b x k n p q d =
      let says = word-says w (Some (Counted k n)) p in
      subst Right (sym (d ∙ (λ j. list_fits (length prefix) (length loop) table (q j) i s k n)))
      (at-node k 0 n says.0 says.1 says.2
      (judged-list (letter_at prefix loop) (length prefix) (length loop) table e i s n (small says) k
      says.3 says.4))
    where
      small : {A B C D : Type 0} → A × B × (w % 65536 ≡ n) × C × D → n < 65536
      small says = omega (arith, says.2)

-- A node that a rule fits asks of its parts what its demands say.
module _ (prefix loop table : List ℕ) (e i : ℕ) (s : Verdict) (x : Node) (needs : List Claim)
    (r : Rule (schedule_frame prefix loop) (claim (formula_of table e) i s) x needs) (low : 3 ≤ x.rule)
    (small : x.number < 65536) where
  abbrev AsksOf : Node → Demands → Type 0
  AsksOf = Asks (schedule_frame prefix loop) table e i s

  at_plain : x.rule ≤ 10 → AsksOf x (plain_demands (entry_at table e) i s x.rule)
  at_plain high =
      subst (λ y. AsksOf y (plain_demands (entry_at table e) i s x.rule))
      (λ j. node x.rule (sym ((rule-numbers r).unnamed low) j) (sym ((rule-numbers r).plain low high) j))
      (asks-plain (schedule_frame prefix loop) table e i s x.rule low high (rule_fits table e i s r))

  at_count : 10 < x.rule
      → AsksOf x
      (count_demands x.rule (left_of (entry_at table e)) (right_of (entry_at table e)) i x.number s)
  at_count past =
      subst (λ y. AsksOf y
      (count_demands x.rule (left_of (entry_at table e)) (right_of (entry_at table e)) i x.number s))
      is
      (asks-count (letter_at prefix loop) (length prefix) (length loop) table e i s x.number small x.rule
      (omega arith) (rule-numbers r).high
      (subst (λ y. Rule (schedule_frame prefix loop) (claim (formula_of table e) i s) y needs) (sym is) r))
    where
      is : node x.rule 0 x.number ≡ x
      is = λ j. node x.rule (sym ((rule-numbers r).unnamed low) j) x.number

  pub rule-asks : AsksOf x (demands_of (entry_at table e) i s x.rule x.number)
  rule-asks =
      by_cases (dec_le x.rule 10)
      (λ le. subst (AsksOf x) (demands-plain (entry_at table e) i s x.rule x.number le) (at_plain le))
      (λ gt. let past : 10 < x.rule = omega arith in
      subst (AsksOf x) (demands-count (entry_at table e) i s x.rule x.number _ _ past refl refl)
      (at_count past))

  -- and nothing of it is out of reach
  pub rule-countable : i < 2 ^ 40 → Countable x.rule i x.number
  rule-countable near = let numbers = rule-numbers r in record {
    high = numbers.high;
    position = near;
    number = small;
    eleven = numbers.count11;
    twelve = λ e. (numbers.count12 e).1;
    fifteen = numbers.count15;
  }
