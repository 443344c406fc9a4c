-- Nodes come in the order of their words as numbers, and words are known by their nodes.
use Prim.Native.Nat.{ℕ, ◌+◌, ◌*◌, ◌/◌, ◌%◌, ◌<◌}
use mathlib.Core.Path.{◌≡◌, refl, sym, ap, ◌∙◌}
use mathlib.Core.List.{List, [], ◌∷◌, map}
use mathlib.Core.Logic.{◌↔◌}
use native.Mathlib.Omega.{arith}
use Rattle.trees.specs.Nodes.{node_of}
use Rattle.trees.specs.declared.Node.{Node}
use Rattle.trees.specs.Least.{NodeBefore, by_rule, by_atom, by_number}
use Rattle.trees.proofs.Order.{by_order}

-- The word of a node's three fields.
abbrev word_for : Node → ℕ
word_for x = x.rule * 16777216 + x.atom * 65536 + x.number

word_back : (w : ℕ) → word_for (node_of w) ≡ w
word_back w = omega arith

pub node-one : (w v : ℕ) → node_of w ≡ node_of v → w ≡ v
node-one w v e = sym (word_back w) ∙ ap word_for e ∙ word_back v

words_back : (words : List ℕ) → map word_for (map node_of words) ≡ words
words_back [] = refl
words_back (w ∷ words) = λ k. word_back w k ∷ words_back words k

pub words-one : (words others : List ℕ) → map node_of words ≡ map node_of others → words ≡ others
words-one words others e = sym (words_back words) ∙ ap (map word_for) e ∙ words_back others

same-not-less : {a b : ℕ} → a ≡ b → ¬ (a < b)
same-not-less e h = omega (arith, e, h)

module _ (w v : ℕ) where
  before-less : NodeBefore (node_of w) (node_of v) → w < v
  before-less (by_rule h) = omega (arith, h)
  before-less (by_atom e h) = omega (arith, e, h)
  before-less (by_number e d h) = omega (arith, e, d, h)

  -- words that agree in all three fields are one word
  no_less : w < v → w / 16777216 ≡ v / 16777216 → w / 65536 % 256 ≡ v / 65536 % 256 → w % 65536 ≡ v % 65536
      → ⊥
  no_less lt r a n =
      let same = node-one w v (λ i. record { rule = r i; atom = a i; number = n i }) in same-not-less same lt

  less-before : w < v → NodeBefore (node_of w) (node_of v)
  less-before lt =
      by_order (w / 16777216) (v / 16777216) (λ h. by_rule h)
      (λ r. by_order (w / 65536 % 256) (v / 65536 % 256) (λ h. by_atom r h)
      (λ a. by_order (w % 65536) (v % 65536) (λ h. by_number r a h) (λ n. absurd (no_less lt r a n))
      (λ h. absurd (omega (arith, r, a, h, lt))))
      (λ h. absurd (omega (arith, r, h, lt))))
      (λ h. absurd (omega (arith, h, lt)))

  -- The smaller word.
  pub word-order : NodeBefore (node_of w) (node_of v) ↔ (w < v)
  word-order = (before-less, less-before)
