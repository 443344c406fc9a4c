-- The lines of a text placed part by part, and how long they get.
use Prim.Native.Nat.{ℕ, ◌+◌, ◌*◌, ◌<◌, ◌≤◌}
use mathlib.Core.Path.{◌≡◌, refl, sym, ap, subst, ◌∙◌}
use mathlib.Core.List.{List, [], ◌∷◌, ◌++◌, append_assoc, append-nil}
use native.Mathlib.Numerals.{add-one}
use native.Mathlib.Omega.{arith}
use lib.ListN.{length, take, get_or}
use lib.Seq.{take-suc}
use Rattle.trees.specs.Nodes.{node_of}
use Rattle.decimals.specs.Decimals.{comma, newline}
use Rattle.rendering.specs.Texts.{node_is, verdict_is, holds_text, violated_text, NodeLine, node_line}
use Rattle.rendering.specs.Texts.{NodeLines, none, more, VerdictLine, holds, violated}
use Rattle.printing.specs.Fields.{Field}
use Rattle.printing.specs.inside.Puts.{Puts}
use Rattle.printing.specs.declared.Writer.{Writer}
use Rattle.printing.proofs.Placing.{puts-none, puts-as, puts-then, puts-length, text-ends}
use Rattle.printing.proofs.Fields.{Then, then, field-most}

node-line-is : (w : ℕ) (xs ys : List ℕ) → xs ≡ node_is
    → Then (Field (node_of w).rule comma)
    (Then (Field (node_of w).atom comma) (Field (node_of w).number newline)) ys
    → NodeLine w (xs ++ ys)
node-line-is w xs _ e (then {xs = rs} r (then {xs = bs} {ys = ns} a n)) =
    subst (λ l. NodeLine w (l ++ (rs ++ (bs ++ ns)))) (sym e) (node_line r a n)

module _ {start label : Writer} (room : start.at + 24 ≤ length start.bytes.now)
    (named : Puts (λ bs. bs ≡ node_is) start label) where
  -- Room for any number of 32 bits at each of the three places.
  pub rule-room : label.at + 11 ≤ length label.bytes.now
  rule-room = omega (arith, room, text-ends named, puts-length named)

  module _ (w : ℕ) (small : w < 4294967296) {rule : Writer}
      (first : Puts (Field (node_of w).rule comma) label rule) where
    behind-rule : rule.at ≤ start.at + 9
    behind-rule = omega (arith, text-ends named, field-most 2 first (omega (arith, small)))

    pub atom-room : rule.at + 11 ≤ length rule.bytes.now
    atom-room = omega (arith, room, behind-rule, puts-length named, puts-length first)

    module _ {atom : Writer} (second : Puts (Field (node_of w).atom comma) rule atom) where
      behind-atom : atom.at ≤ start.at + 13
      behind-atom = omega (arith, behind-rule, field-most 2 second (omega arith))

      pub number-room : atom.at + 11 ≤ length atom.bytes.now
      number-room =
          omega (arith, room, behind-atom, puts-length named, puts-length first, puts-length second)

      module _ {number : Writer} (third : Puts (Field (node_of w).number newline) atom number) where
        pub node-line-put : Puts (NodeLine w) start number
        node-line-put =
            puts-then (node-line-is w) named
            (puts-then (λ xs ys p q. then p q) first (puts-then (λ xs ys p q. then p q) second third))

        -- "node=", at most three digits, three and five, and a byte behind each number
        pub node-line-most : number.at ≤ start.at + 19
        node-line-most = omega (arith, behind-atom, field-most 4 third (omega arith))

module _ {start label after : Writer} (named : Puts (λ bs. bs ≡ verdict_is) start label) where
  pub holds-put : Puts (λ bs. bs ≡ holds_text ++ (newline ∷ [])) label after
      → Puts (VerdictLine 1) start after
  holds-put = puts-then (λ xs ys e d. subst (VerdictLine 1) (λ i. sym e i ++ sym d i) (holds refl)) named

  pub violated-put : Puts (λ bs. bs ≡ violated_text ++ (newline ∷ [])) label after
      → Puts (VerdictLine 2) start after
  violated-put =
      puts-then (λ xs ys e d. subst (VerdictLine 2) (λ i. sym e i ++ sym d i) (violated refl)) named

lines_more : {ws ls : List ℕ} {w : ℕ} {line : List ℕ} → NodeLines ws ls → NodeLine w line
    → NodeLines (ws ++ (w ∷ [])) (ls ++ line)
lines_more {line = line} none l = subst (NodeLines _) (append-nil line) (more l none)
lines_more {line = line} (more {ws = ws} {line = x} {lines = ls} k ks) l =
    subst (NodeLines _) (sym (append_assoc x ls line)) (more k (lines_more ks l))

-- The lines of the first words.
pub record Lined (tree : List ℕ) (k : ℕ) (start output : Writer) : Type 0 where
  pub lines : Puts (NodeLines (take k tree)) start output
  pub near : output.at ≤ start.at + k * 19

pub lined-none : (tree : List ℕ) (start : Writer) → start.at ≤ length start.bytes.now
    → Lined tree 0 start start
lined-none tree start room =
    record {
      lines = puts-as (λ bs e. subst (NodeLines []) (sym e) none) (puts-none start room);
      near = omega arith;
    }

module _ {tree : List ℕ} {k : ℕ} {start output : Writer} (lined : Lined tree k start output)
    (lt : k < length tree) where
  pub lined-room : start.at + length tree * 19 + 5 ≤ length start.bytes.now
      → output.at + 24 ≤ length output.bytes.now
  lined-room room = omega (arith, room, lt, lined.near, puts-length lined.lines)

  pub lined-more : {after : Writer} → Puts (NodeLine (get_or tree k 0)) output after
      → after.at ≤ output.at + 19 → Lined tree (k + 1) start after
  lined-more line few =
      let words : take k tree ++ (get_or tree k 0 ∷ []) ≡ take (k + 1) tree
      = sym (take-suc tree k 0 lt) ∙ ap (λ j. take j tree) (sym (add-one k)) in
      record {
        lines = puts-then (λ xs ys p q. subst (λ ws. NodeLines ws (xs ++ ys)) words (lines_more p q))
            lined.lines line;
        near = omega (arith, few, lined.near);
      }
