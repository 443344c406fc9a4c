-- Node lines can be read back: they are the lines of one list of words.
use Prim.Native.Nat.{ℕ, ◌<◌}
use mathlib.Core.Path.{◌≡◌, refl, sym, ap, subst, ◌∙◌}
use mathlib.Core.Logic.{inl}
use mathlib.Core.List.{List, [], ◌∷◌, ◌++◌, append_assoc, append_cancel_left}
use native.Mathlib.Omega.{arith}
use lib.ListN.{length, drop}
use Rattle.trees.proofs.WordOrder.{node-one}
use Rattle.decimals.specs.Decimals.{Decimal}
use Rattle.printing.specs.Fields.{Field, field}
use Rattle.rendering.specs.Texts.{NodeLine, node_line, NodeLines, none, more}
use Rattle.decimals.proofs.Digits.{decimal-number, decimal-digits}
use Rattle.decimals.proofs.Standing.{digits-one}

-- A byte below the digits ends them, so what stands before it is known, and what follows.
field-read : {n m end : ℕ} {bs cs xs ys : List ℕ} → end < 48 → Field n end bs → Field m end cs
    → bs ++ xs ≡ cs ++ ys → (n ≡ m) × (xs ≡ ys)
field-read {n} {end = end} {xs = xs} {ys = ys} low (field {ds} d) (field {ds = es} d') e =
    let split = sym (append_assoc ds (end ∷ []) xs) ∙ e ∙ append_assoc es (end ∷ []) ys in
    let same = digits-one ds es (end ∷ xs) (end ∷ ys) (decimal-digits d) (decimal-digits d') (inl low)
    (inl low) split in (
      decimal-number (subst (λ l. Decimal l n) same d) d',
      ap (drop 1)
          (append_cancel_left ds (end ∷ xs) (end ∷ ys) (split ∙ ap (λ l. l ++ (end ∷ ys)) (sym same))),
    )

node-line-read : {w v : ℕ} {bs cs xs ys : List ℕ} → NodeLine w bs → NodeLine v cs → bs ++ xs ≡ cs ++ ys
    → (w ≡ v) × (xs ≡ ys)
node-line-read {w} {v} {xs = xs} {ys = ys} (node_line {rs} {bs} {ns} r a n)
    (node_line {rs = rs'} {bs = bs'} {ns = ns'} r' a' n') e =
    let rule = field-read (omega arith) r r'
    (sym (append_assoc rs (bs ++ ns) xs) ∙ ap (drop 5) e ∙ append_assoc rs' (bs' ++ ns') ys) in
    let atom = field-read (omega arith) a a'
    (sym (append_assoc bs ns xs) ∙ rule.1 ∙ append_assoc bs' ns' ys) in
    let number = field-read (omega arith) n n' atom.1 in
    (node-one w v (λ i. record { rule = rule.0 i; atom = atom.0 i; number = number.0 i }), number.1)

same-words : {ws vs bs cs : List ℕ} → NodeLines ws bs → NodeLines vs cs → bs ≡ cs → ws ≡ vs
same-words none none e = refl
same-words none (more (node_line r a n) ls) e = absurd (omega (arith, ap length e))
same-words (more (node_line r a n) ls) none e = absurd (omega (arith, ap length e))
same-words (more l ls) (more k ks) e =
    let line = node-line-read l k e in
    let rest = same-words ls ks line.1 in
    λ i. line.0 i ∷ rest i

pub node-lines-read-back : {ws vs bs : List ℕ} → NodeLines ws bs → NodeLines vs bs → ws ≡ vs
node-lines-read-back l k = same-words l k refl
