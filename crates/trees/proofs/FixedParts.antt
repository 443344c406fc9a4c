-- How many parts a rule needs: its fixed ones, as the table has them, and for 11 to 16 as many members more
-- as the number says.
use Prim.Native.Nat.{◌+◌, ◌-◌, ◌≤◌}
use mathlib.Core.Path.{◌≡◌, refl}
use mathlib.Core.List.{List}
use native.Mathlib.Omega.{arith}
use lib.ListN.{length}
use Rattle.trees.specs.declared.Node.{Node}
use Rattle.trees.specs.Rules.{Frame, Claim, Rule, rule1, rule2, rule3, rule4, rule5, rule6, rule7}
use Rattle.trees.specs.Rules.{rule8, rule9, rule10, rule11, rule12, rule13, rule14, rule15, rule16}
use Rattle.trees.specs.inside.Table.{rule_fixed}
use Rattle.trees.specs.declared.Verdict.TheVariants.{Holds, Violated}
use Rattle.trees.proofs.Claims.{run_length}

pub rule-fixed : {frame : Frame} {c : Claim} {x : Node} {needs : List Claim} → Rule frame c x needs
    → (x.rule ≤ 10 → length needs ≡ rule_fixed x.rule)
    × (11 ≤ x.rule → length needs ≡ rule_fixed x.rule + x.number)
rule-fixed (rule1 h) = (λ _. refl, λ high. absurd (omega arith))
rule-fixed (rule2 h) = (λ _. refl, λ high. absurd (omega arith))
rule-fixed rule3 = (λ _. refl, λ high. absurd (omega arith))
rule-fixed rule4 = (λ _. refl, λ high. absurd (omega arith))
rule-fixed rule5 = (λ _. refl, λ high. absurd (omega arith))
rule-fixed rule6 = (λ _. refl, λ high. absurd (omega arith))
rule-fixed rule7 = (λ _. refl, λ high. absurd (omega arith))
rule-fixed rule8 = (λ _. refl, λ high. absurd (omega arith))
rule-fixed rule9 = (λ _. refl, λ high. absurd (omega arith))
rule-fixed rule10 = (λ _. refl, λ high. absurd (omega arith))
rule-fixed (rule11 {f} {i = i} {n} le) =
    (λ low. absurd (omega arith), λ _. omega (arith, run_length f (i - n + 1) n Holds))
rule-fixed (rule12 {g = g} {i} {n} some le) =
    (λ low. absurd (omega arith), λ _. omega (arith, run_length g (i + 1 - n) n Violated))
rule-fixed (rule13 {g = g} {n = n} e) =
    (λ low. absurd (omega arith), λ _. omega (arith, run_length g 0 n Violated))
rule-fixed (rule14 {f} {i = i} {n}) =
    (λ low. absurd (omega arith), λ _. omega (arith, run_length f i n Holds))
rule-fixed (rule15 {g = g} {i} {n} some) =
    (λ low. absurd (omega arith), λ _. omega (arith, run_length g i n Violated))
rule-fixed (rule16 {g = g} {i} {n} e) =
    (λ low. absurd (omega arith), λ _. omega (arith, run_length g i n Violated))
