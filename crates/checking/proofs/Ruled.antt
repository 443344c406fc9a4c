-- One node of the walk against the table of rules: its test passes exactly if a row fits, and the parts that
-- are followed then are those that the row needs.
use Prim.Native.Nat.{ℕ, ◌≤◌}
use mathlib.Core.Path.{◌≡◌, refl}
use mathlib.Core.Bool.{Bool, true, false≢true}
use mathlib.Core.Logic.{◌↔◌}
use mathlib.Core.List.{List, []}
use native.Mathlib.Omega.{arith}
use Rattle.rules.specs.Tables.{entry_at, formula_of}
use Rattle.trees.specs.Nodes.{node_of}
use Rattle.trees.specs.Rules.{Claim, claim, Rule}
use Rattle.trees.specs.Frames.{schedule_frame}
use Rattle.trees.specs.declared.Verdict.{Verdict}
use Rattle.trees.proofs.Needs.{needs-one}
use Rattle.trees.proofs.Shapes.{leaf-needs}
use Rattle.nodes.specs.inside.Demands.{demands_of, claims_of}
use Rattle.nodes.specs.inside.Tested.{Tested, fits, unfit}
use Rattle.nodes.proofs.JudgedNodes.{rule-asks}

module _ (prefix loop table : List ℕ) (e i : ℕ) (s : Verdict) (w : ℕ) where
  -- A row of the table makes the word prove that the entry has the verdict at the position, from such claims.
  abbrev pub RowFits : List Claim → Type 0
  RowFits = Rule (schedule_frame prefix loop) (claim (formula_of table e) i s) (node_of w)

  pub record Ruled (passes : Bool) : Type 0 where
    pub exactly : (passes ≡ true) ↔ ((needs : List Claim) × RowFits needs)
    -- rules 1 and 2 need no parts, and none are followed
    pub leaf : (needs : List Claim) → RowFits needs → (node_of w).rule ≤ 2 → needs ≡ []
    -- the others need just what is followed
    pub parts : (needs : List Claim) → RowFits needs → 3 ≤ (node_of w).rule
        → needs ≡ claims_of table (demands_of (entry_at table e) i s (node_of w).rule (node_of w).number)

  tested-exactly : (b : Bool)
      → Tested (schedule_frame prefix loop) (claim (formula_of table e) i s) (node_of w) b
      → (b ≡ true) ↔ ((needs : List Claim) × RowFits needs)
  tested-exactly b (fits {needs} r) = (λ _. (needs, r), λ _. refl)
  tested-exactly b (unfit n) = (λ e. absurd (false≢true e), λ x. absurd (n x.0 x.1))

  pub node-ruled : (b : Bool)
      → Tested (schedule_frame prefix loop) (claim (formula_of table e) i s) (node_of w) b → Ruled b
  node-ruled b t = record {
    exactly = tested-exactly b t;
    leaf = λ needs r low. leaf-needs r (omega (arith, low));
    parts = λ needs r low.
        needs-one r (rule-asks prefix loop table e i s (node_of w) needs r low (omega arith)).rule;
  }
