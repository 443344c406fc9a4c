-- The claims of a node's parts: their number, the one at a place, and that they are within
-- the limits that the node is in.
use mathlib.Core.Path.{◌≡◌, ap, subst, ◌∙◌}
use mathlib.Core.Logic.{by_cases}
use mathlib.Core.List.{List}
use Prim.Native.Nat.{ℕ, ◌+◌, ◌-◌, ◌<◌, ◌≤◌}
use native.Mathlib.Decide.{dec_lt}
use native.Mathlib.Omega.{arith}
use lib.ListN.{length, get_or, length-append, get_or-append}
use lib.Seq.{get_or-append-add}
use Rattle.rules.specs.Tables.{formula_of}
use Rattle.trees.specs.Rules.{Claim, claim, run}
use Rattle.nodes.specs.inside.Demands.{claims_of, part_of, Earlier}
use Rattle.nodes.specs.inside.Tested.{Within}
use Rattle.nodes.specs.declared.Demands.{Demands}
use Rattle.nodes.proofs.Plans.{part-first, part-member}
use Rattle.trees.proofs.Claims.{run_length, run_at}

module _ (table : List ℕ) (d : Demands) where
  abbrev firsts : List Claim
  firsts = run (formula_of table d.first.entry) d.first.position d.fixed d.verdict

  abbrev members : List Claim
  members = run (formula_of table d.member) d.from d.count d.verdict

  pub claims-length : length (claims_of table d) ≡ d.fixed + d.count
  claims-length =
      length-append firsts members
      ∙ (λ i. run_length (formula_of table d.first.entry) d.first.position d.fixed d.verdict i
      + run_length (formula_of table d.member) d.from d.count d.verdict i)

  pub claims-at : (m : ℕ) (z : Claim) → d.fixed ≤ 1 → m < d.fixed + d.count
      → get_or (claims_of table d) m z
      ≡ claim (formula_of table (part_of d m).entry) (part_of d m).position d.verdict
  claims-at m z one lt =
      by_cases (dec_lt m d.fixed)
      (λ before. get_or-append firsts members z m (rw run_length before)
      ∙ run_at (formula_of table d.first.entry) d.first.position d.fixed d.verdict m z before
      ∙ ap (λ p. claim (formula_of table d.first.entry) p d.verdict) (omega arith)
      ∙ ap (λ p. claim (formula_of table p.entry) p.position d.verdict) (part-first d m before))
      (λ after. let long = run_length (formula_of table d.first.entry) d.first.position d.fixed d.verdict in
      let there : m ≡ length firsts + (m - d.fixed) = omega (arith, long) in
      ap (λ k. get_or (claims_of table d) k z) there ∙ get_or-append-add firsts members (m - d.fixed) z
      ∙ run_at (formula_of table d.member) d.from d.count d.verdict (m - d.fixed) z (omega arith)
      ∙ ap (λ p. claim (formula_of table p.entry) p.position d.verdict)
      (part-member d m (omega arith)))

-- The parts of a node are within the limits that it is in.
pub part-within : (u v e i : ℕ) (d : Demands) (m : ℕ) → Within u v e i → Earlier e i d
    → m < d.fixed + d.count
    → ((part_of d m).entry < e) × Within u v (part_of d m).entry (part_of d m).position
part-within u v e i d m w near lt =
    by_cases (dec_lt m d.fixed)
    (λ before. by_part (part-first d m before) (near.first (omega arith)) near.place)
    (λ after. by_part (part-member d m (omega arith)) (near.member (omega arith))
    (omega (arith, near.last)))
  where
    by_part : {a p : ℕ} → record { entry = a; position = p } ≡ part_of d m → a < e → p ≤ i + 65535
        → ((part_of d m).entry < e) × Within u v (part_of d m).entry (part_of d m).position
    by_part q lower close =
        subst (λ x. (x.entry < e) × Within u v x.entry x.position) q (
          lower,
          record {
            prefix = w.prefix;
            loop = w.loop;
            entry = omega (arith, w.entry);
            reach = omega (arith, w.reach);
          },
        )
