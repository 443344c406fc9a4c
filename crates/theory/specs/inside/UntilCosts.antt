-- What trees of an until cost whose witness lies before a position.
use Rattle.std.specs.Prelude.{ℕ, ◌+◌, ◌<◌, ◌≡◌, ◌∷◌}
use Rattle.rules.specs.Formula.{Formula}
use Rattle.trees.specs.Rules.{Frame, claim, run}
use Rattle.trees.specs.Least.{Cost}
use Rattle.trees.specs.declared.Verdict.{Verdict}
use Rattle.trees.specs.declared.Verdict.TheVariants.{Holds, Violated}
use Rattle.theory.specs.inside.Costs.{ForestCosts}

-- A root of a rule costs n with its parts: h at the witness, before top, and g from i on,
-- at m positions more than lie before the witness.
pub record WitnessBefore (cost : Cost) (frame : Frame) (rule m : ℕ) (h g : Formula) (s : Verdict)
    (top i n : ℕ) : Type 0 where
  pub far : ℕ
  pub near : i + far < top
  pub from : ℕ
  pub below : ForestCosts cost frame (claim h (i + far) s ∷ run g i (m + far) s) from
  pub adds : cost.weigh rule 0 + from ≡ n

-- Rule 14: right holds at the witness, left holds at each position before it.
abbrev pub HoldsBefore : Cost → Frame → Formula → Formula → ℕ → ℕ → ℕ → Type 0
HoldsBefore cost frame f g top i n = WitnessBefore cost frame 14 0 g f Holds top i n

-- Rule 15: left violated at the witness, right violated there and at each position before it.
abbrev pub CutBefore : Cost → Frame → Formula → Formula → ℕ → ℕ → ℕ → Type 0
CutBefore cost frame f g top i n = WitnessBefore cost frame 15 1 f g Violated top i n
