-- The figure of a verdict, the sign of each rule, and the verdict that a root claims.
use Rattle.std.specs.Prelude.{ℕ, ◌-◌, ◌/◌, cond, List, [], ◌∷◌, eqb, get_or}
use Rattle.trees.specs.declared.Verdict.{Verdict}
use Rattle.trees.specs.declared.Verdict.TheVariants.{Holds, Violated}

-- 1 holds, 2 violated.
abbrev pub sign_of : Verdict → ℕ
sign_of Holds = 1
sign_of Violated = 2

-- The sign of each of the sixteen rules.
abbrev pub signs : List ℕ
signs = 1 ∷ 2 ∷ 1 ∷ 2 ∷ 1 ∷ 1 ∷ 2 ∷ 1 ∷ 2 ∷ 2 ∷ 1 ∷ 2 ∷ 2 ∷ 1 ∷ 2 ∷ 2 ∷ []

abbrev pub rule_sign : ℕ → ℕ
rule_sign r = get_or signs (r - 1) 0

-- The verdict that a rule proves. (A number that is no rule proves nothing;
-- its node is wrong for either verdict.)
unfoldable pub proven_by : ℕ → Verdict
proven_by r = cond (eqb (rule_sign r) 1) Holds Violated

-- The verdict that a root's rule claims.
abbrev pub claimed_by : ℕ → Verdict
claimed_by w = proven_by (w / 16777216)
