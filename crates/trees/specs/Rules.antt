-- The sixteen rules: which node proves which claim, and the claims that its
-- parts have to prove, in tree order.
use Rattle.std.specs.Prelude.{ℕ, zero, suc, ◌+◌, ◌-◌, ◌≤◌, ◌≡◌, List, [], ◌∷◌}
use Rattle.rules.specs.Formula.{Formula, atom, notᶠ, orᶠ, andᶠ, since, until, height}
use Rattle.rules.specs.Meaning.{HasAtom}
use Rattle.rules.specs.declared.Side.TheVariants.{Past}
use Rattle.trees.specs.Nodes.{node}
use Rattle.trees.specs.declared.Node.{Node}
use Rattle.trees.specs.declared.Verdict.{Verdict}
use Rattle.trees.specs.declared.Verdict.TheVariants.{Holds, Violated}

-- What the rules ask of a schedule: the letter at a position, and the count of rule 16 by its position and
-- the past height of its right side.
pub record Frame : Type 0 where
  pub letter : ℕ → ℕ
  pub count : ℕ → ℕ → ℕ

-- A formula has a verdict at a position. Positions are plain numbers and never wrap.
pub record Claim : Type 0 where
  pub formula : Formula
  pub position : ℕ
  pub verdict : Verdict

abbrev pub claim : Formula → ℕ → Verdict → Claim
claim f i v = record { formula = f; position = i; verdict = v }

-- The same verdict at n positions, from one on and rising.
abbrev pub run : Formula → ℕ → ℕ → Verdict → List Claim
run f from zero v = []
run f from (suc n) v = claim f from v ∷ run f (suc from) n v

-- Rows of the table. For rules 1 and 2 the number is the position;
-- for 11 to 16 it is the count n; everything else is 0.
pub data Rule (frame : Frame) : Claim → Node → List Claim → Type 0 where
  rule1 : {a i : ℕ} → HasAtom (frame.letter i) a → Rule frame (claim (atom a) i Holds) (node 1 a i) []
  rule2 : {a i : ℕ} → ¬ HasAtom (frame.letter i) a → Rule frame (claim (atom a) i Violated) (node 2 a i) []
  rule3 : {f : Formula} {i : ℕ} → Rule frame (claim (notᶠ f) i Holds) (node 3 0 0) (claim f i Violated ∷ [])
  rule4 : {f : Formula} {i : ℕ} → Rule frame (claim (notᶠ f) i Violated) (node 4 0 0) (claim f i Holds ∷ [])
  rule5 : {f g : Formula} {i : ℕ} → Rule frame (claim (orᶠ f g) i Holds) (node 5 0 0) (claim f i Holds ∷ [])
  rule6 : {f g : Formula} {i : ℕ} → Rule frame (claim (orᶠ f g) i Holds) (node 6 0 0) (claim g i Holds ∷ [])
  rule7 : {f g : Formula} {i : ℕ}
      → Rule frame (claim (orᶠ f g) i Violated) (node 7 0 0) (claim f i Violated ∷ claim g i Violated ∷ [])
  rule8 : {f g : Formula} {i : ℕ}
      → Rule frame (claim (andᶠ f g) i Holds) (node 8 0 0) (claim f i Holds ∷ claim g i Holds ∷ [])
  rule9 : {f g : Formula} {i : ℕ}
      → Rule frame (claim (andᶠ f g) i Violated) (node 9 0 0) (claim f i Violated ∷ [])
  rule10 : {f g : Formula} {i : ℕ}
      → Rule frame (claim (andᶠ f g) i Violated) (node 10 0 0) (claim g i Violated ∷ [])
  -- right holds at i - n; left holds at i - n + 1 to i
  rule11 : {f g : Formula} {i n : ℕ} → n ≤ i
      → Rule frame (claim (since f g) i Holds) (node 11 0 n)
      (claim g (i - n) Holds ∷ run f (i - n + 1) n Holds)
  -- left violated at i - n + 1; right violated at i - n + 1 to i
  rule12 : {f g : Formula} {i n : ℕ} → 1 ≤ n → n ≤ i + 1
      → Rule frame (claim (since f g) i Violated) (node 12 0 n)
      (claim f (i + 1 - n) Violated ∷ run g (i + 1 - n) n Violated)
  -- right violated at 0 to i
  rule13 : {f g : Formula} {i n : ℕ} → n ≡ i + 1
      → Rule frame (claim (since f g) i Violated) (node 13 0 n) (run g 0 n Violated)
  -- right holds at i + n; left holds at i to i + n - 1
  rule14 : {f g : Formula} {i n : ℕ}
      → Rule frame (claim (until f g) i Holds) (node 14 0 n) (claim g (i + n) Holds ∷ run f i n Holds)
  -- left violated at i + n - 1; right violated at i to i + n - 1
  rule15 : {f g : Formula} {i n : ℕ} → 1 ≤ n
      → Rule frame (claim (until f g) i Violated) (node 15 0 n)
      (claim f (i + n - 1) Violated ∷ run g i n Violated)
  -- right violated all through the window
  rule16 : {f g : Formula} {i n : ℕ} → n ≡ frame.count i (height Past g)
      → Rule frame (claim (until f g) i Violated) (node 16 0 n) (run g i n Violated)
