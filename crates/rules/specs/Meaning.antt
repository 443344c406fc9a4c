-- The meaning of a formula at a position of an endless word: any letter at each position from 0 on.
use Rattle.std.specs.Prelude.{ℕ, ◌/◌, ◌%◌, ◌^◌, ◌<◌, ◌≤◌, ◌≡◌, ◌⊎◌}
use Rattle.rules.specs.Formula.{Formula, atom, notᶠ, orᶠ, andᶠ, since, until}

-- Atom a holds in a letter if bit a of it is set.
abbrev pub HasAtom : ℕ → ℕ → Type 0
HasAtom letter a = letter / 2 ^ a % 2 ≡ 1

-- (a since b) holds at i if b holds at some place ≤ i, and a at every k with place < k ≤ i.
pub record SinceMeant (A B : ℕ → Type 0) (i : ℕ) : Type 0 where
  pub place : ℕ
  pub order : place ≤ i
  pub there : B place
  pub between : (k : ℕ) → place < k → k ≤ i → A k

-- (a until b) holds at i if b holds at some place ≥ i, and a at every k with i ≤ k <
-- place. The place may lie anywhere.
pub record UntilMeant (A B : ℕ → Type 0) (i : ℕ) : Type 0 where
  pub place : ℕ
  pub order : i ≤ place
  pub there : B place
  pub between : (k : ℕ) → i ≤ k → k < place → A k

abbrev pub Meant : (ℕ → ℕ) → Formula → ℕ → Type 0
Meant word (atom a) i = HasAtom (word i) a
Meant word (notᶠ f) i = ¬ (Meant word f i)
Meant word (orᶠ f g) i = Meant word f i ⊎ Meant word g i
Meant word (andᶠ f g) i = Meant word f i × Meant word g i
Meant word (since f g) i = SinceMeant (Meant word f) (Meant word g) i
Meant word (until f g) i = UntilMeant (Meant word f) (Meant word g) i
