-- What it is for a word, and for a statement about positions, to come again lap after lap.
use Rattle.std.specs.Prelude.{ℕ, ◌+◌, ◌<◌, ◌≤◌, ◌≡◌}

-- From position u on the word has, a lap of v positions later, the same letter again.
pub record Repeats (word : ℕ → ℕ) (u v : ℕ) : Type 0 where
  pub some : 0 < v
  pub again : (k : ℕ) → u ≤ k → word (k + v) ≡ word k

-- From position t on the statement P is true at k exactly if it is true a lap later.
pub record Recurs (P : ℕ → Type 0) (t v : ℕ) : Type 0 where
  pub forth : (k : ℕ) → t ≤ k → P k → P (k + v)
  pub back : (k : ℕ) → t ≤ k → P (k + v) → P k
