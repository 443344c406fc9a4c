-- What a formula is at every position of its window, holding or violated,
-- it is at every position from the window's beginning on.
use Prim.Native.Nat.{ℕ, zero, suc, ◌+◌, ◌-◌, ◌<◌, ◌≤◌}
use mathlib.Core.Logic.{by_cases}
use native.Mathlib.Decide.{dec_lt}
use native.Mathlib.Omega.{arith}
use Rattle.rules.specs.Formula.{Formula}
use Rattle.rules.specs.Meaning.{Meant}
use Rattle.theory.specs.inside.Words.{Repeats, Recurs}
use Rattle.theory.specs.inside.Threshold.{window_end}
use Rattle.theory.proofs.Recurs.{recurs-up, not-recurs}
use Rattle.theory.proofs.Periodic.{holds-recurs}

-- over any statement that recurs from t on, and any end a whole lap past both i and t
module _ {P : ℕ → Type 0} {t v : ℕ} (p : Recurs P t v) (some : 0 < v) (i end : ℕ) (far : i + v ≤ end)
    (late : t + v ≤ end) (window : (k : ℕ) → i ≤ k → k < end → P k) where
  -- by laps down to the window; the bound n falls with them
  below : (n k : ℕ) → k < n → i ≤ k → P k
  below zero k lt ge = absurd (omega arith)
  below (suc n) k lt ge = by_cases (dec_lt k end)
      (λ in-it. window k ge in-it)
      (λ past. recurs-up p k (omega arith) (below n (k - v) (omega arith) (omega arith)))

  pub window-ever : (k : ℕ) → i ≤ k → P k
  window-ever k ge = below (suc k) k (omega arith) ge

module _ {word : ℕ → ℕ} {u v : ℕ} (w : Repeats word u v) (g : Formula) (i : ℕ) where
  pub violated-ever : ((k : ℕ) → i ≤ k → k < window_end u v g i → ¬ Meant word g k) → (k : ℕ) → i ≤ k
      → ¬ Meant word g k
  violated-ever =
      window-ever (not-recurs (holds-recurs w g)) w.some i (window_end u v g i) (omega arith) (omega arith)
