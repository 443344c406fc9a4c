-- The scan along a list: what is known with the witness n steps off,
-- and the laws of a turn and of the two returns.
use mathlib.Core.Path.{◌≡◌, refl, sym, ap, subst, ◌∙◌}
use mathlib.Core.Bool.{Bool, true, false, true≢false}
use mathlib.Core.List.{List}
use mathlib.Core.Logic.{by_cases}
use Prim.Native.Nat.{ℕ, suc, ◌+◌, ◌*◌, ◌<◌, ◌≤◌}
use native.Mathlib.Decide.{dec_lt}
use native.Mathlib.Numerals.{add-one}
use native.Mathlib.Omega.{arith}
use Rattle.theory.specs.inside.RunCosts.{sum_run}
use Rattle.theory.proofs.CostsRuns.{run-grown}
use Rattle.rows.specs.inside.Rows.{row_of, row_length}
use Rattle.scans.specs.inside.Scans.{price_in, step_from, members_of, listed_of, prices_from, list_cost}
use Rattle.scans.specs.inside.Scans.{Missed, Reached, Scanned}

-- No witness nearer meets the price, and the sum is that of the root and the members before n.
pub record Scanning (witness member : ℕ → ℕ) (held ahead : Bool) (i price n sum : ℕ) : Type 0 where
  pub reached : Reached witness member held ahead i price
  pub within : n ≤ reached.far
  pub missed : (k : ℕ) → k < n → Missed witness member held price k
  pub sums : sum ≡ 1 + sum_run member 0 n
  pub bound : sum ≤ 1 + 65535 * n

-- the price that a row has n steps from the position, at its place
pub price-at : (work : List ℕ) (row : ℕ) (held ahead : Bool) (i n : ℕ) {place x : ℕ}
    → place ≡ step_from ahead i n → x ≡ price_in held (row_of work row place)
    → x ≡ prices_from (row_of work row) held ahead i n
price-at work row held ahead i n at e = e ∙ ap (λ p. price_in held (row_of work row p)) at

listed-bound : (held : Bool) (sum next : ℕ) → listed_of held sum next ≤ sum + next
unfolding listed_of
listed-bound true sum next = omega arith
listed-bound false sum next = omega arith

-- the sum with a member more
sum-grown : (member : ℕ → ℕ) (n : ℕ) → sum_run member 0 (suc n) ≡ sum_run member 0 n + member n
sum-grown member n =
    let at : member (0 + n) ≡ member n = ap member (omega arith) in omega (arith, run-grown member 0 n, at)

list-cost : (member : ℕ → ℕ) (held : Bool) (n sum next : ℕ) → sum ≡ 1 + sum_run member 0 n → next ≡ member n
    → listed_of held sum next ≡ list_cost member held n
unfolding listed_of members_of
list-cost member true n sum next s e = s
list-cost member false n sum next s e = omega (arith, sum-grown member n, s, e)

-- a scan whose positions lie in a row is no longer than the row
row-ends : (ahead : Bool) (i far : ℕ) {n : ℕ} → n ≤ far → (ahead ≡ false → far ≤ i)
    → ((k : ℕ) → k ≤ far → step_from ahead i k < row_length) → n < row_length
unfolding step_from
row-ends true i far le back column = omega (arith, le, column far (omega arith))
row-ends false i far le back column = omega (arith, le, back refl, column 0 (omega arith))

module _ {witness member : ℕ → ℕ} {held ahead : Bool} {i price : ℕ} where
  pub scan-none : Reached witness member held ahead i price → Scanning witness member held ahead i price 0 1
  scan-none r = record {
    reached = r;
    within = omega arith;
    missed = λ k lt. absurd (omega arith);
    sums = refl;
    bound = omega arith;
  }

  module _ {n sum : ℕ} (s : Scanning witness member held ahead i price n sum) where
    pub scan-near : i + n < 1024
    scan-near = omega (arith, s.within, s.reached.inside)

    pub scan-back : ahead ≡ false → n ≤ i
    scan-back b = omega (arith, s.within, s.reached.back b)

    pub scan-column : {place : ℕ} → place ≡ step_from ahead i n → place < row_length
    scan-column at = omega (arith, at, s.reached.column n s.within)

    -- the scan has not passed the row's end
    pub scan-ends : n < row_length
    scan-ends = row-ends ahead i s.reached.far s.within s.reached.back s.reached.column

    pub scan-small : {next : ℕ} → next ≤ 65535 → sum + next ≤ 67107841
    scan-small le = omega (arith, s.bound, scan-near)

    pub scan-listed : {next list : ℕ} → next ≤ 65535 → list ≡ listed_of held sum next → list ≤ 67107841
    scan-listed {next} le l = omega (arith, l, listed-bound held sum next, scan-small le)

    module _ {next list : ℕ} (e : next ≡ member n) (l : list ≡ listed_of held sum next) where
      costs : list ≡ list_cost member held n
      costs = l ∙ list-cost member held n sum next s.sums e

      pub scan-with : {count first : ℕ} → first ≡ witness n → list + first ≡ price → count ≡ members_of held n
          → Scanned witness member held price (record { count = count; alone = false })
      scan-with f met c = record {
        far = n;
        count = c;
        missed = s.missed;
        with_first = λ _. omega (arith, costs, f, met);
        without = λ t. absurd (true≢false (sym t));
      }

      pub scan-alone : {count : ℕ} → list ≡ price → count ≡ members_of held n
          → Scanned witness member held price (record { count = count; alone = true })
      scan-alone met c = record {
        far = n;
        count = c;
        missed = s.missed;
        with_first = λ t. absurd (true≢false t);
        without = λ _. sym costs ∙ met;
      }

      pub scan-turn : {first : ℕ} → first ≡ witness n → next ≤ 65535 → ¬ (list + first ≡ price)
          → ¬ (list ≡ price) → Scanning witness member held ahead i price (n + 1) (sum + next)
      scan-turn f le some none =
          let miss : Missed witness member held price n = record {
            with_first = λ met. some (omega (arith, costs, f, met));
            without = λ met. none (costs ∙ met);
          } in
          record {
            reached = s.reached;
            within = by_cases (dec_lt n s.reached.far) (λ lt. omega arith)
                (λ ge. absurd (s.reached.meets
                (subst (Missed witness member held price) (omega (arith, s.within)) miss)));
            missed = λ k lt. by_cases (dec_lt k n) (s.missed k)
                (λ ge. subst (Missed witness member held price) (omega arith) miss);
            sums = omega (arith, sum-grown member n, s.sums, e, ap (sum_run member 0) (add-one n));
            bound = omega (arith, s.bound);
          }
