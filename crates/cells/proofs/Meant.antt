-- From numbers to formulas: if the cells of the parts say what they mean,
-- so do the cells that the recurrences make of them.
use Prim.Native.Nat.{ℕ, zero, suc, ◌+◌, ◌-◌, ◌<◌, ◌≤◌, min}
use mathlib.Core.Path.{◌≡◌, refl, sym, ◌∙◌, ap, subst}
use mathlib.Core.Logic.{◌↔◌, ◌⊎◌, inl, ⊎_elim}
use mathlib.Core.Bool.{Bool, true, false, cond, false≢true}
use native.Mathlib.Omega.{arith}
use borrow.Author.Tests.{le-leb, lt-leb, leb-true, leb-false}
use Rattle.rules.specs.Formula.{Formula, since, until, height}
use Rattle.rules.specs.Meaning.{Meant, SinceMeant}
use Rattle.rules.proofs.Neighbours.{since-first, since-unrolled, until-unrolled}
use Rattle.rules.specs.declared.Side.TheVariants.{Past}
use Rattle.trees.specs.Rules.{Frame, claim, run}
use Rattle.trees.specs.Frames.{window_count}
use Rattle.trees.specs.Least.{Cost}
use Rattle.trees.specs.declared.Verdict.TheVariants.{Holds, Violated}
use Rattle.theory.specs.inside.Threshold.{window_end}
use Rattle.theory.specs.inside.Costs.{ForestCosts, CutLeast, cut_off, cut}
use Rattle.theory.specs.inside.RunCosts.{sum_run}
use Rattle.theory.specs.inside.UntilCosts.{HoldsBefore, CutBefore}
use Rattle.theory.specs.inside.Frames.{Lawful}
use Rattle.theory.specs.inside.Prices.{Price}
use Rattle.theory.specs.inside.Level.{ByAtoms}
use Rattle.theory.specs.inside.SinceCosts.{HeldUpTo, BrokenUpTo}
use Rattle.theory.proofs.Says.{Says, right, wrong, says-follows, says-alike, says-or, says-and}
use Rattle.theory.proofs.Decided.{UntilBelow, below-until, below_none}
use Rattle.theory.proofs.Horizon.{atoms-level}
use Rattle.theory.proofs.Windowed.{Windowed}
use Rattle.theory.proofs.CostsRuns.{run-costs}
use Rattle.theory.proofs.CostsUntil.{witness-start, until-holds-step, until-violated-step, until-holds-costs}
use Rattle.theory.proofs.CostsUntil.{until-violated-costs}
use Rattle.theory.proofs.Cuts.{cut-one}
use Rattle.theory.proofs.Prices.{unmeant-price}
use Rattle.theory.proofs.CostsSince.{held_start, broken-start, held-step, broken-step, held_whole}
use Rattle.theory.proofs.CostsSince.{broken-whole}
use Rattle.cells.specs.inside.Stands.{Stand}
use Rattle.cells.specs.inside.Cells.{holds_in, pro_of, con_of, cell_of, goes_on, stepped, since_state}
use Rattle.cells.specs.inside.Cells.{until_state, held_from}
use Rattle.cells.specs.inside.Meant.{CellFor}

-- the verdict of a cell as a Boolean that says the meaning
pub cell-says : {cost : Cost} {frame : Frame} {f : Formula} {i c : ℕ} → CellFor cost frame f i c
    → Says (Meant frame.letter f i) (holds_in c)
cell-says {c} a = by (holds_in c) a.truth where
  by : {P : Type 0} (b : Bool) → (b ≡ true) ↔ P → Says P b
  by true e = right (e.0 refl)
  by false e = wrong (λ p. false≢true (e.1 p))

-- what stands in a cell, by whether it is 8,192 at least
holds-high : (c : ℕ) → held_from ≤ c → holds_in c ≡ true
unfolding holds_in
holds-high c h = le-leb held_from c h

holds-low : (c : ℕ) → c < held_from → holds_in c ≡ false
unfolding holds_in
holds-low c h = lt-leb held_from c h

pro-high : (p : ℕ) → pro_of (held_from + p) ≡ p
unfolding pro_of
pro-high p =
    ap (λ b. cond b (held_from + p - held_from) cut_off) (le-leb held_from (held_from + p) (omega arith))
    ∙ omega arith

pro-low : (c : ℕ) → c < held_from → pro_of c ≡ cut_off
unfolding pro_of
pro-low c h = ap (λ b. cond b (c - held_from) cut_off) (lt-leb held_from c h)

con-high : (p : ℕ) → con_of (held_from + p) ≡ cut_off
unfolding con_of
con-high p = ap (λ b. cond b cut_off (held_from + p)) (le-leb held_from (held_from + p) (omega arith))

con-low : (c : ℕ) → c < held_from → con_of c ≡ c
unfolding con_of
con-low c h = ap (λ b. cond b cut_off c) (lt-leb held_from c h)

cell-held : (p q : ℕ) → cell_of (record { holds = true; pro = p; con = q }) ≡ held_from + p
unfolding cell_of
cell-held p q = refl

cell-broken : (p q : ℕ) → cell_of (record { holds = false; pro = p; con = q }) ≡ q
unfolding cell_of
cell-broken p q = refl

-- A verdict that says the meaning, with the price of its trees: their cell says it all,
-- since trees of the other verdict there are none.
module _ {cost : Cost} {frame : Frame} (law : Lawful frame) {f : Formula} {i : ℕ} where
  pub cell-held-for : (p q : ℕ) → Meant frame.letter f i → Price cost frame (claim f i Holds) p
      → CellFor cost frame f i (cell_of (record { holds = true; pro = p; con = q }))
  cell-held-for p q m a = subst (CellFor cost frame f i) (sym (cell-held p q)) (record {
    truth = (λ _. m, λ _. holds-high (held_from + p) (omega arith));
    pro = subst (Price cost frame (claim f i Holds)) (sym (pro-high p)) a;
    con = subst (Price cost frame (claim f i Violated)) (sym (con-high p)) (unmeant-price law (λ n. n m));
  })

  pub cell-broken-for : (p q : ℕ) → ¬ Meant frame.letter f i → Price cost frame (claim f i Violated) q
      → CellFor cost frame f i (cell_of (record { holds = false; pro = p; con = q }))
  cell-broken-for p q n c =
      let small : q < held_from = omega (arith, c.top) in
      subst (CellFor cost frame f i) (sym (cell-broken p q))
      (record {
        truth = (λ e. absurd (false≢true (sym (holds-low q small) ∙ e)), λ m. absurd (n m));
        pro = subst (Price cost frame (claim f i Holds)) (sym (pro-low q small)) (unmeant-price law n);
        con = subst (Price cost frame (claim f i Violated)) (sym (con-low q small)) c;
      })

  pub cell-for : (b : Bool) (p q : ℕ) → Says (Meant frame.letter f i) b
      → Price cost frame (claim f i Holds) p → Price cost frame (claim f i Violated) q
      → CellFor cost frame f i (cell_of (record { holds = b; pro = p; con = q }))
  cell-for _ p q (right m) a c = cell-held-for p q m a
  cell-for _ p q (wrong n) a c = cell-broken-for p q n c

-- since at the position before e, where there is one
abbrev SinceBefore : (A B : ℕ → Type 0) → ℕ → Type 0
SinceBefore A B zero = ⊥
SinceBefore A B (suc i) = SinceMeant A B i

before_on : {A B : ℕ → Type 0} (e : ℕ) → (B e ⊎ (A e × SinceBefore A B e)) ↔ SinceBefore A B (suc e)
before_on zero = (λ h. since-first.0 (⊎_elim (λ b. b) (λ p. absurd p.1) h), λ s. inl (since-first.1 s))
before_on (suc i) = since-unrolled i

-- What a loop along a row of a since knows before it comes to the position e.
pub record SinceFor (cost : Cost) (frame : Frame) (f g : Formula) (e : ℕ) (x : Stand) : Type 0 where
  pub says : Says (SinceBefore (Meant frame.letter f) (Meant frame.letter g) e) x.holds
  pub pro : CutLeast (HeldUpTo cost frame f g e) x.pro
  pub con : CutLeast (BrokenUpTo cost frame f g e) x.con

-- cut off once or twice
cut-both : {k : ℕ} → k ≡ 1 → (b x a : ℕ) → min (cut (k + b)) (cut (x + a)) ≡ cut (min (1 + b) (x + a))
cut-both e b x a = omega (arith, e)

cut-three : {k : ℕ} → k ≡ 1 → (a b x : ℕ)
    → min (cut (k + cut (a + b))) (cut (x + b)) ≡ cut (min (1 + a + b) (x + b))
cut-three e a b x = omega (arith, e)

module _ {cost : Cost} {weight : ℕ → ℕ} (by-atoms : ByAtoms cost weight) {frame : Frame} {f g : Formula} where
  since-starts : SinceFor cost frame f g 0 (record { holds = false; pro = cut_off; con = 1 })
  since-starts = record {
    says = wrong (λ h. h);
    pro = held_start;
    con = subst (CutLeast (BrokenUpTo cost frame f g 0))
        (omega (arith, by-atoms.other 13 (omega arith))) broken-start;
  }

  since-steps : (e a b : ℕ) (x : Stand) → SinceFor cost frame f g e x → CellFor cost frame f e a
      → CellFor cost frame g e b → SinceFor cost frame f g (suc e) (stepped x a b)
  unfolding stepped goes_on
  since-steps e a b x s ca cb = record {
    says = says-alike (before_on e) (says-or (cell-says cb) (says-and (cell-says ca) s.says));
    pro = subst (CutLeast (HeldUpTo cost frame f g (suc e)))
        (cut-both (by-atoms.other 11 (omega arith)) (pro_of b) x.pro (pro_of a))
        (held-step e ca.pro cb.pro s.pro);
    con = subst (CutLeast (BrokenUpTo cost frame f g (suc e)))
        (cut-three (by-atoms.other 12 (omega arith)) (con_of a) (con_of b) x.con)
        (broken-step e ca.con cb.con s.con);
  }

  module _ (a b : ℕ → ℕ) where
    since-states : (e : ℕ) → ((k : ℕ) → k < e → CellFor cost frame f k (a k))
        → ((k : ℕ) → k < e → CellFor cost frame g k (b k)) → SinceFor cost frame f g e (since_state a b e)
    unfolding since_state
    since-states zero ca cb = since-starts
    since-states (suc e) ca cb =
        since-steps e (a e) (b e) _ (since-states e (λ k h. ca k (omega arith)) (λ k h. cb k (omega arith)))
        (ca e (omega arith)) (cb e (omega arith))

    -- The cells of a since.
    pub since-cell : Lawful frame → (i : ℕ) → ((k : ℕ) → k < suc i → CellFor cost frame f k (a k))
        → ((k : ℕ) → k < suc i → CellFor cost frame g k (b k))
        → CellFor cost frame (since f g) i (cell_of (since_state a b (suc i)))
    since-cell law i ca cb =
        let s = since-states (suc i) ca cb in
        cell-for law _ _ _ s.says (held_whole i s.pro) (broken-whole i s.con)

-- What a loop down a row of an until knows at a position, of witnesses below the top.
pub record UntilFor (cost : Cost) (frame : Frame) (f g : Formula) (top i : ℕ) (x : Stand) : Type 0 where
  pub says : Says (UntilBelow (Meant frame.letter f) (Meant frame.letter g) top i) x.holds
  pub pro : CutLeast (HoldsBefore cost frame f g top i) x.pro
  pub con : CutLeast (CutBefore cost frame f g top i) x.con

cut_sums : {k : ℕ} → k ≡ 1 → (a b x : ℕ)
    → min (cut (k + (a + b))) (cut (x + b)) ≡ cut (min (1 + a + b) (x + b))
cut_sums e a b x = omega (arith, e)

cut-last : {k : ℕ} → k ≡ 1 → (q s : ℕ) → q ≤ cut_off → min q (cut (k + cut s)) ≡ cut (min q (1 + s))
cut-last e q s h = omega (arith, e)

module _ {cost : Cost} {weight : ℕ → ℕ} (by-atoms : ByAtoms cost weight) {frame : Frame} {f g : Formula}
    {top : ℕ} where
  until-starts : (i : ℕ) → top ≤ i
      → UntilFor cost frame f g top i (record { holds = false; pro = cut_off; con = cut_off })
  until-starts i past = record {
    says = wrong (λ w. omega (arith, w.order, w.there.1));
    pro = witness-start past;
    con = witness-start past;
  }

  until-steps : (i a b : ℕ) (x : Stand) → i < top → UntilFor cost frame f g top (suc i) x
      → CellFor cost frame f i a → CellFor cost frame g i b → UntilFor cost frame f g top i (stepped x a b)
  unfolding stepped goes_on
  until-steps i a b x near s ca cb = record {
    says = says-alike (until-unrolled i)
        (says-or (says-alike (λ h. (h, near), λ h. h.0) (cell-says cb)) (says-and (cell-says ca) s.says));
    pro = subst (CutLeast (HoldsBefore cost frame f g top i))
        (cut-both (by-atoms.other 14 (omega arith)) (pro_of b) x.pro (pro_of a))
        (until-holds-step near cb.pro ca.pro s.pro);
    con = subst (CutLeast (CutBefore cost frame f g top i))
        (cut_sums (by-atoms.other 15 (omega arith)) (con_of a) (con_of b) x.con)
        (until-violated-step near cb.con ca.con s.con);
  }

  module _ (a b : ℕ → ℕ) (ca : (k : ℕ) → k < top → CellFor cost frame f k (a k))
      (cb : (k : ℕ) → k < top → CellFor cost frame g k (b k)) where
    until-states : (d : ℕ) → d ≤ top → UntilFor cost frame f g top (top - d) (until_state a b top d)
    unfolding until_state
    until-states zero h = until-starts (top - 0) (omega arith)
    until-states (suc d) h =
        let i = top - suc d in
        until-steps i (a i) (b i) _ (omega arith)
        (subst (λ p. UntilFor cost frame f g top p (until_state a b top d)) {x = top - d} {y = suc i}
        (omega arith) (until-states d (omega arith)))
        (ca i (omega arith)) (cb i (omega arith))

module _ {cost : Cost} {weight : ℕ → ℕ} (by-atoms : ByAtoms cost weight) {frame : Frame} {u v reach : ℕ}
    (w : Windowed frame u v reach) {f g : Formula} {top : ℕ} (a b : ℕ → ℕ)
    (ca : (k : ℕ) → k < top → CellFor cost frame f k (a k))
    (cb : (k : ℕ) → k < top → CellFor cost frame g k (b k)) where
  -- The cells of an until, where the window ends at the top at the latest.
  pub until-cell : (i n : ℕ) → window_end u v g i ≤ top → n ≡ window_count u v i (height Past g) → (x : Stand)
      → until_state a b top (top - i) ≡ x
      → CellFor cost frame (until f g) i
      (cell_of (record {
        holds = x.holds;
        pro = x.pro;
        con = cut (min x.con (1 + sum_run (λ p. con_of (b p)) i n));
      }))
  until-cell i n far e x xe =
      let s = rw xe
      at (subst (λ p. UntilFor cost frame f g top p (until_state a b top (top - i))) {x = top - (top - i)}
      {y = i} (omega arith) (until-states by-atoms a b ca cb (top - i) (omega arith))) in
      cell-for w.lawful _ _ _
      (says-follows below-until
      (below_none
      (λ none. w.lawful.ever g i (λ k ge lt. none k ge (omega (arith, w.counts i (height Past g))))))
      s.says)
      (until-holds-costs (atoms-level by-atoms) w far s.pro)
      (subst (Price cost frame (claim (until f g) i Violated))
      (cut-last (by-atoms.other 16 (omega arith)) x.con (sum_run (λ p. con_of (b p)) i n) s.con.top)
      (until-violated-costs (atoms-level by-atoms) w far s.con
      (subst
      (λ m. CutLeast (ForestCosts cost frame (run g i m Violated)) (cut (sum_run (λ p. con_of (b p)) i n))) e
      (run-costs (λ p. con_of (b p)) i n (λ j ge lt. (cb j (omega arith)).con)))))

-- Two cells that say what a formula is at a position are one number.
high-cell : (c : ℕ) → holds_in c ≡ true → c ≡ held_from + pro_of c
unfolding holds_in
high-cell c h =
    let high = leb-true held_from c h in
    let p : c ≡ held_from + (c - held_from) = omega (arith, high) in
    p ∙ ap (λ n. held_from + n) (sym (pro-high (c - held_from)) ∙ ap pro_of (sym p))

low-cell : (c : ℕ) → holds_in c ≡ false → c ≡ con_of c
unfolding holds_in
low-cell c h = sym (con-low c (leb-false held_from c h))

is_false : (t : Bool) → ¬ (t ≡ true) → t ≡ false
is_false true n = absurd (n refl)
is_false false n = refl

module _ {cost : Cost} {frame : Frame} {f : Formula} {i : ℕ} where
  pub cell-one : {c d : ℕ} → CellFor cost frame f i c → CellFor cost frame f i d → c ≡ d
  cell-one {c} {d} a b = by (holds_in c) refl where
    by : (t : Bool) → holds_in c ≡ t → c ≡ d
    by true h =
        high-cell c h ∙ ap (λ n. held_from + n) (cut-one a.pro b.pro)
        ∙ sym (high-cell d (b.truth.1 (a.truth.0 h)))
    by false h =
        low-cell c h ∙ cut-one a.con b.con
        ∙ sym (low-cell d (is_false (holds_in d) (λ t. false≢true (sym h ∙ a.truth.1 (b.truth.0 t)))))
