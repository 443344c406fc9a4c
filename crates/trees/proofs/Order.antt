-- Trees of one formula and position stand in one strict order, by cost and then by words:
-- so there is at most one least tree.
use Prim.Native.Nat.{ℕ, ◌+◌, ◌<◌, ◌≤◌}
use mathlib.Core.Path.{◌≡◌, refl, sym, ◌∙◌, ap, ap₂, subst}
use mathlib.Core.Logic.{◌⊎◌, inl, inr, by_cases}
use mathlib.Core.List.{List, [], ◌∷◌, ◌++◌, append-nil}
use native.Mathlib.Decide.{dec_lt}
use native.Mathlib.Omega.{arith}
use lib.ListN.{length}
use Rattle.rules.specs.Formula.{Formula}
use Rattle.trees.specs.declared.Node.{Node}
use Rattle.trees.specs.Rules.{Frame, claim}
use Rattle.trees.specs.Trees.{Tree}
use Rattle.trees.specs.Least.{Cost, cost_of, ones, Least, NodeBefore, by_rule, by_atom, by_number, Before}
use Rattle.trees.specs.Least.{here, later, AtOrBefore, cheaper, earlier, same}
use Rattle.trees.specs.declared.Verdict.{Verdict}
use Rattle.trees.proofs.Beginnings.{either_first}

-- What two things are to one another in an order.
pub data Compared {A : Type 0} (R : A → A → Type 0) (x y : A) : Type 0 where
  less : R x y → Compared R x y
  alike : x ≡ y → Compared R x y
  greater : R y x → Compared R x y

-- Nodes

pub node-irreflexive : {x : Node} → ¬ NodeBefore x x
node-irreflexive (by_rule h) = omega arith
node-irreflexive (by_atom e h) = omega arith
node-irreflexive (by_number e d h) = omega arith

pub node-transitive : {x y z : Node} → NodeBefore x y → NodeBefore y z → NodeBefore x z
node-transitive {x} {z} (by_rule h) (by_rule k) = by_rule {x = x} {y = z} (omega arith)
node-transitive {x} {z} (by_rule h) (by_atom e k) = by_rule {x = x} {y = z} (omega arith)
node-transitive {x} {z} (by_rule h) (by_number e d k) = by_rule {x = x} {y = z} (omega arith)
node-transitive {x} {z} (by_atom e h) (by_rule k) = by_rule {x = x} {y = z} (omega arith)
node-transitive {x} {z} (by_atom e h) (by_atom d k) = by_atom {x = x} {y = z} (omega arith) (omega arith)
node-transitive {x} {z} (by_atom e h) (by_number d c k) = by_atom {x = x} {y = z} (omega arith) (omega arith)
node-transitive {x} {z} (by_number e d h) (by_rule k) = by_rule {x = x} {y = z} (omega arith)
node-transitive {x} {z} (by_number e d h) (by_atom c k) = by_atom {x = x} {y = z} (omega arith) (omega arith)
node-transitive {x} {z} (by_number e d h) (by_number c b k) =
    by_number {x = x} {y = z} (omega arith) (omega arith) (omega arith)

-- numbers, in three
module _ {C : Type 0} (m n : ℕ) where
  pub by_order : (m < n → C) → (m ≡ n → C) → (n < m → C) → C
  by_order l e g = by_cases (dec_lt m n) l (λ h. by_cases (dec_lt n m) g (λ k. e (omega arith)))

pub node-compared : (x y : Node) → Compared NodeBefore x y
node-compared x y =
    by_order x.rule y.rule (λ h. search (less, greater, by_rule))
    (λ r. let q : y.rule ≡ x.rule = sym r in
    by_order x.atom y.atom (λ h. search (less, greater, by_atom))
    (λ a. let b : y.atom ≡ x.atom = sym a in
    by_order x.number y.number (λ h. search (less, greater, by_number))
    (λ n. alike (λ i. record { rule = r i; atom = a i; number = n i }))
    (λ h. search (less, greater, by_number)))
    (λ h. search (less, greater, by_atom)))
    (λ h. search (less, greater, by_rule))

-- Lists of nodes

abbrev first_of_list : Node → List Node → Node
first_of_list d [] = d
first_of_list d (x ∷ ws) = x

abbrev rest_of_list : List Node → List Node
rest_of_list [] = []
rest_of_list (x ∷ ws) = ws

-- what comes before another list is not that list
before-apart : {ws vs : List Node} → Before ws vs → ws ≡ vs → ⊥
before-apart (here {x} {y} {ws} {vs} h) e =
    node-irreflexive {x = x} (subst (λ z. NodeBefore x z) (sym (ap (first_of_list x) e)) h)
before-apart (later b) e = before-apart b (ap rest_of_list e)

pub before-irreflexive : {ws : List Node} → ¬ Before ws ws
before-irreflexive b = before-apart b refl

pub before-transitive : {ws vs us : List Node} → Before ws vs → Before vs us → Before ws us
before-transitive (here h) (here k) = here (node-transitive h k)
before-transitive (here h) (later c) = here h
before-transitive (later b) (here k) = here k
before-transitive (later b) (later c) = later (before-transitive b c)

-- what comes first differs inside both, so nothing that follows changes it
pub before-append : {ws vs : List Node} → Before ws vs → (xs ys : List Node) → Before (ws ++ xs) (vs ++ ys)
before-append (here h) xs ys = here h
before-append (later b) xs ys = later (before-append b xs ys)

pub append-before : (xs : List Node) {ws vs : List Node} → Before ws vs → Before (xs ++ ws) (xs ++ vs)
append-before [] b = b
append-before (x ∷ xs) b = later (append-before xs b)

-- Two lists differ inside both, or they begin a common list.
data Beside (ws vs : List Node) : Type 0 where
  differ : Before ws vs → Beside ws vs
  turned : Before vs ws → Beside ws vs
  along : (xs ys : List Node) → ws ++ xs ≡ vs ++ ys → Beside ws vs

beside-later : {x y : Node} {ws vs : List Node} → x ≡ y → Beside ws vs → Beside (x ∷ ws) (y ∷ vs)
beside-later {x} {ws} e (differ b) = differ (rw e (later b))
beside-later e (turned b) = turned (rw e (later b))
beside-later e (along xs ys d) = along xs ys (ap₂ ◌∷◌ e d)

beside : (ws vs : List Node) → Beside ws vs
beside [] vs = along vs [] (sym (append-nil vs))
beside (x ∷ ws) [] = along [] (x ∷ ws) (append-nil (x ∷ ws))
beside (x ∷ ws) (y ∷ vs) = let rest = beside ws vs in elim (node-compared x y) [
  | less h ↦ differ (here h)
  | alike e ↦ beside-later e rest
  | greater h ↦ turned (here h)
]

module _ {frame : Frame} {f : Formula} {i : ℕ} {p q : Verdict} {ws vs : List Node} where
  -- no tree begins another, so two that differ differ inside both
  pub tree-compared : Tree frame (claim f i p) ws → Tree frame (claim f i q) vs → Compared Before ws vs
  tree-compared t s = elim (beside ws vs) [
    | differ b ↦ less b
    | turned b ↦ greater b
    | along xs ys e ↦ alike (either_first t s xs ys e)
  ]

-- Costs

pub cost-ones : (ws : List Node) → cost_of ones ws ≡ length ws
cost-ones [] = refl
cost-ones (x ∷ ws) = omega (arith, cost-ones ws)

module _ (cost : Cost) where
  pub cost-append : (ws vs : List Node) → cost_of cost (ws ++ vs) ≡ cost_of cost ws + cost_of cost vs
  cost-append [] vs = omega arith
  cost-append (x ∷ ws) vs = omega (arith, cost-append ws vs)

  pub cost-length : (ws : List Node) → length ws ≤ cost_of cost ws
  cost-length [] = omega arith
  cost-length (x ∷ ws) = omega (arith, cost-length ws, cost.some x.rule x.atom)

  pub cost-some : (x : Node) (ws : List Node) → 1 ≤ cost_of cost (x ∷ ws)
  cost-some x ws = omega (arith, cost.some x.rule x.atom)

-- At or before

module _ {cost : Cost} where
  pub at-cost : {ws vs : List Node} → AtOrBefore cost ws vs → cost_of cost ws ≤ cost_of cost vs
  at-cost (cheaper h) = omega arith
  at-cost (earlier e b) = omega arith
  at-cost {ws} {vs} (same e) = omega (arith, ap (cost_of cost) e)

  pub at-reflexive : {ws : List Node} → AtOrBefore cost ws ws
  at-reflexive = same refl

  pub at-transitive : {ws vs us : List Node} → AtOrBefore cost ws vs → AtOrBefore cost vs us
      → AtOrBefore cost ws us
  at-transitive (cheaper h) c = cheaper (omega (arith, at-cost c))
  at-transitive (earlier e b) (cheaper k) = cheaper (omega arith)
  at-transitive (earlier e b) (earlier d c) = earlier (e ∙ d) (before-transitive b c)
  at-transitive {ws} {vs} (earlier e b) (same d) = let k : AtOrBefore cost ws vs = earlier e b in rw d at k
  at-transitive (same e) c = rw e c

  pub at-antisymmetric : {ws vs : List Node} → AtOrBefore cost ws vs → AtOrBefore cost vs ws → ws ≡ vs
  at-antisymmetric (cheaper h) c = absurd (omega (arith, at-cost c))
  at-antisymmetric (earlier e b) (cheaper k) = absurd (omega arith)
  at-antisymmetric (earlier e b) (earlier d c) = absurd (before-irreflexive (before-transitive b c))
  at-antisymmetric (earlier e b) (same d) = sym d
  at-antisymmetric (same e) c = e

  pub append_at : (xs : List Node) {ws vs : List Node} → AtOrBefore cost ws vs
      → AtOrBefore cost (xs ++ ws) (xs ++ vs)
  append_at xs {ws} {vs} (cheaper h) = cheaper (omega (arith, cost-append cost xs ws, cost-append cost xs vs))
  append_at xs {ws} {vs} (earlier e b) =
      earlier (omega (arith, cost-append cost xs ws, cost-append cost xs vs)) (append-before xs b)
  append_at xs (same e) = same (ap (λ l. xs ++ l) e)

  pub at-later : (x : Node) {ws vs : List Node} → AtOrBefore cost ws vs → AtOrBefore cost (x ∷ ws) (x ∷ vs)
  at-later x = append_at (x ∷ [])

  -- replacing two neighbours, each by one at or before it
  pub at-append : {ws vs xs ys : List Node} → AtOrBefore cost ws vs → AtOrBefore cost xs ys
      → AtOrBefore cost (ws ++ xs) (vs ++ ys)
  at-append {ws} {vs} {xs} {ys} (cheaper h) c =
      cheaper (omega (arith, at-cost c, cost-append cost ws xs, cost-append cost vs ys))
  at-append {ws} {vs} {xs} {ys} (earlier e b) (cheaper k) =
      cheaper (omega (arith, cost-append cost ws xs, cost-append cost vs ys))
  at-append {ws} {vs} {xs} {ys} (earlier e b) (earlier d c) =
      earlier (omega (arith, cost-append cost ws xs, cost-append cost vs ys)) (before-append b xs ys)
  at-append {ws} {vs} {xs} {ys} (earlier e b) (same d) =
      earlier (omega (arith, ap (cost_of cost) d, cost-append cost ws xs, cost-append cost vs ys))
      (before-append b xs ys)
  at-append {ws} {vs} {xs} {ys} (same e) c = rw e (append_at vs c)

-- The least tree

module _ {cost : Cost} {frame : Frame} {f : Formula} {i : ℕ} where
  pub tree-total : {p q : Verdict} {ws vs : List Node} → Tree frame (claim f i p) ws
      → Tree frame (claim f i q) vs → AtOrBefore cost ws vs ⊎ AtOrBefore cost vs ws
  tree-total {ws} {vs} t s = by_order (cost_of cost ws) (cost_of cost vs)
      (λ h. inl (cheaper h))
      (λ e. elim (tree-compared t s) [
        | less b ↦ inl (earlier e b)
        | alike d ↦ inl (same d)
        | greater b ↦ inr (earlier (sym e) b)
      ])
      (λ h. inr (cheaper h))

  pub least-one : {ws vs : List Node} → Least cost frame f i ws → Least cost frame f i vs → ws ≡ vs
  least-one {ws} {vs} l m =
      at-antisymmetric (l.least m.verdict vs m.valid) (m.least l.verdict ws l.valid)
