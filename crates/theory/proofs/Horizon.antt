-- A witness need not lie past the window: for every valid tree there is one at or before
-- it whose root looks no further.
use Prim.Native.Nat.{ℕ, zero, suc, ◌+◌, ◌-◌, ◌<◌, ◌≤◌}
use mathlib.Core.Path.{◌≡◌, refl}
use mathlib.Core.Logic.{by_cases}
use mathlib.Core.List.{List, ◌∷◌}
use native.Mathlib.Decide.{dec_le, dec_lt}
use native.Mathlib.Omega.{arith}
use Rattle.rules.specs.Formula.{Formula, until, height}
use Rattle.rules.specs.declared.Side.TheVariants.{Past}
use Rattle.trees.specs.Nodes.{node}
use Rattle.trees.specs.declared.Node.{Node}
use Rattle.trees.specs.Rules.{Frame, Claim, claim, run, Rule, rule14, rule15, rule16}
use Rattle.trees.specs.Trees.{Tree, grown, Forest, more}
use Rattle.trees.specs.Frames.{window_count}
use Rattle.trees.specs.Least.{Cost, ones, AtOrBefore, cheaper}
use Rattle.trees.specs.declared.Verdict.TheVariants.{Holds, Violated}
use Rattle.trees.proofs.Needs.{formula_right}
use Rattle.trees.proofs.Shapes.{ahead, cut, through, Shape, behind, looks, shape_of}
use Rattle.trees.proofs.Order.{cost-append, at-reflexive, at-transitive}
use Rattle.theory.specs.inside.Words.{Repeats}
use Rattle.theory.specs.inside.Threshold.{window_end}
use Rattle.theory.specs.inside.Repeating.{repeat_frame}
use Rattle.theory.specs.inside.Level.{Level, ByAtoms}
use Rattle.theory.proofs.Saves.{AllSave, tree-cost, more-saves, cut-saves, at_least}
use Rattle.theory.proofs.Laps.{lap-earlier}

pub atoms-level : {cost : Cost} {weight : ℕ → ℕ} → ByAtoms cost weight → Level cost
atoms-level k = record { level = omega (arith, k.other 16 (omega arith), k.other 15 (omega arith)) }

pub ones-atoms : ByAtoms ones (λ a. 1)
ones-atoms = record { held = λ a. refl; violated = λ a. refl; other = λ r le. refl }

pub ones-level : Level ones
ones-level = omega arith

-- The witness of a root x for c, i + n under rule 14 and i + n - 1 under rule 15,
-- lies inside the window of the right side.
pub record InWindow (u v : ℕ) (c : Claim) (x : Node) : Type 0 where
  pub ahead : x.rule ≡ 14 → c.position + x.number < window_end u v (formula_right c.formula) c.position
  pub cut : x.rule ≡ 15 → c.position + x.number ≤ window_end u v (formula_right c.formula) c.position

module _ (cost : Cost) {word : ℕ → ℕ} {u v : ℕ} (w : Repeats word u v) (f g : Formula) (i : ℕ) where
  -- rule 14, a witness at or past the end: a lap earlier the right side is no dearer, and v members fall away
  pub witness-earlier : (n : ℕ) → window_end u v g i ≤ i + n → {ws : List Node}
      → Forest (repeat_frame word u v) (claim g (i + n) Holds ∷ run f i n Holds) ws
      → AllSave cost (repeat_frame word u v) v (claim g (i + (n - v)) Holds ∷ run f i (n - v) Holds) ws
  witness-earlier n past (more a bs) =
      let at = lap-earlier w g (i + n) (i + (n - v)) Holds (omega arith) (omega arith) a in
      at_least (omega arith) (more-saves at (cut-saves f i n i (n - v) v Holds refl (omega arith) bs))

  -- rule 15, a witness past the end: the right side is violated all through the window,
  -- and the first part and a member fall away
  pub witness-none : (n : ℕ) → window_end u v g i < i + n → {ws : List Node}
      → Forest (repeat_frame word u v) (claim f (i + n - 1) Violated ∷ run g i n Violated) ws
      → AllSave cost (repeat_frame word u v) 2 (run g i (window_count u v i (height Past g)) Violated) ws
  witness-none n past (more {ws} {vs} a bs) =
      let m = window_count u v i (height Past g) in
      let on = cut-saves {cost = cost} g i n i m (n - m) Violated refl (omega arith) bs in
      record {
        nodes = on.nodes;
        forest = on.forest;
        less = omega (arith, tree-cost cost a, cost-append cost ws vs);
      }

-- A tree at or before the nodes ws, with a root among Q.
pub record NearTree (cost : Cost) (frame : Frame) (Q : Node → Type 0) (c : Claim)
    (ws : List Node) : Type 0 where
  pub root : Node
  pub nodes : List Node
  pub tree : Tree frame c (root ∷ nodes)
  pub near : Q root
  pub before : AtOrBefore cost (root ∷ nodes) ws

module _ {cost : Cost} {frame : Frame} {Q : Node → Type 0} {c : Claim} where
  within-later : {ws vs : List Node} → NearTree cost frame Q c ws → AtOrBefore cost ws vs
      → NearTree cost frame Q c vs
  within-later a b = record {
    root = a.root;
    nodes = a.nodes;
    tree = a.tree;
    near = a.near;
    before = at-transitive a.before b;
  }

  pub within-itself : {x : Node} {needs : List Claim} {ws : List Node}
      → Rule frame c x needs → Forest frame needs ws → Q x → NearTree cost frame Q c (x ∷ ws)
  within-itself {x} r fs near =
      record { root = x; nodes = _; tree = grown r fs; near = near; before = at-reflexive }

module _ {cost : Cost} {word : ℕ → ℕ} {u v : ℕ} (w : Repeats word u v) {f g : Formula} (i : ℕ) where
  -- lap by lap into the window; the bound m falls with them
  holds-inside : (m n : ℕ) → n < m → {ws : List Node}
      → Forest (repeat_frame word u v) (claim g (i + n) Holds ∷ run f i n Holds) ws
      → let c = claim (until f g) i Holds in
      NearTree cost (repeat_frame word u v) (InWindow u v c) c (node 14 0 n ∷ ws)
  holds-inside zero n lt fs = absurd (omega arith)
  holds-inside (suc m) n lt fs = by_cases (dec_lt (i + n) (window_end u v g i))
      (λ near. within-itself rule14 fs (omega arith))
      (λ far.
      let a = witness-earlier cost w f g i n (omega arith) fs in
      within-later (holds-inside m (n - v) (omega arith) a.forest) (cheaper (omega arith)))

  violated-inside : Level cost → (n : ℕ) → 1 ≤ n → {ws : List Node}
      → Forest (repeat_frame word u v) (claim f (i + n - 1) Violated ∷ run g i n Violated) ws
      → let c = claim (until f g) i Violated in
      NearTree cost (repeat_frame word u v) (InWindow u v c) c (node 15 0 n ∷ ws)
  violated-inside lv n some fs = by_cases (dec_le (i + n) (window_end u v g i))
      (λ near. within-itself (rule15 some) fs (omega arith))
      (λ far.
      let a = witness-none cost w f g i n (omega arith) fs in
      within-later (within-itself (rule16 refl) a.forest (omega arith)) (cheaper (omega arith)))

module _ {cost : Cost} (lv : Level cost) {word : ℕ → ℕ} {u v : ℕ} (w : Repeats word u v) where
  root-inside : {c : Claim} {x : Node} {needs : List Claim} {ws : List Node}
      → Rule (repeat_frame word u v) c x needs → Shape (repeat_frame word u v) c x needs
      → Forest (repeat_frame word u v) needs ws
      → NearTree cost (repeat_frame word u v) (InWindow u v c) c (x ∷ ws)
  root-inside r (behind fixed h k m from n t b) fs = within-itself r fs (omega (arith, b.rule))
  root-inside r (looks (ahead {i} {n})) fs = holds-inside w i (suc n) n (omega arith) fs
  root-inside r (looks (cut {i} {n} some)) fs = violated-inside w i lv n some fs
  root-inside r (looks (through e)) fs = within-itself r fs (omega arith)

  pub inside : {c : Claim} {ws : List Node} → Tree (repeat_frame word u v) c ws
      → NearTree cost (repeat_frame word u v) (InWindow u v c) c ws
  inside (grown r fs) = root-inside r (shape_of r) fs
