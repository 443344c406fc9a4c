-- Every formula at every position has a least tree.
use Prim.Native.Nat.{ℕ, ◌+◌, ◌-◌, ◌<◌}
use mathlib.Core.Path.{refl}
use mathlib.Core.Logic.Dec
use mathlib.Core.Logic.{by_cases}
use mathlib.Core.List.{List, ◌∷◌}
use native.Mathlib.Decide.{dec_lt}
use native.Mathlib.Omega.{arith}
use lib.ListN.{length}
use Rattle.rules.specs.Formula.{Formula, atom, notᶠ, orᶠ, andᶠ, since, until, height}
use Rattle.rules.specs.Meaning.{Meant}
use Rattle.rules.specs.declared.Side.TheVariants.{Past}
use Rattle.trees.specs.Nodes.{node}
use Rattle.trees.specs.declared.Node.{Node}
use Rattle.trees.specs.Rules.{Frame, Claim, claim, run, rule1, rule2, rule3, rule4, rule5, rule6, rule7}
use Rattle.trees.specs.Rules.{rule8, rule9, rule10, rule11, rule12, rule13, rule14, rule15, rule16}
use Rattle.trees.specs.Trees.{Tree, grown}
use Rattle.trees.specs.Frames.{schedule_frame}
use Rattle.trees.specs.Least.{Cost, cost_of, Least}
use Rattle.trees.specs.declared.Verdict.{Verdict}
use Rattle.trees.specs.declared.Verdict.TheVariants.{Holds, Violated}
use Rattle.trees.proofs.Claims.{run_length}
use Rattle.theory.specs.inside.Frames.{Lawful}
use Rattle.trees.specs.Means.{Means}
use Rattle.theory.specs.inside.Words.{Repeats}
use Rattle.theory.specs.inside.Repeating.{repeat_frame}
use Rattle.theory.proofs.Words.{schedule-repeats}
use Rattle.theory.proofs.Runs.{nothing, also, run-each}
use Rattle.theory.proofs.Sound.{sound, repeats-lawful}
use Rattle.theory.proofs.Decided.{decided}
use Rattle.theory.proofs.Complete.{complete}
use Rattle.theory.proofs.Roots.{ComesFirst, ahead_before, dear-ahead, leads-all, atom-holds}
use Rattle.theory.proofs.Roots.{atom-violated, not-holds, not-violated, or-holds, or-violated}
use Rattle.theory.proofs.Roots.{and-holds, and-violated, since-holds, since-violated, until-holds}
use Rattle.theory.proofs.Roots.{until-violated}
use Rattle.theory.proofs.LeastForests.{for-least, own-least}
use Rattle.theory.proofs.Best.{Best, absent, best, try, try-all}

-- A tree that leads all trees of its claim.
record Leader (cost : Cost) (frame : Frame) (c : Claim) : Type 0 where
  nodes : List Node
  tree : Tree frame c nodes
  leads : ComesFirst cost frame nodes c

-- From any one tree of the claim, and the best trees of its parts, to the leader: root by root.
module _ {cost : Cost} {frame : Frame} where
  atom-leader : (a i : ℕ) (s : Verdict) {ws : List Node} → Tree frame (claim (atom a) i s) ws
      → Leader cost frame (claim (atom a) i s)
  atom-leader a i Holds (grown (rule1 h) fs) =
      let b = try (rule1 h) (grown (rule1 h) fs) nothing in
      record { nodes = b.nodes; tree = b.tree; leads = atom-holds b.ahead }
  atom-leader a i Violated (grown (rule2 h) fs) =
      let b = try (rule2 h) (grown (rule2 h) fs) nothing in
      record { nodes = b.nodes; tree = b.tree; leads = atom-violated b.ahead }

module _ {cost : Cost} {frame : Frame} {f : Formula}
    (part : (k : ℕ) (s : Verdict) → Best cost frame (claim f k s)) (i : ℕ) where
  not-leader : (s : Verdict) {ws : List Node} → Tree frame (claim (notᶠ f) i s) ws
      → Leader cost frame (claim (notᶠ f) i s)
  not-leader Holds t =
      let a = try rule3 t (also (part i Violated) nothing) in
      record { nodes = a.nodes; tree = a.tree; leads = not-holds a.ahead }
  not-leader Violated t =
      let a = try rule4 t (also (part i Holds) nothing) in
      record { nodes = a.nodes; tree = a.tree; leads = not-violated a.ahead }

module _ {cost : Cost} {frame : Frame} {f g : Formula}
    (left : (k : ℕ) (s : Verdict) → Best cost frame (claim f k s))
    (right : (k : ℕ) (s : Verdict) → Best cost frame (claim g k s)) (i : ℕ) where
  or-leader : (s : Verdict) {ws : List Node} → Tree frame (claim (orᶠ f g) i s) ws
      → Leader cost frame (claim (orᶠ f g) i s)
  or-leader Holds t =
      let a = try rule5 t (also (left i Holds) nothing) in
      let b = try rule6 a.tree (also (right i Holds) nothing) in
      record {
        nodes = b.nodes;
        tree = b.tree;
        leads = or-holds (ahead_before b.no-worse a.ahead) b.ahead;
      }
  or-leader Violated t =
      let a = try rule7 t (also (left i Violated) (also (right i Violated) nothing)) in
      record { nodes = a.nodes; tree = a.tree; leads = or-violated a.ahead }

  and-leader : (s : Verdict) {ws : List Node} → Tree frame (claim (andᶠ f g) i s) ws
      → Leader cost frame (claim (andᶠ f g) i s)
  and-leader Holds t =
      let a = try rule8 t (also (left i Holds) (also (right i Holds) nothing)) in
      record { nodes = a.nodes; tree = a.tree; leads = and-holds a.ahead }
  and-leader Violated t =
      let a = try rule9 t (also (left i Violated) nothing) in
      let b = try rule10 a.tree (also (right i Violated) nothing) in
      record {
        nodes = b.nodes;
        tree = b.tree;
        leads = and-violated (ahead_before b.no-worse a.ahead) b.ahead;
      }

  since-leader : (s : Verdict) {ws : List Node} → Tree frame (claim (since f g) i s) ws
      → Leader cost frame (claim (since f g) i s)
  since-leader Holds t =
      let a = try-all (λ n. node 11 0 n) (λ n. claim g (i - n) Holds ∷ run f (i - n + 1) n Holds) t
      (λ n. also (right (i - n) Holds) (run-each f Holds (i - n + 1) n (λ k ge lt. left k Holds))) 0 (i + 1)
      (λ n ge lt. rule11 (omega arith)) in
      record {
        nodes = a.nodes;
        tree = a.tree;
        leads = since-holds (λ n le. a.ahead n (omega arith) (omega arith));
      }
  since-leader Violated t =
      let a = try-all (λ n. node 12 0 n) (λ n. claim f (i + 1 - n) Violated ∷ run g (i + 1 - n) n Violated) t
      (λ n. also (left (i + 1 - n) Violated)
      (run-each g Violated (i + 1 - n) n (λ k ge lt. right k Violated)))
      1 (i + 1) (λ n ge lt. rule12 ge (omega arith)) in
      let b = try (rule13 refl) a.tree (run-each g Violated 0 (i + 1) (λ k ge lt. right k Violated)) in
      record {
        nodes = b.nodes;
        tree = b.tree;
        leads = since-violated (λ n some le. ahead_before b.no-worse (a.ahead n some (omega arith)))
            b.ahead;
      }

  -- A count above the cost of the tree in hand is too dear, so finitely many are left.
  until-leader : (s : Verdict) {ws : List Node} → Tree frame (claim (until f g) i s) ws
      → Leader cost frame (claim (until f g) i s)
  until-leader Holds {ws} t =
      let a = try-all (λ n. node 14 0 n) (λ n. claim g (i + n) Holds ∷ run f i n Holds) t
      (λ n. also (right (i + n) Holds) (run-each f Holds i n (λ k ge lt. left k Holds)))
      0 (cost_of cost ws) (λ n ge lt. rule14) in
      record {
        nodes = a.nodes;
        tree = a.tree;
        leads = until-holds (λ n. by_cases (dec_lt n (cost_of cost ws))
            (λ near. a.ahead n (omega arith) (omega arith))
            (λ far. ahead_before a.no-worse (dear-ahead (omega (arith, run_length f i n Holds)))));
      }
  until-leader Violated {ws} t =
      let a = try-all (λ n. node 15 0 n) (λ n. claim f (i + n - 1) Violated ∷ run g i n Violated) t
      (λ n. also (left (i + n - 1) Violated) (run-each g Violated i n (λ k ge lt. right k Violated))) 1
      (cost_of cost ws) (λ n ge lt. rule15 ge) in
      let b = try (rule16 refl) a.tree
      (run-each g Violated i (frame.count i (height Past g)) (λ k ge lt. right k Violated)) in
      record {
        nodes = b.nodes;
        tree = b.tree;
        leads = until-violated (λ n some. ahead_before b.no-worse
            (by_cases (dec_lt n (1 + cost_of cost ws)) (λ near. a.ahead n some near)
            (λ far. ahead_before a.no-worse (dear-ahead (omega (arith, run_length g i n Violated))))))
            b.ahead;
      }

module _ (cost : Cost) {frame : Frame} (law : Lawful frame)
    (decide : (f : Formula) (i : ℕ) → Dec (Meant frame.letter f i)) where
  means-decided : (f : Formula) (i : ℕ) (s : Verdict) → Dec (Means frame.letter (claim f i s))
  means-decided f i Holds = decide f i
  means-decided f i Violated = Dec.not (decide f i)

  -- absent where the meaning says so; else from the tree that is known to be there to the leader
  led : (f : Formula) (i : ℕ) (s : Verdict)
      → ((ws : List Node) → Tree frame (claim f i s) ws → Leader cost frame (claim f i s))
      → Best cost frame (claim f i s)
  led f i s lead =
      by_cases (means-decided f i s)
      (λ m. let t = complete decide (claim f i s) m in
      let l = lead t.0 t.1 in best l.nodes (own-least law l.tree (leads-all l.leads)))
      (λ n. absent (λ ws t. n (sound law t)))

  best-tree : (f : Formula) (i : ℕ) (s : Verdict) → Best cost frame (claim f i s)
  best-tree (atom a) i s = led (atom a) i s (λ ws. atom-leader a i s)
  best-tree (notᶠ f) i s = led (notᶠ f) i s (λ ws. not-leader (best-tree f) i s)
  best-tree (orᶠ f g) i s = led (orᶠ f g) i s (λ ws. or-leader (best-tree f) (best-tree g) i s)
  best-tree (andᶠ f g) i s = led (andᶠ f g) i s (λ ws. and-leader (best-tree f) (best-tree g) i s)
  best-tree (since f g) i s = led (since f g) i s (λ ws. since-leader (best-tree f) (best-tree g) i s)
  best-tree (until f g) i s = led (until f g) i s (λ ws. until-leader (best-tree f) (best-tree g) i s)

  found : (f : Formula) (i : ℕ) (s : Verdict) → Means frame.letter (claim f i s)
      → Best cost frame (claim f i s) → (ws : List Node) × Least cost frame f i ws
  found f i s m (absent n) = absurd (n _ (complete decide (claim f i s) m).1)
  found f i s m (best ws l) = (ws, for-least l)

  pub least_at : (f : Formula) (i : ℕ) → (ws : List Node) × Least cost frame f i ws
  least_at f i = by_cases (decide f i)
      (λ m. found f i Holds m (best-tree f i Holds))
      (λ n. found f i Violated n (best-tree f i Violated))

pub least-exists : (cost : Cost) {word : ℕ → ℕ} {u v : ℕ} → Repeats word u v
    → (f : Formula) (i : ℕ) → (ws : List Node) × Least cost (repeat_frame word u v) f i ws
least-exists cost w = least_at cost (repeats-lawful w) (decided w)

pub schedule-least-exists : (cost : Cost) (prefix loop : List ℕ) → 0 < length loop
    → (f : Formula) (i : ℕ) → (ws : List Node) × Least cost (schedule_frame prefix loop) f i ws
schedule-least-exists cost prefix loop some = least-exists cost (schedule-repeats prefix loop some)
