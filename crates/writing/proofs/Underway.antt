-- How a tree is written: its root, and then part after part, each the least tree of its claim.
use Prim.Native.Nat.{ℕ, suc, ◌+◌, ◌<◌, ◌≤◌}
use mathlib.Core.Path.{◌≡◌, refl, sym, ap, subst, ◌∙◌}
use mathlib.Core.List.{List, [], ◌∷◌, ◌++◌, map, append-nil, append_assoc}
use native.Mathlib.Numerals.{add-one}
use native.Mathlib.Omega.{arith}
use lib.ListN.{length, get_or, drop, set, length-append, length-map, length-set, drop_of_length-le}
use lib.Seq.{drop-cons}
use Rattle.std.proofs.lemmas.List.{map-append}
use Rattle.rules.specs.Formula.{Formula}
use Rattle.trees.specs.Nodes.{node_of}
use Rattle.trees.specs.declared.Node.{Node}
use Rattle.trees.specs.Rules.{Frame, Claim}
use Rattle.trees.specs.Least.{Cost, cost_of, Least}
use Rattle.trees.proofs.Order.{cost-append, least-one}
use Rattle.theory.specs.inside.LeastForests.{LeastFor, LeastForest, no_least, next_least}
use Rattle.theory.proofs.LeastForests.{for-least}
use Rattle.schedule.specs.Buffers.{put}
use Rattle.writing.specs.inside.Writes.{Writes}
use Rattle.schedule.proofs.Buffers.{put-none, put_one, put-length, put-put}

-- Of the whole below a root a part stands from a place on, up to the next:
-- what is left are the least trees of the claims from m on.
pub record Underway (cost : Cost) (frame : Frame) (claims : List Claim) (whole : List Node) (at : ℕ)
    (found tree : List ℕ) (next m : ℕ) : Type 0 where
  pub words : List ℕ
  pub rest : List Node
  pub joined : map node_of words ++ rest ≡ whole
  pub parts : LeastForest cost frame (drop m claims) rest
  pub ends : next ≡ at + length words
  pub leaves : tree ≡ put at words found
  pub inside : at + length whole ≤ length found

forest-none : {cost : Cost} {frame : Frame} {cs : List Claim} {ws : List Node} → cs ≡ []
    → LeastForest cost frame cs ws → ws ≡ []
forest-none e no_least = refl
forest-none e (next_least {c} {cs} l ls) = absurd (cons-not-nil e) where
  cons-not-nil : c ∷ cs ≡ [] → ⊥
  cons-not-nil p = omega (arith, ap length p)

-- the least tree of the next claim, and the others
pub record NextPart (cost : Cost) (frame : Frame) (c : Claim) (cs : List Claim)
    (ws : List Node) : Type 0 where
  pub first : List Node
  pub others : List Node
  pub least : LeastFor cost frame c first
  pub parts : LeastForest cost frame cs others
  pub is : ws ≡ first ++ others

next-part : {cost : Cost} {frame : Frame} {c : Claim} {cs : List Claim} {ws : List Node}
    → LeastForest cost frame (c ∷ cs) ws → NextPart cost frame c cs ws
next-part (next_least {ws} {vs} l ls) = record { first = ws; others = vs; least = l; parts = ls; is = refl }

module _ {cost : Cost} {frame : Frame} {claims : List Claim} {whole : List Node} {at : ℕ}
    {found tree : List ℕ} {next m : ℕ} (a : Underway cost frame claims whole at found tree next m) where
  -- how much is written and left
  pub underway-sum : length a.words + length a.rest ≡ length whole
  underway-sum = omega (
    arith,
    ap length a.joined,
    length-append (map node_of a.words) a.rest,
    length-map a.words node_of,
  )

  pub underway-cost : cost_of cost (map node_of a.words) + cost_of cost a.rest ≡ cost_of cost whole
  underway-cost =
      omega (arith, ap (cost_of cost) a.joined, cost-append cost (map node_of a.words) a.rest)

  pub underway-length : length tree ≡ length found
  underway-length =
      ap length a.leaves ∙ put-length at a.words found (omega (arith, underway-sum, a.inside))

  pub underway-next : (z : Claim) → m < length claims
      → NextPart cost frame (get_or claims m z) (drop (suc m) claims) a.rest
  underway-next z lt =
      next-part (subst (λ cs. LeastForest cost frame cs a.rest) (drop-cons claims m z lt) a.parts)

  pub underway-more : (z : Claim) → m < length claims → (c : Claim) → c ≡ get_or claims m z
      → {left : List ℕ} {r : ℕ} → Writes cost frame c.formula c.position next tree left r
      → Underway cost frame claims whole at found left r (m + 1)
  underway-more z lt c e b =
      let n = underway-next z lt in
      let same : n.first ≡ map node_of b.words
      = least-one (for-least (subst (λ x. LeastFor cost frame x n.first) (sym e) n.least)) b.least in
      record {
        words = a.words ++ b.words;
        rest = n.others;
        joined = ap (λ l. l ++ n.others) (map-append node_of a.words b.words)
            ∙ append_assoc (map node_of a.words) (map node_of b.words) n.others
            ∙ ap (λ l. map node_of a.words ++ l) (ap (λ l. l ++ n.others) (sym same) ∙ sym n.is)
            ∙ a.joined;
        parts = subst (λ k. LeastForest cost frame (drop k claims) n.others) (sym (add-one m)) n.parts;
        ends = omega (arith, a.ends, b.ends, length-append a.words b.words);
        leaves = b.leaves ∙ ap (λ t. put next b.words t) a.leaves
            ∙ ap (λ k. put k b.words (put at a.words found)) a.ends
            ∙ put-put at a.words found (omega (arith, underway-sum, a.inside)) b.words;
        inside = a.inside;
      }

  -- with the root before them the parts are the whole tree
  pub underway-done : length claims ≤ m → {f : Formula} {i : ℕ} (begin w : ℕ) (empty : List ℕ)
      → found ≡ set empty begin w → at ≡ begin + 1 → Least cost frame f i (node_of w ∷ whole)
      → Writes cost frame f i begin empty tree next
  underway-done all {f} {i} begin w empty store from l =
      let none = forest-none (drop_of_length-le claims all) a.parts in
      let same : map node_of a.words ≡ whole
      = sym (append-nil (map node_of a.words)) ∙ ap (λ l. map node_of a.words ++ l) (sym none)
      ∙ a.joined in
      let long : length found ≡ length empty = ap length store ∙ length-set empty begin w in
      let room : begin < length empty = omega (arith, a.inside, from, long) in
      record {
        words = w ∷ a.words;
        least = subst (λ ws. Least cost frame f i (node_of w ∷ ws)) (sym same) l;
        ends = omega (arith, a.ends, from);
        inside = omega (arith, a.ends, underway-sum, a.inside, long);
        leaves = a.leaves ∙ ap (λ t. put at a.words t) (store ∙ put_one begin w empty room)
            ∙ ap (λ k. put k a.words (put begin (w ∷ []) empty)) from
            ∙ put-put begin (w ∷ []) empty (omega (arith, room)) a.words;
      }

pub underway-none : {cost : Cost} {frame : Frame} {claims : List Claim} {whole : List Node} (at : ℕ)
    (found : List ℕ) → at + length whole ≤ length found → LeastForest cost frame claims whole
    → Underway cost frame claims whole at found found at 0
underway-none {whole = whole} at found room ls = record {
  words = [];
  rest = whole;
  joined = refl;
  parts = ls;
  ends = omega arith;
  leaves = put-none at found;
  inside = room;
}
