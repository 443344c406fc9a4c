-- How a walk goes on: what stands behind it is a forest for the claims passed, and where a part breaks off,
-- so does the whole, and no tree stands.
use mathlib.Core.Path.{◌≡◌, sym, ap, subst, ◌∙◌}
use mathlib.Core.List.{List, [], ◌∷◌, ◌++◌, append_assoc}
use Prim.Native.Nat.{ℕ, suc, ◌+◌, ◌-◌, ◌<◌, ◌≤◌}
use native.Mathlib.Numerals.{add-one}
use native.Mathlib.Omega.{arith}
use Rattle.std.specs.Prelude.{Ok, Err}
use lib.ListN.{length, get_or, take, drop, length-append, length-drop, take-append-drop, drop_of_length-le}
use lib.Seq.{slice, slice_empty, slice-cons, length-slice, take-take, take-suc, take-add, take_all}
use lib.Seq.{take-append_seam, length-take-le, drop-cons, drop_at, drop-append-le, split_at}
use Rattle.trees.specs.declared.Node.{Node}
use Rattle.trees.specs.Rules.{Frame, Claim, Rule}
use Rattle.trees.specs.Trees.{Tree, grown, Forest, none, more}
use Rattle.trees.specs.Place.{Breaks, wrong, missing, later}
use Rattle.trees.specs.Place
use Rattle.walks.specs.inside.Walks.{Walks}
use Rattle.walks.specs.declared.Broken.{Broken}
use Rattle.trees.proofs.Needs.{needs-one}
use Rattle.trees.proofs.Forests.{tree-some, forest-append, tree-alone, Parted, forest-parts}
use Rattle.trees.proofs.Places.{breaks-after}
use Rattle.trees.proofs.Beginnings.{forest-rest}

module _ {A : Type 0} (l : List A) (f g : ℕ) (fg : f ≤ g) (in-it : g ≤ length l) where
  slice-append : (t : ℕ) → g ≤ t → slice f g l ++ slice g t l ≡ slice f t l
  slice-append t gt =
      sym (
      ap (drop f) (sym (take-append-drop g (take t l)) ∙ ap (λ k. k ++ slice g t l) (take-take g t l gt))
      ∙ drop-append-le f (take g l) (slice g t l) (rw (length-take-le g l in-it) fg)
      )

  pub slice-drop : slice f g l ++ drop g l ≡ drop f l
  slice-drop =
      sym (ap (drop f) (sym (take-append-drop g l))
      ∙ drop-append-le f (take g l) (drop g l) (rw (length-take-le g l in-it) fg))

-- what begins the rest of a list from a place on is a slice of the list
module _ {A : Type 0} (l : List A) (f : ℕ) (in-it : f ≤ length l) (us vs : List A)
    (e : drop f l ≡ us ++ vs) where
  slice-begins : slice f (f + length us) l ≡ us
  slice-begins =
      ap (drop f) (take-add f (length us) l)
      ∙ drop_at (take f l) (take (length us) (drop f l)) f (length-take-le f l in-it)
      ∙ ap (take (length us)) e
      ∙ take-append_seam us vs

  begins-inside : f + length us ≤ length l
  begins-inside = omega (arith, length-drop f l, ap length e, length-append us vs)

module _ {frame : Frame} {c : Claim} where
  -- the parts of a tree are a forest for whatever a rule needs that makes its root prove the claim
  tree-parts : {x : Node} {needs : List Claim} {ws : List Node} → Rule frame c x needs → Tree frame c (x ∷ ws)
      → Forest frame needs ws
  tree-parts r (grown s fs) = rw (needs-one r s) fs

  root-right : {x : Node} {ws : List Node} → Tree frame c (x ∷ ws) → ¬ Place.NoRule frame c x
  root-right (grown r fs) n = n _ r

  -- where no tree for the first claim begins the words, no forest does, whatever follows them
  first-missing : {cs : List Claim} {ws : List Node} (after : List Node)
      → ((us vs : List Node) → ws ++ after ≡ us ++ vs → ¬ Tree frame c us) → ¬ Forest frame (c ∷ cs) ws
  first-missing after n (more {ws = us} {vs} t fs) = n us (vs ++ after) (append_assoc us vs after) t

module _ (frame : Frame) (c : Claim) (nodes : List Node) (at : ℕ) where
  -- a tree has a node, so it ends behind the place where it begins
  tree-ends : (k : ℕ) → k ≤ length nodes → Tree frame c (slice at k nodes) → at < k
  tree-ends k le t = omega (arith, tree-some t, length-slice at k nodes le)

  -- where the walk breaks off, no tree begins the words that are left
  bad-begins : (q : Broken) → at ≤ length nodes → Walks frame c nodes at (Err q)
      → (us vs : List Node) → drop at nodes ≡ us ++ vs → ¬ Tree frame c us
  bad-begins q le w us vs e t =
      w.3 (at + length us) (begins-inside nodes at le us vs e)
      (subst (Tree frame c) (sym (slice-begins nodes at le us vs e)) t)

-- From the node at a place on the walk has passed the first m claims of its parts, and stands at next.
pub record PassedParts (frame : Frame) (nodes : List Node) (at : ℕ) (claims : List Claim)
    (next m : ℕ) : Type 0 where
  pub after : at < next
  pub inside : next ≤ length nodes
  pub behind : Forest frame (take m claims) (slice (suc at) next nodes)

module _ (frame : Frame) (c : Claim) (nodes : List Node) (at : ℕ) where
  pub walk-missing : at ≤ length nodes → length nodes ≤ at
      → Walks frame c nodes at (Err (record { place = at }))
  walk-missing le ge = (
    omega arith,
    le,
    λ rest. subst (λ p. Breaks frame (c ∷ rest) (drop at nodes) p) (omega arith)
        (subst (λ ws. Breaks frame (c ∷ rest) ws 0) (sym (drop_of_length-le nodes ge)) missing),
    λ k in-it t. omega (arith, tree-ends frame c nodes at k in-it t),
  )

  module _ (z : Node) (lt : at < length nodes) where
    -- the root of a tree is the node at the place where it begins
    rooted : (k : ℕ) → k ≤ length nodes → Tree frame c (slice at k nodes)
        → Tree frame c (get_or nodes at z ∷ slice (suc at) k nodes)
    rooted k in-it t =
        subst (Tree frame c) (slice-cons at k nodes z (tree-ends frame c nodes at k in-it t) in-it) t

    pub walk-wrong : Place.NoRule frame c (get_or nodes at z)
        → Walks frame c nodes at (Err (record { place = at }))
    walk-wrong n = (
      omega arith,
      omega arith,
      λ rest. subst (λ p. Breaks frame (c ∷ rest) (drop at nodes) p) (omega arith)
          (subst (λ ws. Breaks frame (c ∷ rest) ws 0) (sym (drop-cons nodes at z lt)) (wrong n)),
      λ k in-it t. root-right (rooted k in-it t) n,
    )

    pub passed_none : (claims : List Claim) → PassedParts frame nodes at claims (at + 1) 0
    passed_none claims = record {
      after = omega arith;
      inside = omega arith;
      behind = subst (Forest frame [])
          (sym (slice_empty (suc at) nodes) ∙ ap (λ k. slice (suc at) k nodes) (sym (add-one at))) none;
    }

    module _ (claims : List Claim) (next m : ℕ) (p : PassedParts frame nodes at claims next m) (y : Claim)
        (short : m < length claims) where
      pub passed-more : (k : ℕ) → Walks frame (get_or claims m y) nodes next (Ok k)
          → PassedParts frame nodes at claims k (m + 1)
      passed-more k w = record {
        after = omega (arith, p.after, w.0);
        inside = w.1;
        behind = subst (λ cs. Forest frame cs (slice (suc at) k nodes))
            (sym (take-suc claims m y short) ∙ ap (λ n. take n claims) (sym (add-one m)))
            (subst (Forest frame (take m claims ++ get_or claims m y ∷ []))
            (slice-append nodes (suc at) next p.after p.inside k (omega (arith, w.0)))
            (forest-append p.behind (tree-alone w.2)));
      }

      -- The parts of a tree for the whole claim begin with the forest passed, so the tree of the next part
      -- would begin where its walk breaks off.
      part-missing : (q : Broken) → Rule frame c (get_or nodes at z) claims
          → Walks frame (get_or claims m y) nodes next (Err q) → (k : ℕ) → k ≤ length nodes
          → ¬ Tree frame c (slice at k nodes)
      part-missing q r w k in-it t =
          first-missing (drop k nodes)
          (λ us vs e. bad-begins frame (get_or claims m y) nodes next q p.inside w us vs (left ∙ e))
          parts.second
        where
          parts : Parted frame (take m claims) (get_or claims m y ∷ drop (suc m) claims)
              (slice (suc at) k nodes)
          parts =
              forest-parts (take m claims)
              (subst (λ cs. Forest frame cs (slice (suc at) k nodes)) (split_at claims m y short)
              (tree-parts r (rooted k in-it t)))

          whole : slice (suc at) next nodes ++ drop next nodes
              ≡ parts.before ++ (parts.after ++ drop k nodes)
          whole =
              slice-drop nodes (suc at) next p.after p.inside
              ∙ sym (slice-drop nodes (suc at) k (tree-ends frame c nodes at k in-it t) in-it)
              ∙ ap (λ ws. ws ++ drop k nodes) parts.whole
              ∙ append_assoc parts.before parts.after (drop k nodes)

          left : drop next nodes ≡ parts.after ++ drop k nodes
          left = forest-rest p.behind parts.first (drop next nodes) (parts.after ++ drop k nodes) whole

      pub walk-bad : (q : Broken) → Rule frame c (get_or nodes at z) claims
          → Walks frame (get_or claims m y) nodes next (Err q) → Walks frame c nodes at (Err q)
      walk-bad q r w = (
        omega (arith, p.after, w.0),
        w.1,
        λ rest. subst (λ ws. Breaks frame (c ∷ rest) ws (q.place - at)) (sym (drop-cons nodes at z lt))
            (subst (Breaks frame (c ∷ rest) (get_or nodes at z ∷ drop (suc at) nodes)) (place rest)
            (later r
            (subst
            (λ cs. Breaks frame cs (drop (suc at) nodes)
            (length (slice (suc at) next nodes) + (q.place - next)))
            (claimed rest)
            (subst (λ ws. Breaks frame (take m claims ++ (get_or claims m y ∷ (drop (suc m) claims ++ rest)))
            ws
            (length (slice (suc at) next nodes) + (q.place - next)))
            (slice-drop nodes (suc at) next p.after p.inside)
            (breaks-after p.behind (w.2 (drop (suc m) claims ++ rest))))))),
        part-missing q r w,
      )
        where
          place : (rest : List Claim)
              → suc (length (slice (suc at) next nodes) + (q.place - next)) ≡ q.place - at
          place rest = omega (arith, length-slice (suc at) next nodes p.inside, p.after, w.0)

          claimed : (rest : List Claim)
              → take m claims ++ (get_or claims m y ∷ (drop (suc m) claims ++ rest)) ≡ claims ++ rest
          claimed rest =
              sym (append_assoc (take m claims) (get_or claims m y ∷ drop (suc m) claims) rest)
              ∙ ap (λ cs. cs ++ rest)
              (ap (λ ds. take m claims ++ ds) (sym (drop-cons claims m y short)) ∙ take-append-drop m claims)

    pub walk-done : (claims : List Claim) (next m : ℕ) → PassedParts frame nodes at claims next m
        → length claims ≤ m → Rule frame c (get_or nodes at z) claims → Walks frame c nodes at (Ok next)
    walk-done claims next m p all r = (
      p.after,
      p.inside,
      subst (Tree frame c) (sym (slice-cons at next nodes z p.after p.inside))
          (grown r
          (subst (λ cs. Forest frame cs (slice (suc at) next nodes)) (take_all m claims all) p.behind)),
    )
