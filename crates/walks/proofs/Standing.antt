-- Where the walk stands in the words of a tree: at a word that is missing or wrong, at a leaf, or behind the
-- first parts of a node that a rule fits.
use mathlib.Core.Path.{◌≡◌, sym, ap, subst, ◌∙◌}
use mathlib.Core.Bool.{Bool, true, false}
use mathlib.Core.List.{List, []}
use Prim.Native.Nat.{ℕ, ◌+◌, ◌/◌, ◌%◌, ◌^◌, ◌<◌, ◌≤◌}
use native.Mathlib.Omega.{arith}
use Rattle.std.specs.Prelude.{map, Result, Ok, Err}
use lib.ListN.{length, get_or, length-map, get_or-map}
use Rattle.rules.specs.Tables.{entry_at, formula_of}
use Rattle.rules.specs.declared.Entry.{Entry}
use Rattle.trees.specs.Nodes.{node_of}
use Rattle.trees.specs.declared.Node.{Node}
use Rattle.trees.specs.Rules.{Frame, Claim, claim, Rule}
use Rattle.trees.specs.Frames.{schedule_frame}
use Rattle.trees.specs.declared.Verdict.{Verdict}
use Rattle.nodes.specs.inside.Demands.{claims_of, part_of, Countable, demands_of, Asks}
use Rattle.nodes.specs.inside.Tested.{Within, Tested}
use Rattle.nodes.specs.declared.Demands.{Demands}
use Rattle.nodes.specs.declared.Part.{Part}
use Rattle.walks.specs.inside.Walks.{Walks}
use Rattle.walks.specs.declared.Broken.{Broken}
use Rattle.trees.proofs.Shapes.{leaf-needs}
use Rattle.nodes.proofs.Judged.{tested-rule, tested-wrong}
use Rattle.nodes.proofs.JudgedNodes.{rule-asks, rule-countable}
use Rattle.nodes.proofs.Claims.{claims-length, claims-at, part-within}
use Rattle.walks.proofs.Walked.{PassedParts, walk-missing, walk-wrong, passed_none, passed-more}
use Rattle.walks.proofs.Walked.{walk-bad, walk-done}

there : (tree : List ℕ) (place : ℕ) → place < length tree → place < length (map node_of tree)
there tree place lt = omega (arith, length-map tree node_of)

-- the node of the word at the place is that among the others
node-is : (tree : List ℕ) (place word : ℕ) → word ≡ get_or tree place 0
    → node_of word ≡ get_or (map node_of tree) place (node_of 0)
node-is tree place word is = ap node_of is ∙ sym (get_or-map node_of tree place 0)

module _ (tree : List ℕ) (place : ℕ) (frame : Frame) (c : Claim) where
  pub missing-word : place ≤ length tree → length tree ≤ place
      → Walks frame c (map node_of tree) place (Err (record { place = place }))
  missing-word le ge =
      walk-missing frame c (map node_of tree) place (omega (arith, length-map tree node_of))
      (omega (arith, length-map tree node_of))

  module _ (lt : place < length tree) {word : ℕ} (is : word ≡ get_or tree place 0) {b : Bool}
      (tested : Tested frame c (node_of word) b) where
    pub wrong-node : b ≡ false → Walks frame c (map node_of tree) place (Err (record { place = place }))
    wrong-node e =
        walk-wrong frame c (map node_of tree) place (node_of 0) (there tree place lt)
        (λ needs r. tested-wrong e tested needs
        (subst (λ x. Rule frame c x needs) (sym (node-is tree place word is)) r))

    -- a node of rules 1 and 2 is a tree
    pub leaf : b ≡ true → word / 16777216 < 3 → Walks frame c (map node_of tree) place (Ok (place + 1))
    leaf e low =
        let fitting = tested-rule e tested in
        walk-done frame c (map node_of tree) place (node_of 0) (there tree place lt) [] (place + 1) 0
        (passed_none frame c (map node_of tree) place (node_of 0) (there tree place lt) []) (omega arith)
        (subst (λ x. Rule frame c x []) (node-is tree place word is)
        (subst (Rule frame c (node_of word)) (leaf-needs fitting.1 low) fitting.1))

-- A node of the tree that a rule fits asks for its parts, and the walk has passed the first m of them.
pub record Standing (frame : Frame) (table : List ℕ) (entry position : ℕ) (needed : Verdict)
    (nodes : List Node)
    (place : ℕ) (demands : Demands) (next m : ℕ) : Type 0 where
  pub node : place < length nodes
  pub asks : Asks frame table entry position needed (get_or nodes place (node_of 0)) demands
  pub passed : PassedParts frame nodes place (claims_of table demands) next m

-- what a node that a rule fits asks of its parts
module _ (prefix loop table : List ℕ) (entry position : ℕ) (needed : Verdict) (word : ℕ) {b : Bool}
    (e : b ≡ true)
    (tested : Tested (schedule_frame prefix loop) (claim (formula_of table entry) position needed)
    (node_of word) b)
    (rule : ℕ) (is : rule ≡ word / 16777216) (number : ℕ) (num : number ≡ word % 65536) (low : 3 ≤ rule) where
  pub may-be-counted : position < 2 ^ 40 → Countable rule position number
  may-be-counted reach =
      let fitting = tested-rule e tested in
      subst (Countable rule position) (sym num)
      (subst (λ k. Countable k position (word % 65536)) (sym is)
      (rule-countable prefix loop table entry position needed (node_of word) fitting.0 fitting.1
      (omega arith) (omega arith) reach))

  pub asked : (here : Entry) (demands : Demands) → here ≡ entry_at table entry
      → demands ≡ demands_of here position needed rule number
      → Asks (schedule_frame prefix loop) table entry position needed (node_of word) demands
  asked here demands h d =
      let fitting = tested-rule e tested in
      subst (Asks (schedule_frame prefix loop) table entry position needed (node_of word))
      (sym (d ∙ (λ j. demands_of (h j) position needed (is j) (num j))))
      (rule-asks prefix loop table entry position needed (node_of word) fitting.0 fitting.1
      (omega arith) (omega arith))

pub standing : {frame : Frame} {table : List ℕ} {entry position : ℕ} {needed : Verdict} {demands : Demands}
    (tree : List ℕ) (place : ℕ) {word : ℕ} → place < length tree → word ≡ get_or tree place 0
    → Asks frame table entry position needed (node_of word) demands
    → Standing frame table entry position needed (map node_of tree) place demands (place + 1) 0
standing {frame} {table} {entry} {position} {needed} {demands} tree place {word} lt is ask = record {
  node = there tree place lt;
  asks = subst (λ x. Asks frame table entry position needed x demands) (node-is tree place word is) ask;
  passed = passed_none frame (claim (formula_of table entry) position needed) (map node_of tree) place
      (node_of 0) (there tree place lt) (claims_of table demands);
}

module _ {frame : Frame} {table : List ℕ} {entry position : ℕ} {needed : Verdict} {nodes : List Node}
    {place : ℕ} {demands : Demands} {next m : ℕ}
    (st : Standing frame table entry position needed nodes place demands next m) where
  abbrev whole : Claim
  whole = claim (formula_of table entry) position needed

  abbrev parts : List Claim
  parts = claims_of table demands

  pub all-passed : demands.fixed + demands.count ≤ m → Walks frame whole nodes place (Ok next)
  all-passed all =
      walk-done frame whole nodes place (node_of 0) st.node parts next m st.passed
      (omega (arith, claims-length table demands)) st.asks.rule

  module _ (short : m < demands.fixed + demands.count) (part : Part) (is : part ≡ part_of demands m) where
    pub within-reach : {u v : ℕ} → Within u v entry position
        → (part.entry < entry) × Within u v part.entry part.position
    within-reach {u} {v} w =
        subst (λ q. (q.entry < entry) × Within u v q.entry q.position) (sym is)
        (part-within u v entry position demands m w st.asks.near short)

    not-last : m < length parts
    not-last = omega (arith, claims-length table demands)

    -- the call walked the claim of the part at its place
    walked : (r : Result ℕ Broken)
        → Walks frame (claim (formula_of table part.entry) part.position demands.verdict) nodes next r
        → Walks frame (get_or parts m whole) nodes next r
    walked r w =
        subst (λ c. Walks frame c nodes next r)
        (ap (λ q. claim (formula_of table q.entry) q.position demands.verdict) is
        ∙ sym (claims-at table demands m whole st.asks.near.one short))
        w

    pub broken : (e : Broken)
        → Walks frame (claim (formula_of table part.entry) part.position demands.verdict) nodes next (Err e)
        → Walks frame whole nodes place (Err e)
    broken e w =
        walk-bad frame whole nodes place (node_of 0) st.node parts next m st.passed whole not-last e
        st.asks.rule (walked (Err e) w)

    pub passed-part : (k : ℕ)
        → Walks frame (claim (formula_of table part.entry) part.position demands.verdict) nodes next (Ok k)
        → Standing frame table entry position needed nodes place demands k (m + 1)
    passed-part k w = record {
      node = st.node;
      asks = st.asks;
      passed = passed-more frame whole nodes place (node_of 0) st.node parts next m st.passed whole not-last k
          (walked (Ok k) w);
    }
