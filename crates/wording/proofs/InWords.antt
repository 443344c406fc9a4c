-- Nothing is lost in words: the least tree of a question that is not refused can be written, so trees of
-- words and trees of nodes with fields of any size are found alike, least alike and too large alike.
use Prim.Native.Nat.{ℕ, zero, suc, ◌+◌, ◌-◌, ◌*◌, ◌<◌, ◌≤◌}
use mathlib.Core.Path.{◌≡◌, refl, sym, subst, ◌∙◌}
use mathlib.Core.Logic.{◌↔◌}
use mathlib.Core.List.{List, [], ◌∷◌, map}
use native.Mathlib.Omega.{arith}
use borrow.Author.Tests.{leb-true}
use lib.ListN.{length, get_or, length-map}
use Rattle.schedule.specs.Limits.{max_words}
use Rattle.schedule.specs.Tests.{AllPass}
use Rattle.rules.specs.Formula.{Formula, atom, notᶠ, orᶠ, andᶠ, since, until}
use Rattle.rules.specs.Tables.{entry_at, build, unrolled, formula_of}
use Rattle.rules.specs.Low.{low_at}
use Rattle.rules.specs.declared.Entry.{Entry}
use Rattle.rules.specs.declared.Entry.TheVariants.{Atom, One, Two, Broken}
use Rattle.rules.specs.declared.Unary.TheVariants.{Not}
use Rattle.rules.specs.declared.Binary.TheVariants.{Or, And, Since, Until}
use Rattle.rules.proofs.Tested.{low-exact}
use Rattle.trees.specs.Nodes.{node_of}
use Rattle.trees.specs.declared.Node.{Node}
use Rattle.trees.specs.Rules.{Frame, Claim, Rule, rule1, rule2, rule3, rule4, rule5, rule6, rule7, rule8}
use Rattle.trees.specs.Rules.{rule9, rule10, rule11, rule12, rule13, rule14, rule15, rule16}
use Rattle.trees.specs.Trees.{Tree}
use Rattle.trees.specs.Least.{ones, AtOrBefore}
use Rattle.trees.specs.declared.Verdict.{Verdict}
use Rattle.trees.specs.declared.Verdict.TheVariants.{Holds, Violated}
use Rattle.trees.proofs.Needs.{formula_atom, rule-numbers}
use Rattle.trees.proofs.Forests.{tree-alone}
use Rattle.trees.proofs.Laid.{Laid, done, laid, forest-laid}
use Rattle.trees.proofs.Order.{cost-ones, at-cost, at-transitive}
use Rattle.theory.proofs.Runs.{Each, nothing, also, each_both, run-each}
use Rattle.theory.proofs.Words.{schedule-repeats}
use Rattle.theory.proofs.Horizon.{ones-level}
use Rattle.theory.proofs.Windowed.{repeats-windowed}
use Rattle.theory.proofs.LeastNodes.{EachNode, no_node, next_node}
use Rattle.theory.proofs.LeastExists.{schedule-least-exists}
use Rattle.theory.proofs.Small.{SmallNumber, least-small}
use Rattle.writing.proofs.Atoms.{atom-small}
use Rattle.writing.proofs.Words.{word-node}
use Rattle.asking.specs.Questions.{Question, question_tests, frame_in, formula_in, claim_in}
use Rattle.asking.proofs.Limits.{question-passes, question-loop}
use Rattle.finding.specs.Found.{LeastIn, AllLarge}
use Rattle.finding.proofs.OneVerdict.{question-one-verdict}

-- Words of 32 bits.
pub data EachWord : List ℕ → Type 0 where
  no_word : EachWord []
  next_word : {w : ℕ} {words : List ℕ} → w < 4294967296 → EachWord words → EachWord (w ∷ words)

-- Nodes that can be written: the words of 32 bits that they are read from.
pub record WordsOf (ws : List Node) : Type 0 where
  pub words : List ℕ
  pub narrow : EachWord words
  pub is : ws ≡ map node_of words

-- The least tree among those that are given by words.
pub record LeastWords (q : Question) (words : List ℕ) : Type 0 where
  pub verdict : Verdict
  pub valid : Tree (frame_in q) (claim_in q verdict) (map node_of words)
  pub least : (s : Verdict) (others : List ℕ) → Tree (frame_in q) (claim_in q s) (map node_of others)
      → AtOrBefore ones (map node_of words) (map node_of others)

laid-narrow : {frame : Frame} {cs : List Claim} (words : List ℕ) → Laid frame cs (map node_of words)
    → EachWord words
laid-narrow [] l = no_word
laid-narrow (w ∷ words) (laid r l) =
    next_word {w = w} (omega (arith, (rule-numbers r).high)) (laid-narrow words l)

-- Words that are a valid tree have 32 bits each, so nothing is said here of others.
pub tree-narrow : {frame : Frame} {c : Claim} (words : List ℕ) → Tree frame c (map node_of words)
    → EachWord words
tree-narrow words t = laid-narrow words (forest-laid (tree-alone t))

-- A table's atoms are below 32, so those of its formulas are.
abbrev LowAtoms : Formula → Type 0
LowAtoms (atom a) = a < 32
LowAtoms (notᶠ f) = LowAtoms f
LowAtoms (orᶠ f g) = LowAtoms f × LowAtoms g
LowAtoms (andᶠ f g) = LowAtoms f × LowAtoms g
LowAtoms (since f g) = LowAtoms f × LowAtoms g
LowAtoms (until f g) = LowAtoms f × LowAtoms g

build-atoms : (part : ℕ → Formula) → ((p : ℕ) → LowAtoms (part p)) → (x : Entry)
    → formula_atom (build part x) < 32 → LowAtoms (build part x)
build-atoms part low (Atom a) lt = lt
build-atoms part low (One Not l) lt = low l
build-atoms part low (Two Or l r) lt = (low l, low r)
build-atoms part low (Two And l r) lt = (low l, low r)
build-atoms part low (Two Since l r) lt = (low l, low r)
build-atoms part low (Two Until l r) lt = (low l, low r)
build-atoms part low Broken lt = lt

unrolled-atoms : (n : ℕ) (table : List ℕ) (e : ℕ) → LowAtoms (unrolled n table e)
unrolled-atoms zero table e = omega arith
unrolled-atoms (suc n) table e =
    build-atoms (unrolled n table) (unrolled-atoms n table) (entry_at table e)
    (atom-small e (get_or table e 0) (unrolled n table))

formula-atoms : (table : List ℕ) (e : ℕ) → LowAtoms (formula_of table e)
unfolding formula_of
formula-atoms table e = unrolled-atoms (suc e) table e

-- what a claim's formula has, the formulas of its parts have
abbrev Low : Claim → Type 0
Low c = LowAtoms c.formula

rule-atoms : {frame : Frame} {c : Claim} {x : Node} {needs : List Claim} → Rule frame c x needs → Low c
    → Each Low needs
rule-atoms (rule1 h) low = nothing
rule-atoms (rule2 h) low = nothing
rule-atoms rule3 low = also low nothing
rule-atoms rule4 low = also low nothing
rule-atoms rule5 low = also low.0 nothing
rule-atoms rule6 low = also low.1 nothing
rule-atoms rule7 low = also low.0 (also low.1 nothing)
rule-atoms rule8 low = also low.0 (also low.1 nothing)
rule-atoms rule9 low = also low.0 nothing
rule-atoms rule10 low = also low.1 nothing
rule-atoms (rule11 {f} {i = i} {n} le) low =
    also low.1 (run-each f Holds (i - n + 1) n (λ k ge lt. low.0))
rule-atoms (rule12 {g = g} {i} {n} some le) low =
    also low.0 (run-each g Violated (i + 1 - n) n (λ k ge lt. low.1))
rule-atoms (rule13 {g = g} {n = n} e) low = run-each g Violated 0 n (λ k ge lt. low.1)
rule-atoms (rule14 {f} {i = i} {n}) low = also low.1 (run-each f Holds i n (λ k ge lt. low.0))
rule-atoms (rule15 {g = g} {i} {n} some) low =
    also low.0 (run-each g Violated i n (λ k ge lt. low.1))
rule-atoms (rule16 {g = g} {i} {n} e) low = run-each g Violated i n (λ k ge lt. low.1)

named_small : (f : Formula) → LowAtoms f → formula_atom f < 32
named_small (atom a) low = low
named_small (notᶠ f) low = omega arith
named_small (orᶠ f g) low = omega arith
named_small (andᶠ f g) low = omega arith
named_small (since f g) low = omega arith
named_small (until f g) low = omega arith

-- the nodes of a valid tree, whose numbers are small, word by word
laid-words : {frame : Frame} {cs : List Claim} {ws : List Node} → Laid frame cs ws → Each Low cs
    → EachNode SmallNumber ws → WordsOf ws
laid-words done nothing no_node = record { words = []; narrow = no_word; is = refl }
laid-words (laid {c} {x = x} r l) (also low lows) (next_node n ns) =
    let rest = laid-words l (each_both (rule-atoms r low) lows) ns in
    let numbers = rule-numbers r in
    let rule : x.rule ≤ 16 = numbers.high in
    let small : x.atom < 32 = omega (arith, numbers.named, named_small c.formula low) in
    let word = x.rule * 16777216 + x.atom * 65536 + x.number in
    let same = word-node x.rule x.atom x.number (omega (arith, rule)) (omega (arith, small))
    (omega (arith, n.small)) in
    record {
      words = word ∷ rest.words;
      narrow = next_word {w = word} (omega (arith, rule, small, n.small)) rest.narrow;
      is = λ k. sym same k ∷ rest.is k;
    }

module _ (q : Question) (passed : AllPass (question_tests q)) where
  -- The least tree can be written, however long it is: no field of it needs more than a word has.
  pub least-worded : {ws : List Node} → LeastIn q ws → WordsOf ws
  unfolding low_at
  least-worded l =
      let p = question-passes q passed in
      let low = leb-true _ _ ((low-exact q.table).0 p.low q.entry p.inside) in
      laid-words (forest-laid (tree-alone l.valid)) (also (formula-atoms q.table q.entry) nothing)
      (least-small (repeats-windowed 256 (schedule-repeats q.prefix q.loop p.loop))
      p.letters (omega (arith, p.letters)) (omega arith) ones-level l
      (record { low = low; near = omega (arith, p.near) }))

  -- the least tree, in words
  record LeastHere : Type 0 where
    words : List ℕ
    narrow : EachWord words
    tree : LeastIn q (map node_of words)

  least-here : LeastHere
  least-here =
      let l = schedule-least-exists ones q.prefix q.loop (question-loop q passed)
      (formula_in q) q.position in
      let w = least-worded l.1 in
      record { words = w.words; narrow = w.narrow; tree = subst (LeastIn q) w.is l.1 }

  here-shortest : {s : Verdict} {ws : List Node} → Tree (frame_in q) (claim_in q s) ws
      → length least-here.words ≤ length ws
  here-shortest {s} {ws} t =
      omega (
        arith,
        at-cost (least-here.tree.least s ws t),
        cost-ones ws,
        cost-ones (map node_of least-here.words),
        length-map least-here.words node_of,
      )

  -- A valid tree of a verdict, of at most so many nodes, exists in words exactly if one exists in nodes.
  pub words-exist : (v : Verdict) (n : ℕ)
      → ((words : List ℕ) × EachWord words × Tree (frame_in q) (claim_in q v) (map node_of words)
      × (length words ≤ n))
      ↔ ((ws : List Node) × Tree (frame_in q) (claim_in q v) ws × (length ws ≤ n))
  words-exist v n = (
    λ x. (map node_of x.0, x.2, omega (arith, length-map x.0 node_of, x.3)),
    λ x. let one = question-one-verdict q passed in
        let here = least-here in
        let same : here.tree.verdict ≡ v
        = one.every here.tree.verdict (map node_of here.words) here.tree.valid
        ∙ sym (one.every v x.0 x.1) in (
          here.words,
          here.narrow,
          subst (λ s. Tree (frame_in q) (claim_in q s) (map node_of here.words)) same here.tree.valid,
          omega (arith, here-shortest x.1, x.2),
        ),
  )

  -- Words are the least tree among words exactly if they are the least among all.
  pub words-least : (words : List ℕ) → LeastWords q words ↔ LeastIn q (map node_of words)
  words-least words = (
    λ l. record {
      verdict = l.verdict;
      valid = l.valid;
      least = λ s vs t. let here = least-here in
          at-transitive (l.least here.tree.verdict here.words here.tree.valid)
          (here.tree.least s vs t);
    },
    λ l. record {
      verdict = l.verdict;
      valid = l.valid;
      least = λ s others t. l.least s (map node_of others) t;
    },
  )

  -- Every valid tree has more than 4,095 nodes exactly if every one in words has.
  pub words-large : AllLarge q
      ↔ ((s : Verdict) (words : List ℕ) → Tree (frame_in q) (claim_in q s) (map node_of words)
      → max_words < length words)
  words-large = (
    λ a s words t. omega (arith, a.large s (map node_of words) t, length-map words node_of),
    λ all. record {
      large = λ s ws t. omega (
        arith,
        all least-here.tree.verdict least-here.words least-here.tree.valid,
        here-shortest t,
      );
    },
  )
