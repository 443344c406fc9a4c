-- The starred measured examples as one list, and what each of its rows promises.
use Rattle.std.specs.Prelude.{ℕ, ◌≡◌, List, [], ◌∷◌, length}
use Rattle.trees.specs.declared.Node.{Node}
use Rattle.trees.specs.declared.Verdict.{Verdict}
use Rattle.trees.specs.declared.Verdict.TheVariants.{Holds, Violated}
use Rattle.trees.specs.Means.{Means}
use Rattle.asking.specs.Questions.{Question, question, word_in, claim_in}
use Rattle.finding.specs.Found.{LeastIn}
use Rattle.rules.specs.Words.{entry_word}

-- What is asked, and the verdict and the size of the least tree that were measured.
pub record Row : Type 0 where
  pub asked : Question
  pub verdict : Verdict
  pub size : ℕ

-- 0 atom 1; 1 atom 0; 2 = 1 until 0; 3 = not 2; 4 = 0 since 1; 5 atom 2;
-- 6 = 5 until 4; 7 atom 3; 8 = 0 until 7
abbrev pub table_a : List ℕ
table_a =
    entry_word 0 1 0
    ∷ entry_word 0 0 0
    ∷ entry_word 5 1 0
    ∷ entry_word 1 2 0
    ∷ entry_word 4 0 1
    ∷ entry_word 0 2 0
    ∷ entry_word 5 5 4
    ∷ entry_word 0 3 0
    ∷ entry_word 5 0 7
    ∷ []

-- 0 atom 0; 1 atom 1; 2 = 0 until 1; 3 = 0 since 1
abbrev pub table_b : List ℕ
table_b =
    entry_word 0 0 0
    ∷ entry_word 0 1 0
    ∷ entry_word 5 0 1
    ∷ entry_word 4 0 1
    ∷ []

-- A row of schedule A, and one of schedule B: entry, position, verdict, size.
abbrev pub in_a : ℕ → ℕ → Verdict → ℕ → Row
in_a e i s n = record { asked = question (1 ∷ []) (4 ∷ 2 ∷ []) table_a e i; verdict = s; size = n }

abbrev pub in_b : ℕ → ℕ → Verdict → ℕ → Row
in_b e i s n = record { asked = question [] (1 ∷ []) table_b e i; verdict = s; size = n }

abbrev pub starred : List Row
starred =
    in_a 2 0 Violated 4
    ∷ in_a 3 0 Holds 5
    ∷ in_a 2 2 Holds 2
    ∷ in_a 4 0 Holds 2
    ∷ in_a 4 1 Violated 3
    ∷ in_a 4 2 Violated 4
    ∷ in_a 6 1 Violated 9
    ∷ in_a 8 0 Violated 3
    ∷ in_b 2 0 Violated 2
    ∷ in_b 2 255 Violated 2
    ∷ in_b 3 0 Violated 2
    ∷ in_b 3 3 Violated 5
    ∷ []

-- The formula means the verdict there, and its least tree has that verdict and that many nodes.
pub record Kept (row : Row) : Type 0 where
  pub means : Means (word_in row.asked) (claim_in row.asked row.verdict)
  pub nodes : List Node
  pub least : LeastIn row.asked nodes
  pub says : least.verdict ≡ row.verdict
  pub long : length nodes ≡ row.size

-- True of each row of a list.
pub data Every (P : Row → Type 0) : List Row → Type 0 where
  nothing : Every P []
  also : {row : Row} {rows : List Row} → P row → Every P rows → Every P (row ∷ rows)
