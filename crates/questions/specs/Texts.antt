-- The text of a question: its lines and what they say, and the first wrong line.
use Rattle.std.specs.Prelude.{ℕ, zero, suc, ◌≤◌, ◌≡◌, List, [], ◌∷◌, ◌++◌}
use Rattle.rules.specs.Words.{entry_word}
use Rattle.lists.specs.Lines.{Commas, Letters, line_of}

-- The bytes of `prefix=`, `loop=`, `entry=` and `ask=`.
abbrev pub prefix_key : List ℕ
prefix_key = 112 ∷ 114 ∷ 101 ∷ 102 ∷ 105 ∷ 120 ∷ 61 ∷ []

abbrev pub loop_key : List ℕ
loop_key = 108 ∷ 111 ∷ 111 ∷ 112 ∷ 61 ∷ []

abbrev pub entry_key : List ℕ
entry_key = 101 ∷ 110 ∷ 116 ∷ 114 ∷ 121 ∷ 61 ∷ []

abbrev pub ask_key : List ℕ
ask_key = 97 ∷ 115 ∷ 107 ∷ 61 ∷ []

-- What lines say: the letters of the prefix and of the loop, and the words of the entries.
pub record Said : Type 0 where
  pub prefix : List ℕ
  pub loop : List ℕ
  pub table : List ℕ

abbrev pub said : List ℕ → List ℕ → List ℕ → Said
said prefix loop table = record { prefix = prefix; loop = loop; table = table }

-- The line behind k right ones that said s, and what they say with it.
-- First the prefix, then the loop, then entries.
pub data Line (k : ℕ) (s : Said) : List ℕ → Said → Type 0 where
  prefixed : {bs ns : List ℕ} → k ≡ 0 → Letters bs ns
      → Line k s (line_of prefix_key bs) (said ns s.loop s.table)
  looped : {bs ns : List ℕ} → k ≡ 1 → Letters bs ns
      → Line k s (line_of loop_key bs) (said s.prefix ns s.table)
  entered : {bs : List ℕ} {kind left right : ℕ} → 2 ≤ k → Commas 255 bs (kind ∷ left ∷ right ∷ [])
      → Line k s (line_of entry_key bs)
      (said s.prefix s.loop (s.table ++ entry_word kind left right ∷ []))

-- Right lines before the question: how many, their bytes, what they say.
pub data RightLines : ℕ → List ℕ → Said → Type 0 where
  begun : RightLines zero [] (said [] [] [])
  further : {k : ℕ} {bs new : List ℕ} {s t : Said} → RightLines k bs s → Line k s new t
      → RightLines (suc k) (bs ++ new) t

-- A whole text: right lines with at least prefix and loop, and the question of an entry
-- at a position as its last line.
pub record Whole (text : List ℕ) (s : Said) (entry position lines : ℕ) : Type 0 where
  pub before : ℕ
  pub front : List ℕ
  pub fields : List ℕ
  pub enough : 2 ≤ before
  pub right : RightLines before front s
  pub asks : Commas 65535 fields (entry ∷ position ∷ [])
  pub whole : text ≡ front ++ line_of ask_key fields
  pub count : lines ≡ suc before

-- A text begins with k right lines.
pub record BeginsRight (text : List ℕ) (k : ℕ) : Type 0 where
  pub says : Said
  pub front : List ℕ
  pub rest : List ℕ
  pub right : RightLines k front says
  pub whole : text ≡ front ++ rest

-- It begins with a whole text of k lines.
pub record BeginsWhole (text : List ℕ) (k : ℕ) : Type 0 where
  pub says : Said
  pub entry : ℕ
  pub position : ℕ
  pub front : List ℕ
  pub rest : List ℕ
  pub asked : Whole front says entry position k
  pub whole : text ≡ front ++ rest

-- The first wrong line of a text. A line that is missing is wrong where it should stand, and so is a last one
-- that no newline ends; behind a whole text every line is wrong.
pub data WrongLine (text : List ℕ) : ℕ → Type 0 where
  stuck : {k : ℕ} → BeginsRight text k → ¬ BeginsRight text (suc k) → ¬ BeginsWhole text (suc k)
      → WrongLine text (suc k)
  goes_on : {k x : ℕ} {others : List ℕ} → (b : BeginsWhole text k) → b.rest ≡ x ∷ others
      → WrongLine text (suc k)
