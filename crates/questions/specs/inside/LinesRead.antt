-- What reading the line of an entry or of the question answers, and reading all lines of entries.
use Rattle.std.specs.Prelude.{ℕ, ◌+◌, ◌<◌, ◌≤◌, ◌≡◌, List, [], ◌∷◌, ◌++◌}
use Rattle.std.specs.Prelude.{length, take, Option, Some, None}
use Rattle.questions.specs.Texts.{entry_key, ask_key}
use Rattle.lists.specs.Lines.{line_of, Commas}
use Rattle.rules.specs.Words.{entry_word}
use Rattle.questions.specs.declared.Fields.{Fields}
use Rattle.schedule.specs.Buffers.{put}
use Rattle.lists.specs.inside.Lists.{BytesFor, Ended, Worded}

abbrev pub EntryFields : BytesFor
EntryFields = Worded entry_key (Commas 255)

abbrev pub AskFields : BytesFor
AskFields = Worded ask_key (Commas 65535)

-- A text begins with a line of so many numbers, and so much is left.
pub record FieldsAt (P : BytesFor) (many : ℕ) (text ns rest : List ℕ) : Type 0 where
  pub ended : Ended P text ns rest
  pub size : length ns ≡ many
  pub past : length rest < length text

abbrev pub FieldsRead : BytesFor → (many : ℕ) → List ℕ → Option (Fields many) → Type 0
FieldsRead P many text (Some r) = FieldsAt P many text r.numbers r.rest.now
FieldsRead P many text None = (ns rest : List ℕ) → length ns ≡ many → ¬ Ended P text ns rest

-- Lines of entries, and their words.
pub data EntryLines : List ℕ → List ℕ → Type 0 where
  none : EntryLines [] []
  more : {bs fields ws : List ℕ} {kind left right : ℕ} → EntryLines bs ws
      → Commas 255 fields (kind ∷ left ∷ right ∷ [])
      → EntryLines (bs ++ line_of entry_key fields) (ws ++ entry_word kind left right ∷ [])

-- All lines of entries that a text begins with: none follows them.
pub record AllEntries (text found now : List ℕ) (count : ℕ) (rest : List ℕ) : Type 0 where
  pub bytes : List ℕ
  pub words : List ℕ
  pub lines : EntryLines bytes words
  pub whole : text ≡ bytes ++ rest
  pub past : count + length rest ≤ length text
  pub counted : count ≡ length words
  pub keeps : now ≡ put 0 (take (length found) words) found
  pub last : (kind left right : ℕ) (others : List ℕ)
      → ¬ Ended EntryFields rest (kind ∷ left ∷ right ∷ []) others
