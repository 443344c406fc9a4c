-- What reading a part of a line answers: numbers up to a newline, a keyword, a keyword and numbers.
use Rattle.std.specs.Prelude.{ℕ, ◌+◌, ◌<◌, ◌≡◌, List, ◌∷◌, ◌++◌, length, take, Option, Some, None}
use Rattle.lists.specs.declared.Listing.{Listing}
use Rattle.decimals.specs.Decimals.{newline}
use Rattle.schedule.specs.Buffers.{put}

-- Bytes that mean a list of numbers.
abbrev pub BytesFor : Type 1
BytesFor = List ℕ → List ℕ → Type 0

-- What is left of a text begins with bytes that mean numbers, and a newline ends them.
pub record Ended (P : BytesFor) (left ns rest : List ℕ) : Type 0 where
  pub bytes : List ℕ
  pub list : P bytes ns
  pub whole : left ≡ bytes ++ newline ∷ rest

pub record SomeList (P : BytesFor) (left : List ℕ) : Type 0 where
  pub numbers : List ℕ
  pub rest : List ℕ
  pub ended : Ended P left numbers rest

-- A keyword, and bytes behind it.
pub record Worded (word : List ℕ) (P : BytesFor) (bytes ns : List ℕ) : Type 0 where
  pub fields : List ℕ
  pub list : P fields ns
  pub whole : bytes ≡ word ++ fields

-- Numbers were read, counted and kept, and so much is left.
pub record Listed (P : BytesFor) (text found now : List ℕ) (count : ℕ) (rest : List ℕ) : Type 0 where
  pub numbers : List ℕ
  pub ended : Ended P text numbers rest
  pub past : count + length rest < length text
  pub counted : count ≡ length numbers
  pub keeps : now ≡ put 0 (take (length found) numbers) found

-- (Where the list is wrong the buffer is left in any state.)
unfoldable pub Lists : BytesFor → List ℕ → List ℕ → List ℕ → Option Listing → Type 0
Lists P text found now (Some r) = Listed P text found now r.count r.rest.now
Lists P text found now None = ¬ SomeList P text
