-- What a method of the writer leaves.
use Rattle.std.specs.Prelude.{ℕ, ◌≡◌, List}
use Rattle.printing.specs.Placed.{Placed}
use Rattle.printing.specs.declared.Writer.{Writer}

-- Bytes are placed by a writer, before and after: what it is lent stays the same lent bytes.
pub record Puts (P : List ℕ → Type 0) (before after : Writer) : Type 0 where
  pub same : after.bytes.ghost_name ≡ before.bytes.ghost_name
  pub placed : Placed P before.at before.bytes.now after.bytes.now after.at
