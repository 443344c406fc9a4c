-- What a function that writes bytes leaves: some bytes from a place to the next, all else as found.
use Rattle.std.specs.Prelude.{ℕ, ◌+◌, ◌≤◌, ◌≡◌, List, length}
use Rattle.schedule.specs.Buffers.{put}

pub record Placed (P : List ℕ → Type 0) (at : ℕ) (found left : List ℕ) (next : ℕ) : Type 0 where
  pub bytes : List ℕ
  pub such : P bytes
  pub ends : next ≡ at + length bytes
  pub inside : next ≤ length found
  pub leaves : left ≡ put at bytes found
