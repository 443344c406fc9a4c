-- The word of a schedule: the letter at each position, and the part of the
-- caller's lists that the view shows.
use Rattle.std.specs.Prelude.{ℕ, ◌+◌, ◌-◌, ◌*◌, ◌%◌, ◌<◌, ◌≤◌, ◌≡◌, List, length, get_or, drop}
use Rattle.std.specs.Borrow.{Bor}

-- Prefix letter i if i < u, else loop letter (i - u) mod v. (An empty loop has the letter 0 everywhere; no
-- call within the limits has one.)
abbrev pub letter_at : List ℕ → List ℕ → ℕ → ℕ
letter_at prefix loop i = get_or prefix i (get_or loop ((i - length prefix) % length loop) 0)

-- A part of a lent list, from a place to the end: the letters from there on,
-- in the same memory, four bytes a letter.
pub record Rest (lent : Bor (List ℕ)) (from : ℕ) (part : Bor (List ℕ)) : Type 0 where
  pub letters : part.now ≡ drop from lent.now
  pub block : part.ref_ptr.0 ≡ lent.ref_ptr.0
  pub offset : part.ref_ptr.1 ≡ from * 4 + lent.ref_ptr.1

-- What the view shows at position i: the rest of the prefix from there; past the prefix the rest of the loop
-- from the letter in force; with an empty loop that loop's empty end.
pub record View (prefix loop : Bor (List ℕ)) (i : ℕ) (part : Bor (List ℕ)) : Type 0 where
  pub opening : i < length prefix.now → Rest prefix i part
  pub looping : length prefix.now ≤ i → 0 < length loop.now
      → Rest loop ((i - length prefix.now) % length loop.now) part
  pub nothing : length prefix.now ≤ i → length loop.now ≡ 0 → Rest loop 0 part
