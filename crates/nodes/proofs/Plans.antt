-- Each case of the tests past kind and sign, of what a node asks of its parts, and of the part at a place.
use mathlib.Core.Path.{◌≡◌, sym, ap, ◌∙◌}
use mathlib.Core.Bool.{Bool, true, false}
use mathlib.Core.List.{List}
use Prim.Native.Nat.{ℕ, ◌+◌, ◌-◌, ◌<◌, ◌≤◌}
use lib.ListN.{length}
use borrow.Author.Tests.{le-leb, lt-leb, lt-ltb, le-ltb}
use Rattle.rules.specs.declared.Entry.{Entry}
use Rattle.nodes.specs.inside.Fits.{left_of, right_of, fits_of, atom_agrees, atom_fits}
use Rattle.nodes.specs.inside.Fits.{count_fits, window_at, list_fits}
use Rattle.nodes.specs.inside.Demands.{plain_demands, count_demands, demands_of, part_of}
use Rattle.trees.specs.declared.Verdict.{Verdict}
use Rattle.nodes.specs.declared.Demands.{Demands}

-- a rule of another kind or sign is refused; else the rest of the test decides
module _ (letter : ℕ) (x : Entry) (i : ℕ) (s : Verdict) (r a n : ℕ) where
  pub atom-suited : (f b : Bool) (named : ℕ) → f ≡ fits_of r x s → f ≡ true → named ≡ left_of x
      → b ≡ atom_agrees letter named i s a n → b ≡ atom_fits letter x i s r a n
  unfolding atom_fits
  atom-suited f b named is t l d =
      d ∙ ap (λ k. atom_agrees letter k i s a n) l ∙ simp (sym is ∙ t)

  pub atom-unsuited : (f : Bool) → f ≡ fits_of r x s → f ≡ false → f ≡ atom_fits letter x i s r a n
  unfolding atom_fits
  atom-unsuited f is t = t ∙ simp (sym is ∙ t)

module _ (prefix loop table : List ℕ) (x : Entry) (i : ℕ) (s : Verdict) (r n : ℕ) where
  pub list-suited : (f b : Bool) (right : ℕ) → f ≡ fits_of r x s → f ≡ true → right ≡ right_of x
      → b ≡ count_fits r i n (window_at prefix loop table right i)
      → b ≡ list_fits (length prefix) (length loop) table x i s r n
  unfolding list_fits
  list-suited f b right is t l d =
      d ∙ ap (λ k. count_fits r i n (window_at prefix loop table k i)) l ∙ simp (sym is ∙ t)

  pub list-unsuited : (f : Bool) → f ≡ fits_of r x s → f ≡ false
      → f ≡ list_fits (length prefix) (length loop) table x i s r n
  unfolding list_fits
  list-unsuited f is t = t ∙ simp (sym is ∙ t)

module _ (x : Entry) (i : ℕ) (s : Verdict) (r n : ℕ) where
  pub demands-plain : r ≤ 10 → plain_demands x i s r ≡ demands_of x i s r n
  unfolding demands_of
  demands-plain le = simp (le-leb r 10 le)

  pub demands-count : (l t : ℕ) → 10 < r → l ≡ left_of x → t ≡ right_of x
      → count_demands r l t i n s ≡ demands_of x i s r n
  unfolding demands_of
  demands-count l t lt a b = (λ j. count_demands r (a j) (b j) i n s) ∙ simp (lt-leb r 10 lt)

module _ (d : Demands) (m : ℕ) where
  pub part-first : m < d.fixed → d.first ≡ part_of d m
  unfolding part_of
  part-first lt = simp (lt-ltb m d.fixed lt)

  pub part-member : d.fixed ≤ m
      → record { entry = d.member; position = d.from + (m - d.fixed) } ≡ part_of d m
  unfolding part_of
  part-member le = simp (le-ltb m d.fixed le)
