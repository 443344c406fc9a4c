-- `search::fill_row` meets its contract: each kind's row is what the filling asks for.
use mathlib.Core.Path.{sym, subst, ◌∙◌}
use Rattle.std.proofs.Common.{◌≡◌, ◌+◌, ◌*◌, ◌-◌, ℕ, List, length, arith, refl}
use Rattle.rules.specs.Formula.{height}
use Rattle.rules.specs.Tables.{formula_of, entry_at}
use Rattle.rules.specs.declared.Entry.{Entry}
use Rattle.rules.specs.declared.Entry.TheVariants.{One, Two}
use Rattle.rules.specs.declared.Binary.{Binary}
use Rattle.rules.specs.declared.Side.TheVariants.{Future}
use Rattle.rules.proofs.Entries.{one-is, two_is}
use Rattle.cells.specs.inside.Cells.{until_cell}
use Rattle.rows.specs.inside.Rows.{RowReady, Filled}
use Rattle.search.specs.inside.Filling.{Limited}
use Rattle.search.proofs.Driven.{Measured, parts-of, row-ready}
use Rattle.search.proofs.Driven.{start_small, until-fits, atom-driven, broken-driven, not-driven}
use Rattle.search.proofs.Driven.{or-driven, and-driven, since-driven, until-driven}
use Rattle.search.proofs.fill_row.Goals as goal

-- once the height is worked out
measured : {prefix loop table : List ℕ} {e len reach h : ℕ}
    → Limited (length prefix) (length loop) reach table e len → h ≡ height Future (formula_of table e)
    → Measured prefix loop table e len reach h
measured lim e = record { limits = lim; high = e }

-- once the entry is read, and found to be x
read : {told at x : Entry} → told ≡ at → told ≡ x → at ≡ x
read e is = sym e ∙ is

-- and one of two parts, its operator too
two : {told at : Entry} {x op : Binary} {l r : ℕ} → told ≡ at → told ≡ Two x l r → x ≡ op → at ≡ Two op l r
two e is same = two_is (read e is) same

-- an entry of two parts
ready : {prefix loop table : List ℕ} {e len reach h : ℕ} → Measured prefix loop table e len reach h
    → {op : Binary} {l r : ℕ} → entry_at table e ≡ Two op l r
    → RowReady e l r (reach + length loop * (5 - h)) len
ready m {op} {l} {r} at = let parts = parts-of m (Two op l r) at in row-ready m l r parts.0 parts.1

-- an until's row by where its right side repeats from
started : {e n : ℕ} {found left : List ℕ} (v : ℕ) (a b : ℕ → ℕ) {s t : ℕ} → s ≡ t
    → Filled e n (until_cell a b n v s) found left → Filled e n (until_cell a b n v t) found left
started {e} {n} {found} {left} v a b same f =
    subst (λ k. Filled e n (until_cell a b n v k) found left) same f

pub plain_row-requires : goal.plain_row-requires
plain_row-requires c =
    let m = measured c.requires.0 c.height.ensures in
    let part = parts-of m (One _ _) (read c.entry_at.ensures c.in-One-Not-default.is) in
    row-ready m _ _ part part

pub plain_row-requires-in-Two-Or-default-default : goal.plain_row-requires-in-Two-Or-default-default
plain_row-requires-in-Two-Or-default-default c =
    ready (measured c.requires.0 c.height.ensures)
    (read c.entry_at.ensures c.in-Two-Or-default-default.is)

pub plain_row-requires-in-Two-And-default-default : goal.plain_row-requires-in-Two-And-default-default
plain_row-requires-in-Two-And-default-default c =
    ready (measured c.requires.0 c.height.ensures)
    (read c.entry_at.ensures c.in-Two-And-default-default.is)

pub since_row-requires : goal.since_row-requires
since_row-requires c =
    ready (measured c.requires.0 c.height.ensures) (read c.entry_at.ensures c.in-Two-Since-default-default.is)

pub overflow_mul-start : goal.overflow_mul-start
overflow_mul-start c =
    let arm = c.in-Two-Until-default-default in
    let at = two c.entry_at.ensures arm.is arm.field-0-is in
    let past = c.height-in-Two-Until-default-default.ensures in
    omega (arith, start_small (measured c.requires.0 c.height.ensures) _ _ at _ past)

pub overflow_add-start : goal.overflow_add-start
overflow_add-start c =
    let arm = c.in-Two-Until-default-default in
    let at = two c.entry_at.ensures arm.is arm.field-0-is in
    let past = c.height-in-Two-Until-default-default.ensures in
    omega (
      arith,
      start_small (measured c.requires.0 c.height.ensures) _ _ at _ past,
      c.requires.0.letters,
    )

pub until_row-requires : goal.until_row-requires
until_row-requires c =
    let arm = c.in-Two-Until-default-default in
    let at = two c.entry_at.ensures arm.is arm.field-0-is in
    let past = c.height-in-Two-Until-default-default.ensures in
    let fits = until-fits (measured c.requires.0 c.height.ensures) _ _ at _ past in
    (fits.0, fits.1, fits.2, omega (arith, fits.3))

pub returns-in-Atom : goal.returns-in-Atom
returns-in-Atom c =
    atom-driven (measured c.requires.0 c.height.ensures) refl c.requires.1 _
    (read c.entry_at.ensures c.in-Atom.is) c.atom_row.ensures

pub returns-in-One-Not-default : goal.returns-in-One-Not-default
returns-in-One-Not-default c =
    not-driven (measured c.requires.0 c.height.ensures) refl c.requires.1 _
    (one-is (read c.entry_at.ensures c.in-One-Not-default.is)) c.plain_row.ensures

pub returns-in-Two-Or-default-default : goal.returns-in-Two-Or-default-default
returns-in-Two-Or-default-default c =
    let arm = c.in-Two-Or-default-default in
    or-driven (measured c.requires.0 c.height.ensures) refl c.requires.1 _ _
    (two c.entry_at.ensures arm.is arm.field-0-is) c.plain_row-in-Two-Or-default-default.ensures

pub returns-in-Two-And-default-default : goal.returns-in-Two-And-default-default
returns-in-Two-And-default-default c =
    let arm = c.in-Two-And-default-default in
    and-driven (measured c.requires.0 c.height.ensures) refl c.requires.1 _ _
    (two c.entry_at.ensures arm.is arm.field-0-is) c.plain_row-in-Two-And-default-default.ensures

pub returns-in-Two-Since-default-default : goal.returns-in-Two-Since-default-default
returns-in-Two-Since-default-default c =
    let arm = c.in-Two-Since-default-default in
    since-driven (measured c.requires.0 c.height.ensures) refl c.requires.1 _ _
    (two c.entry_at.ensures arm.is arm.field-0-is) c.since_row.ensures

pub returns-in-Two-Until-default-default : goal.returns-in-Two-Until-default-default
returns-in-Two-Until-default-default c =
    let arm = c.in-Two-Until-default-default in
    let at = two c.entry_at.ensures arm.is arm.field-0-is in
    let past = c.height-in-Two-Until-default-default.ensures in
    until-driven (measured c.requires.0 c.height.ensures) refl c.requires.1 _ _ _ past at
    (started _ _ _ (omega arith) c.until_row.ensures)

pub returns-in-Broken : goal.returns-in-Broken
returns-in-Broken c =
    broken-driven (measured c.requires.0 c.height.ensures) refl c.requires.1
    (read c.entry_at.ensures c.in-Broken.is) c.atom_row-in-Broken.ensures
