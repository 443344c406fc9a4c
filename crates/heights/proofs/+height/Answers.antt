-- `heights::height` meets its contract, the entry's index falling at each call:
-- the parts that it goes down to are earlier entries.
use mathlib.Core.Logic.{⊎_elim}
use Rattle.std.proofs.Common.{arith}
use Rattle.heights.proofs.Heights.{height-known, parts-known, height-once, height_bound}
use Rattle.heights.proofs.+height.Goals as goal

pub returns-in-Atom : goal.returns-in-Atom
returns-in-Atom t c =
    ⊎_elim (λ a. height-known _ _ _ c.entry_at.ensures a.1) (λ b. height-known _ _ _ c.entry_at.ensures b)
    c.in-Atom.is

pub height-requires : goal.height-requires
height-requires t c = (omega (arith, parts-known c.args.side _ _ c.entry_at.ensures c.in-One.is), tt)

pub returns-in-One : goal.returns-in-One
returns-in-One t c = omega (arith, height-known c.args.side _ _ c.entry_at.ensures c.in-One.is)

pub height-higher-requires : goal.height-higher-requires
height-higher-requires t c = (omega (arith, parts-known c.args.side _ _ c.entry_at.ensures c.in-Two.is), tt)

pub overflow_add-result : goal.overflow_add-result
overflow_add-result t c =
    omega (
      arith,
      c.adds-added.ensures,
      c.height-higher.ensures,
      height-once c.args.side _ _ c.entry_at.ensures c.in-Two.is c.if-left-right.true,
      height_bound c.args.side c.args.table.now c.args.entry,
    )

pub returns-then-left-right : goal.returns-then-left-right
returns-then-left-right t c =
    omega (
      arith,
      c.adds-added.ensures,
      c.height-higher.ensures,
      height-once c.args.side _ _ c.entry_at.ensures c.in-Two.is c.if-left-right.true,
    )

pub height-requires-else-left-right : goal.height-requires-else-left-right
height-requires-else-left-right t c =
    (omega (arith, parts-known c.args.side _ _ c.entry_at.ensures c.in-Two.is), tt)

pub overflow_add-result-else-left-right : goal.overflow_add-result-else-left-right
overflow_add-result-else-left-right t c =
    omega (
      arith,
      c.adds-added.ensures,
      c.height-higher.ensures,
      height-known c.args.side _ _ c.entry_at.ensures c.in-Two.is,
      height_bound c.args.side c.args.table.now c.args.entry,
    )

pub returns-else-left-right : goal.returns-else-left-right
returns-else-left-right t c =
    omega (
      arith,
      c.adds-added.ensures,
      c.height-higher.ensures,
      height-known c.args.side _ _ c.entry_at.ensures c.in-Two.is,
    )
