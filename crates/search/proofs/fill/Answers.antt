-- `search::fill` meets its contract: the laws of its loop over the rows.
use Rattle.std.proofs.Common.{arith}
use Rattle.search.proofs.Driven.{fills-none, fills-turn, limited-earlier}
use Rattle.search.proofs.fill.Goals as goal

pub loop-row-init : goal.loop-row-init
loop-row-init c = fills-none _ _ _ _ _ _

pub fill_row-requires : goal.fill_row-requires
fill_row-requires c =
    let so_far = c.loop-row.invariant in
    (limited-earlier (omega arith) so_far.same_length c.requires, so_far.filled)

pub loop-row-preserved : goal.loop-row-preserved
loop-row-preserved c = fills-turn c.loop-row.invariant c.fill_row.ensures
