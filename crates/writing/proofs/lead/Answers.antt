-- `writing::lead` meets its contract: the entry's kind finds the root of the least tree in the filled rows.
use Rattle.std.proofs.Common.{◌≡◌, arith, rules}
use Rattle.scans.specs.inside.Scans.{price_in}
use Rattle.theory.proofs.Horizon.{ones-atoms}
use Rattle.writing.proofs.Leading.{led, read-finds, led-root, writable-inside}
use Rattle.writing.proofs.lead.Goals as goal

pub invariant_of-cells : goal.invariant_of-cells
invariant_of-cells c = record { room = (writable-inside c.requires.0).room }

pub at-cell-requires : goal.at-cell-requires
at-cell-requires c = let a = writable-inside c.requires.0 in (a.row, omega (arith, a.column))

pub root_of-requires : goal.root_of-requires
root_of-requires c =
    let price : c.price_of-price.result ≡ price_in c.holds-held.result c.at-cell.result = search rules in
    let found = read-finds (led ones-atoms _ _ _ _ _ _ c.requires.0) c.requires.1 c.at-cell.ensures
    c.holds-held.ensures price in
    (omega (arith, (writable-inside c.requires.0).column), found.readable)

pub returns : goal.returns
returns c =
    let asked = led ones-atoms _ _ _ _ _ _ c.requires.0 in
    let price : c.price_of-price.result ≡ price_in c.holds-held.result c.at-cell.result = search rules in
    let found = read-finds asked c.requires.1 c.at-cell.ensures c.holds-held.ensures price in
    led-root asked (found.found _ c.root_of.ensures)
