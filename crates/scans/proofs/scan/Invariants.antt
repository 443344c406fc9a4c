-- `scans::scan`: the loop's invariant, that no nearer witness meets the price, and one that does is not
-- passed.
use Rattle.rows.specs.inside.Rows.{row_of}
use Rattle.scans.specs.inside.Scans.{prices_from}
use Rattle.scans.proofs.Scanning.{Scanning}
use Rattle.scans.proofs.scan.Given as goal

abbrev pub invariant-loop-n : goal.invariant-loop-n
invariant-loop-n l =
    Scanning (prices_from (row_of l.cells.work.now l.witness) l.held l.ahead l.position)
    (prices_from (row_of l.cells.work.now l.member) l.held l.ahead l.position) l.held l.ahead l.position
    l.price l.n l.sum
