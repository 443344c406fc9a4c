-- The price that a cell tells.
use Rattle.std.specs.Prelude.{ℕ}
use Rattle.cells.specs.inside.Cells.{holds_in}
use Rattle.scans.specs.inside.Scans.{price_in}

-- The price that a cell tells, of a tree of its own verdict.
unfoldable pub cell_price : ℕ → ℕ
cell_price c = price_in (holds_in c) c
