-- `explain::input::read_all`: what was read is what the input gave, and there is room for it.
use Rattle.std.proofs.Common.{◌≤◌, length, take}
use Rattle.std.specs.Io.KnownBytes.{Consumes}
use Rattle.explain.proofs.input.read_all.Given as goal

abbrev pub invariant-loop : goal.invariant-loop
invariant-loop g l =
    (l.len ≤ length l.text)
    × Consumes (g.R.Read.remaining l.fn.input) (g.R.Read.remaining l.input) (take l.len l.text)
