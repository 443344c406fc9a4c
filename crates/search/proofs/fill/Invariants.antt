-- The loop of `search::fill`: the rows below the present one are filled.
use Rattle.std.proofs.Common.{length}
use Rattle.trees.specs.inside.Lent.{frame_of}
use Rattle.trees.specs.Least.{ones}
use Rattle.search.specs.inside.Filling.{Fills}
use Rattle.search.proofs.fill.Given as goal

abbrev pub invariant-loop-row : goal.invariant-loop-row
invariant-loop-row l =
    Fills ones (frame_of l.letters) l.table l.reach (length l.letters.looped.now) l.row l.initial.work l.work
