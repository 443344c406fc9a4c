-- `search::clear` meets its contract.
use mathlib.Core.Path.{ap, ◌∙◌}
use Rattle.std.proofs.Common.{◌++◌, drop, replicate, rules}
use Rattle.std.proofs.lemmas.List.{length-take-le}
use Rattle.schedule.specs.Buffers.{cleared}
use Rattle.schedule.specs.Limits.{work_length}
use Rattle.search.proofs.clear.Goals as goal

pub returns : goal.returns
unfolding cleared
returns c =
    ap (λ front. front ++ drop work_length c.args.work.now)
    (c.fill.ensures.after (λ y same. search rules)
    ∙ ap (λ n. replicate n 0) (length-take-le work_length c.args.work.now c.requires))
