-- `heights::all_low` meets its contract.
use Rattle.std.proofs.Common.{rules, ◌∙◌, length, arith}
use borrow.Author.Tests.{tests}
use Rattle.std.proofs.lemmas.Iterator.{YieldsList-from_range}
use Rattle.std.proofs.lemmas.Iterator.Search.{all_from_yields_List}
use Rattle.rules.specs.Low.{low_at, low_all}
use Rattle.rules.proofs.Below.{all_range}
use Rattle.heights.proofs.all_low.Goals as goal

pub returns : goal.returns
unfolding low_all
returns c =
    all_from_yields_List (low_at c.args.table.now) _ _ _ c.all.ensures.ran
    (YieldsList-from_range 0 (length c.args.table.now) (length c.args.table.now) (cc) (omega arith))
    (λ x b q k. search (rules, tests))
    ∙ all_range (length c.args.table.now) (low_at c.args.table.now)
