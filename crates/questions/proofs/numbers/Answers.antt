-- `questions::numbers` meets its contract: a law a return.
use lib.ListN.{length-replicate}
use Rattle.lists.specs.Lines.{Commas}
use Rattle.lists.specs.inside.Lists.{Worded, Lists}
use Rattle.lists.proofs.Keyed.{plain-commas}
use Rattle.questions.proofs.Entering.{numbers-none, numbers-other, numbers-found}
use Rattle.questions.proofs.numbers.Goals as goal

pub returns-in_err-count : goal.returns-in_err-count
unfolding Lists
returns-in_err-count g c =
    numbers-none (Worded c.args.word.now (Commas c.args.max)) g.row.N c.args.text.now
    c.from_residual.ensures c.in_err-count.ensures

pub returns-then-count : goal.returns-then-count
unfolding Lists
returns-then-count g c = numbers-other (plain-commas c.args.max) c.in_ok-count.ensures c.if-count.true

pub returns : goal.returns
unfolding Lists
returns g c = numbers-found c.in_ok-count.ensures (length-replicate g.row.N 0) c.if-count.false
