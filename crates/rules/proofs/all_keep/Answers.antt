-- `rules::all_keep` meets its contract.
use Rattle.std.proofs.Common.{rules, ◌∙◌}
use borrow.Author.Tests.{tests}
use Rattle.std.proofs.lemmas.Iterator.{YieldsList-from_slice}
use Rattle.std.proofs.lemmas.Iterator.Consumers.{YieldsList-from_enumerate}
use Rattle.std.proofs.lemmas.Iterator.Search.{all_from_yields_List}
use Rattle.rules.specs.Entries.{entry_of, is_kept}
use Rattle.rules.specs.Tables.{keeps_all}
use Rattle.rules.proofs.Below.{all_enumerated}
use Rattle.rules.proofs.all_keep.Goals as goal

pub returns : goal.returns
unfolding keeps_all
returns c =
    all_from_yields_List (λ p. is_kept (entry_of p.0 p.1)) _ _ _ c.all.ensures.ran
    (YieldsList-from_enumerate (YieldsList-from_slice c.args.table.now (cc)) (cc))
    (λ x b q k. search (rules, tests))
    ∙ all_enumerated c.args.table.now (λ e w. is_kept (entry_of e w))
