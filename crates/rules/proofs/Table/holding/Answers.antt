-- `rules::Table::holding` meets its contract: the list over zeros is the record's words.
use Rattle.std.proofs.Common.{rules}
use Rattle.rules.proofs.Copied.{copied}
use Rattle.rules.proofs.Table.holding.Goals as goal

pub returns-clause-made : goal.returns-clause-made
returns-clause-made c = search (rules, copied)
