-- `lists::fields` meets its contract: a law a return.
use Rattle.std.specs.Prelude.{Some, None}
use Rattle.std.proofs.lemmas.Slice.Eq.{strip_prefix_is}
use Rattle.std.proofs.lemmas.Bool.Decides.{Decides-eqb}
use Rattle.lists.specs.Lines.{Commas}
use Rattle.lists.proofs.Keyed.{none-listed, word-wrong, word-lists}
use Rattle.lists.proofs.fields.Goals as goal

pub returns-in_err-strip_prefix : goal.returns-in_err-strip_prefix
returns-in_err-strip_prefix c =
    none-listed _ _ _ _ _ c.from_residual.ensures
    (word-wrong (Commas c.args.max) c.args.text.now c.args.word.now
    (strip_prefix_is Decides-eqb c.args.text.now c.args.word.now None c.in_err-strip_prefix.ensures.cases))

pub returns : goal.returns
returns c =
    word-lists (Commas c.args.max) c.args.text.now c.args.word.now c.in_ok-strip_prefix.field-0.now
    (strip_prefix_is Decides-eqb c.args.text.now c.args.word.now (Some c.in_ok-strip_prefix.field-0)
    c.in_ok-strip_prefix.ensures.cases) _ _ _ c.commas.ensures
