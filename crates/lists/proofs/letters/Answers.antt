-- `lists::letters` meets its contract: a law a return.
use Rattle.std.proofs.Common.{[], ◌∷◌}
use Rattle.std.specs.Prelude.{Some, None}
use Rattle.std.proofs.lemmas.Slice.Eq.{strip_prefix_is}
use Rattle.std.proofs.lemmas.Bool.Decides.{Decides-eqb}
use Rattle.lists.specs.Lines.{Letters}
use Rattle.lists.specs.inside.Lists.{Lists}
use Rattle.lists.proofs.Keyed.{none-listed, word-wrong, word-lists, letters-none, letters-some}
use Rattle.lists.proofs.letters.Goals as goal

pub returns-in_err-listed : goal.returns-in_err-listed
returns-in_err-listed c =
    none-listed _ _ _ _ _ c.from_residual.ensures
    (word-wrong Letters c.args.text.now c.args.word.now
    (strip_prefix_is Decides-eqb c.args.text.now c.args.word.now None c.in_err-listed.ensures.cases))

pub returns-in-Some : goal.returns-in-Some
unfolding Lists
returns-in-Some c =
    let listed = c.in_ok-listed.listed in
    word-lists Letters c.args.text.now c.args.word.now listed.now
    (strip_prefix_is Decides-eqb c.args.text.now c.args.word.now (Some listed) c.in_ok-listed.ensures.cases)
    c.args.keep.now c.args.keep.now (Some (record { count = 0; rest = c.in-Some.rest }))
    (letters-none listed.now c.args.keep.now
    (strip_prefix_is Decides-eqb listed.now (10 ∷ []) (Some c.in-Some.rest) c.in-Some.ensures.cases))

pub returns : goal.returns
returns c =
    let listed = c.in_ok-listed.listed in
    word-lists Letters c.args.text.now c.args.word.now listed.now
    (strip_prefix_is Decides-eqb c.args.text.now c.args.word.now (Some listed) c.in_ok-listed.ensures.cases)
    _ _ _
    (letters-some listed.now _ _ _
    (strip_prefix_is Decides-eqb listed.now (10 ∷ []) None c.in_default.ensures.cases) c.commas.ensures)
