-- `nodes::node_fits` meets its contract: the word's case says which test it is, and that test is right.
use mathlib.Core.Path.{refl, sym, ap, ◌∙◌}
use Rattle.std.proofs.Common.{arith, Some}
use Rattle.nodes.specs.inside.Fits.{right_of}
use Rattle.forms.proofs.Words.{word-says}
use Rattle.nodes.proofs.Parts.{right-at-most}
use Rattle.nodes.proofs.Plans.{atom-suited, atom-unsuited, list-suited, list-unsuited}
use Rattle.nodes.proofs.JudgedNodes.{node-formless, node-atom, node-plain, node-counted}
use Rattle.nodes.proofs.node_fits.Goals as goal

pub returns-in_default : goal.returns-in_default
returns-in_default c =
    node-formless c.args.letters.prefix.now c.args.letters.looped.now c.args.table.now c.args.entry
    c.args.position c.args.needed c.args.word (sym c.in_default.ensures)

pub suits-requires : goal.suits-requires
suits-requires c =
    let says = word-says _ _ (sym c.in-Some.ensures ∙ ap Some c.in-Atom.is) in
    (says.3, omega (arith, says.4))

pub suits-requires-in-Plain : goal.suits-requires-in-Plain
suits-requires-in-Plain c =
    let says = word-says _ _ (sym c.in-Some.ensures ∙ ap Some c.in-Plain.is) in
    (omega (arith, says.3), omega (arith, says.4))

pub suits-requires-in-Counted : goal.suits-requires-in-Counted
suits-requires-in-Counted c =
    let says = word-says _ _ (sym c.in-Some.ensures ∙ ap Some c.in-Counted.is) in
    (omega (arith, says.3), says.4)

pub count_fits-requires : goal.count_fits-requires
count_fits-requires c =
    let says = word-says _ _ (sym c.in-Some.ensures ∙ ap Some c.in-Counted.is) in
    record {
      prefix = c.requires.0.prefix;
      loop = c.requires.0.loop;
      part = omega (
        arith,
        c.right_of.ensures,
        ap right_of c.requires.1,
        right-at-most c.args.table.now c.args.entry,
        c.requires.0.entry,
      );
      position = omega (arith, c.requires.0.reach);
      low = says.3;
      high = says.4;
      number = omega (arith, says.2);
    }

pub returns-then-suits : goal.returns-then-suits
returns-then-suits c =
    node-atom c.args.letters.prefix.now c.args.letters.looped.now c.args.table.now c.args.entry
    c.args.position c.args.needed c.args.word _ _ _ _ _ _ (sym c.in-Some.ensures ∙ ap Some c.in-Atom.is)
    c.letter.ensures c.requires.1
    (atom-suited c.letter.result c.args.here c.args.position c.args.needed c.in-Atom.rule c.in-Atom.atom
    c.in-Atom.number _ _ _ c.suits.ensures c.if-suits.true c.left_of.ensures c.atom_agrees.ensures)

pub returns-else-suits : goal.returns-else-suits
returns-else-suits c =
    node-atom c.args.letters.prefix.now c.args.letters.looped.now c.args.table.now c.args.entry
    c.args.position c.args.needed c.args.word _ _ _ _ _ _ (sym c.in-Some.ensures ∙ ap Some c.in-Atom.is)
    refl c.requires.1
    (atom-unsuited _ c.args.here c.args.position c.args.needed c.in-Atom.rule c.in-Atom.atom
    c.in-Atom.number _ c.suits.ensures c.if-suits.false)

pub returns-in-Plain : goal.returns-in-Plain
returns-in-Plain c =
    node-plain c.args.letters.prefix.now c.args.letters.looped.now c.args.table.now c.args.entry
    c.args.position c.args.needed c.args.word _ _ _ (sym c.in-Some.ensures ∙ ap Some c.in-Plain.is)
    c.requires.1 c.suits-in-Plain.ensures

pub returns-then-suits-2 : goal.returns-then-suits-2
returns-then-suits-2 c =
    node-counted c.args.letters.prefix.now c.args.letters.looped.now c.args.table.now c.args.entry
    c.args.position c.args.needed c.args.word _ _ _ _ (sym c.in-Some.ensures ∙ ap Some c.in-Counted.is)
    c.requires.1
    (list-suited c.args.letters.prefix.now c.args.letters.looped.now c.args.table.now c.args.here
    c.args.position c.args.needed c.in-Counted.rule c.in-Counted.count _ _ _ c.suits-in-Counted.ensures
    c.if-suits-2.true c.right_of.ensures c.count_fits.ensures)

pub returns-else-suits-2 : goal.returns-else-suits-2
returns-else-suits-2 c =
    node-counted c.args.letters.prefix.now c.args.letters.looped.now c.args.table.now c.args.entry
    c.args.position c.args.needed c.args.word _ _ _ _ (sym c.in-Some.ensures ∙ ap Some c.in-Counted.is)
    c.requires.1
    (list-unsuited c.args.letters.prefix.now c.args.letters.looped.now c.args.table.now c.args.here
    c.args.position c.args.needed c.in-Counted.rule c.in-Counted.count _ c.suits-in-Counted.ensures
    c.if-suits-2.false)
