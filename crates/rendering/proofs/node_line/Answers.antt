-- `rendering::node_line` meets its contract.
use Rattle.rendering.proofs.Lines.{rule-room, atom-room, number-room, node-line-put, node-line-most}
use Rattle.rendering.proofs.node_line.Goals as goal

pub field-requires : goal.field-requires
field-requires c = rule-room c.requires c.text.ensures

pub field-requires-2 : goal.field-requires-2
field-requires-2 c =
    atom-room c.requires c.text.ensures c.args.word c.ranges.word.fits c.field.ensures

pub field-requires-3 : goal.field-requires-3
field-requires-3 c =
    number-room c.requires c.text.ensures c.args.word c.ranges.word.fits c.field.ensures c.field-2.ensures

pub returns-clause-line : goal.returns-clause-line
returns-clause-line c =
    node-line-put c.requires c.text.ensures c.args.word c.ranges.word.fits c.field.ensures c.field-2.ensures
    c.field-3.ensures

pub returns-clause-short : goal.returns-clause-short
returns-clause-short c =
    node-line-most c.requires c.text.ensures c.args.word c.ranges.word.fits c.field.ensures c.field-2.ensures
    c.field-3.ensures
