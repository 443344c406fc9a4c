-- What `rows::plain_row` has `rows::made_row` make of two cells: the state of its kind.
use Rattle.cells.specs.inside.Cells.{plain_state}
use Rattle.cells.specs.declared.Connective.TheVariants.{Not, Or, And}
use Rattle.rows.proofs.plain_row.Given as goal

abbrev pub ghost-made_row : goal.ghost-made_row
ghost-made_row a = plain_state Not

abbrev pub ghost-made_row-2 : goal.ghost-made_row-2
ghost-made_row-2 a = plain_state Or

abbrev pub ghost-made_row-3 : goal.ghost-made_row-3
ghost-made_row-3 a = plain_state And
