-- What a cell has to say of a formula at a position: the meaning, and the prices of its trees.
use Rattle.std.specs.Prelude.{ℕ, ◌≡◌, ◌↔◌, true}
use Rattle.rules.specs.Formula.{Formula}
use Rattle.rules.specs.Meaning.{Meant}
use Rattle.trees.specs.Rules.{Frame, claim}
use Rattle.trees.specs.Least.{Cost}
use Rattle.trees.specs.declared.Verdict.TheVariants.{Holds, Violated}
use Rattle.theory.specs.inside.Prices.{Price}
use Rattle.cells.specs.inside.Cells.{holds_in, pro_of, con_of}

pub record CellFor (cost : Cost) (frame : Frame) (f : Formula) (i : ℕ) (c : ℕ) : Type 0 where
  pub truth : (holds_in c ≡ true) ↔ Meant frame.letter f i
  pub pro : Price cost frame (claim f i Holds) (pro_of c)
  pub con : Price cost frame (claim f i Violated) (con_of c)
