-- `asking::Question::accept_table` meets its contract: the tests in order, a return for each that fails.
use mathlib.Core.Path.{sym, ◌∙◌}
use borrow.Author.Tests.{lt-ltb, le-ltb, le-leb, lt-leb}
use Rattle.schedule.specs.Tests.{none, also, here, later}
use Rattle.asking.specs.inside.Gates.{shuts, lets_by}
use Rattle.asking.proofs.Accepting.{none-told, count-many, some-told}
use Rattle.asking.proofs.LentQuestion.accept_table.Goals as goal

pub returns-then-is_empty : goal.returns-then-is_empty
returns-then-is_empty c = shuts (here (none-told _ c.is_empty.ensures c.if-is_empty.true))

pub returns-then-self-gt-MAX_ENTRIES : goal.returns-then-self-gt-MAX_ENTRIES
returns-then-self-gt-MAX_ENTRIES c = shuts (here (count-many _ c.if-self-gt-MAX_ENTRIES.true))

pub returns-then-not-all_keep : goal.returns-then-not-all_keep
returns-then-not-all_keep c =
    shuts (later (some-told _ c.is_empty.ensures c.if-is_empty.false c.if-self-gt-MAX_ENTRIES.false)
    (here (sym c.all_keep.ensures ∙ c.if-not-all_keep.true)))

pub returns-then-not-all_low : goal.returns-then-not-all_low
returns-then-not-all_low c =
    shuts (later (some-told _ c.is_empty.ensures c.if-is_empty.false c.if-self-gt-MAX_ENTRIES.false)
    (later (sym c.all_keep.ensures ∙ c.if-not-all_keep.false)
    (here (sym c.all_low.ensures ∙ c.if-not-all_low.true))))

pub returns-then-self : goal.returns-then-self
returns-then-self c =
    shuts (later (some-told _ c.is_empty.ensures c.if-is_empty.false c.if-self-gt-MAX_ENTRIES.false)
    (later (sym c.all_keep.ensures ∙ c.if-not-all_keep.false)
    (later (sym c.all_low.ensures ∙ c.if-not-all_low.false)
    (here (le-ltb _ _ c.if-self.true)))))

pub returns-then-self-gt-MAX_POSITION : goal.returns-then-self-gt-MAX_POSITION
returns-then-self-gt-MAX_POSITION c =
    shuts (later (some-told _ c.is_empty.ensures c.if-is_empty.false c.if-self-gt-MAX_ENTRIES.false)
    (later (sym c.all_keep.ensures ∙ c.if-not-all_keep.false)
    (later (sym c.all_low.ensures ∙ c.if-not-all_low.false)
    (later (lt-ltb _ _ c.if-self.false)
    (here (lt-leb _ _ c.if-self-gt-MAX_POSITION.true))))))

pub returns : goal.returns
returns c =
    lets_by (also (some-told _ c.is_empty.ensures c.if-is_empty.false c.if-self-gt-MAX_ENTRIES.false)
    (also (sym c.all_keep.ensures ∙ c.if-not-all_keep.false)
    (also (sym c.all_low.ensures ∙ c.if-not-all_low.false)
    (also (lt-ltb _ _ c.if-self.false)
    (also (le-leb _ _ c.if-self-gt-MAX_POSITION.false) none)))))
