-- `layout::weeks_of` meets its contract: by the rest. Assumes nothing.
use borrow.Author.Tests.{eq-eqb, ne_eqb}
use Rattle.model.specs.Table.{layout_of}
use Rattle.layout.proofs.weeks_of.Goals as goal

pub returns-then-size : goal.returns-then-size
unfolding layout_of
returns-then-size c = rw (eq-eqb _ _ c.if-size.true)

pub returns : goal.returns
unfolding layout_of
returns c = rw (ne_eqb _ _ c.if-size.false)
