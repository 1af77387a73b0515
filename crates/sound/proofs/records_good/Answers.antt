-- `sound::records_good` meets its contract: one test after the other. Assumes nothing.
use mathlib.Core.Path.{sym, ◌∙◌}
use Rattle.layout.specs.Shape.{parts_shape}
use Rattle.sound.proofs.records_good.Goals as goal

pub returns-then-unused_from : goal.returns-then-unused_from
unfolding parts_shape
returns-then-unused_from c = rw (← c.requires.2, sym c.unused_from.ensures ∙ c.if-unused_from.true) c.slots_good.ensures

pub returns-else-unused_from : goal.returns-else-unused_from
unfolding parts_shape
returns-else-unused_from c = rw (← c.requires.2, sym c.unused_from.ensures ∙ c.if-unused_from.false) c.if-unused_from.false
