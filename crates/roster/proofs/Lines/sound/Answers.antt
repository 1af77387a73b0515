-- `roster::Lines::sound` meets its contract: one rule after the other. Assumes nothing.
use mathlib.Core.Path.{sym, ◌∙◌}
use Rattle.model.specs.Sound.{sound_roster}
use Rattle.roster.proofs.Lines.sound.Goals as goal

pub returns-then-good : goal.returns-then-good
unfolding sound_roster
returns-then-good c = rw (sym c.good.ensures ∙ c.if-good.true, c.share_sum.ensures)

pub returns-else-good : goal.returns-else-good
unfolding sound_roster
returns-else-good c = rw (sym c.good.ensures ∙ c.if-good.false) c.if-good.false
