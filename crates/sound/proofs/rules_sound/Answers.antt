-- `sound::rules_sound` meets its contract: one rule after the other; the roster's rules hold where the entries are judged. Assumes nothing.
use mathlib.Core.Path.{sym, ◌∙◌}
use borrow.Author.Tests.{le-leb, lt-leb}
use Rattle.model.specs.Sound.{sound_roster}
use Rattle.sound.proofs.rules_sound.Goals as goal

pub returns-then-not-good : goal.returns-then-not-good
unfolding sound_roster
returns-then-not-good c = rw (sym c.good.ensures ∙ c.if-not-good.true)

pub returns-then-shares-slots : goal.returns-then-shares-slots
unfolding sound_roster
returns-then-shares-slots c = rw (sym c.good.ensures ∙ c.if-not-good.false, ← c.share_sum-shares.ensures, lt-leb _ _ c.if-shares-slots.true)

pub returns : goal.returns
unfolding sound_roster
returns c = rw (sym c.good.ensures ∙ c.if-not-good.false, ← c.share_sum-shares.ensures, le-leb _ _ c.if-shares-slots.false) c.entries_sound.ensures
