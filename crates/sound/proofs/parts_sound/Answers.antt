-- `sound::parts_sound` meets its contract: each record by itself, then the rules of several. Assumes nothing.
use mathlib.Core.Path.{sym, ◌∙◌}
use Rattle.sound.proofs.HolderLaws.{all-good, not_good}
use Rattle.sound.proofs.parts_sound.Goals as goal

pub returns-then-records_good : goal.returns-then-records_good
returns-then-records_good c =
    let a = c.args in
    let l = c.listed-lines.ensures in
    let g = rw l.0 at (sym c.records_good.ensures ∙ c.if-records_good.true) in
    (rw (l.0, l.1) at c.rules_sound.ensures) ∙ sym (all-good a.running a.bytes.now a.slots.bytes.now a.slots.n g)

pub returns-else-records_good : goal.returns-else-records_good
returns-else-records_good c =
    let a = c.args in
    let g = rw c.listed-lines.ensures.0 at (sym c.records_good.ensures ∙ c.if-records_good.false) in
    c.if-records_good.false ∙ sym (not_good a.running a.bytes.now a.slots.bytes.now a.slots.n g)
