-- `table::clear_slots` meets its contract. Assumes nothing.
use native.Mathlib.Omega.{arith}
use mathlib.Core.Path.{◌≡◌, refl, ◌∙◌}
use Rattle.table.proofs.FreshLaws as made
use Rattle.table.proofs.clear_slots.Goals as goal

pub loop-i-init : goal.loop-i-init
loop-i-init c = (refl, made.slots-none _ _)

pub loop-i-preserved : goal.loop-i-preserved
loop-i-preserved c =
    let l = c.loop-i in
    (c.end_entry.auto.slots ∙ l.invariant.0, made.slots-more c.args.slots.now l.slots _ l.i (omega arith) l.invariant.1 c.end_entry.ensures)

pub returns : goal.returns
returns c =
    let e : c.loop-i.i ≡ c.args.n = omega arith in
    rw e at c.loop-i.invariant.1
