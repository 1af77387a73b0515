-- `entries::slot_asks` meets its contract: the holder, and then what is asked. Assumes nothing.
use Rattle.std.proofs.Common.{sym, ◌∙◌}
use Rattle.model.specs.Rules.{held_by}
use Rattle.entries.specs.Reads.{sender_of}
use Rattle.layout.specs.Held.{holding_at}
use Rattle.entries.proofs.Laws as law
use Rattle.entries.proofs.slot_asks.Goals as goal

pub returns-then-has_holder : goal.returns-then-has_holder
unfolding holding_at
returns-then-has_holder c =
    c.entry_asks.ensures ∙ sym (law.has-likely _ _ c.args.slot.bytes.now c.args.slot.at (held_by (sender_of c.args.asked.sender).address) (sym c.has_holder.ensures ∙ c.if-has_holder.true))

pub returns-else-has_holder : goal.returns-else-has_holder
unfolding holding_at
returns-else-has_holder c =
    c.if-has_holder.false ∙ sym (law.has-unlikely _ _ c.args.slot.bytes.now c.args.slot.at (held_by (sender_of c.args.asked.sender).address) (λ e. rw e) (sym c.has_holder.ensures ∙ c.if-has_holder.false))
