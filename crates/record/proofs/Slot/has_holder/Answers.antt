-- `record::Slot::has_holder` meets its contract: the order of its two tests is free. Assumes nothing.
use mathlib.Core.Path.{sym}
use mathlib.Core.Bool.{and-true, and-false}
use lib.ListN.{get_or}
use Rattle.model.specs.Table.{read_entry}
use Rattle.layout.specs.Shape.{in_use}
use Rattle.layout.specs.Held.{holding_at}
use Rattle.record.proofs.Slot.has_holder.Goals as goal

pub returns-then-has_address : goal.returns-then-has_address
unfolding holding_at read_entry
returns-then-has_address c = rw (← c.has_address.ensures, c.if-has_address.true, and-true) c.in_use.ensures

pub returns : goal.returns
unfolding holding_at read_entry
returns c = rw (← c.has_address.ensures, c.if-has_address.false) (sym (and-false (in_use (get_or c.args.self.bytes.now c.args.self.at 0))))
