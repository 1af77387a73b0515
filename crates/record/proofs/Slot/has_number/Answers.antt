-- `record::Slot::has_number` meets its contract: the order of its tests is free. Assumes nothing.
use mathlib.Core.Path.{sym}
use mathlib.Core.Bool.{and-true, and-false}
use borrow.Author.Tests.{eq-eqb, ne_eqb}
use lib.ListN.{get_or}
use Rattle.model.specs.Table.{read_entry}
use Rattle.layout.specs.Shape.{in_use}
use Rattle.layout.specs.Held.{holding_at}
use Rattle.record.proofs.Slot.has_number.Goals as goal

pub returns-then-own-number : goal.returns-then-own-number
unfolding holding_at read_entry
returns-then-own-number c = rw (← c.number-own.ensures, eq-eqb _ _ c.if-own-number.true, and-true) c.in_use.ensures

pub returns : goal.returns
unfolding holding_at read_entry
returns c = rw (← c.number-own.ensures, ne_eqb _ _ c.if-own-number.false) (sym (and-false (in_use (get_or c.args.self.bytes.now c.args.self.at 0))))
