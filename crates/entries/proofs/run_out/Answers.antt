-- `entries::run_out` meets its contract: by the kind. Assumes nothing.
use Rattle.std.proofs.Common.{sym, ◌∙◌}
use Rattle.model.specs.Table.{read_entry}
use Rattle.model.specs.Serve.{slot_run_out}
use Rattle.layout.proofs.ReadLaws.{read_held, read-free}
use Rattle.entries.proofs.run_out.Goals as goal

pub returns-then-in_use : goal.returns-then-in_use
unfolding slot_run_out read_entry
returns-then-in_use c =
    rw (read_held c.args.slot.bytes.now c.args.slot.at (sym c.in_use.ensures ∙ c.if-in_use.true), ← c.stamp.ensures, ← c.lease.ensures) c.run_out.ensures

pub returns-else-in_use : goal.returns-else-in_use
unfolding slot_run_out
returns-else-in_use c =
    rw (read-free c.args.slot.bytes.now c.args.slot.at (sym c.in_use.ensures ∙ c.if-in_use.false)) c.if-in_use.false
