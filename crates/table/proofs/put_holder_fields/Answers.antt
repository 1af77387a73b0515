-- `table::put_holder_fields` meets its contract. Assumes nothing.
use native.Mathlib.Omega.{arith}
use Rattle.model.proofs.NumberLaws.{writes-eq}
use Rattle.table.specs.Stored.{holder_halves}
use Rattle.table.proofs.EntryLaws as entry
use Rattle.table.proofs.put_holder_fields.Goals as goal

pub returns : goal.returns
returns c =
    rw (← entry.halves-written c.args.e (omega (arith, c)), c.put64-3.ensures, c.put16.ensures, c.put64-2.ensures, c.put64.ensures, c.put8.ensures, c.from.ensures)
    (writes-eq (holder_halves c.args.e) 0 c.args.s.now (omega (arith, c)))
