-- `table::put_lease_fields` meets its contract. Assumes nothing.
use native.Mathlib.Omega.{arith}
use Rattle.model.proofs.NumberLaws.{writes-eq}
use Rattle.table.specs.Stored.{lease_fields}
use Rattle.table.proofs.put_lease_fields.Goals as goal

pub returns : goal.returns
returns c =
    rw (c.put16-2.ensures, c.put16.ensures, c.put32-2.ensures, c.put32.ensures)
    (writes-eq (lease_fields c.args.e) 27 c.args.s.now (omega (arith, c)))
