-- `table::end_entry` meets its contract. Assumes nothing.
use native.Mathlib.Omega.{arith}
use Rattle.table.proofs.WriteLaws as law
use Rattle.table.proofs.end_entry.Goals as goal

pub returns : goal.returns
returns c = rw (c.clear.ensures, c.put8.ensures, c.from.ensures) (law.free_bytes _ _ (omega arith))
