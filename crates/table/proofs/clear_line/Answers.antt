-- `table::clear_line` meets its contract. Assumes nothing.
use native.Mathlib.Omega.{arith}
use Rattle.table.proofs.WriteLaws as law
use Rattle.table.proofs.clear_line.Goals as goal

pub returns : goal.returns
returns c = rw (c.clear.ensures, c.put8.ensures) (law.unused-bytes _ _ (omega arith))
