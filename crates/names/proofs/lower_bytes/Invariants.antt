-- `names::lower_bytes` meets its contract: the `or` over the bytes passed is zero exactly if none is a capital. Assumes nothing.
use Prim.Native.Nat.{◌≤◌}
use mathlib.Core.Path.{◌≡◌}
use lib.Dec.{eqb}
use Rattle.names.proofs.NameLaws.{lower_bytes}
use Rattle.names.proofs.lower_bytes.Given as goal

abbrev pub invariant-loop-i : goal.invariant-loop-i
invariant-loop-i l = (l.i ≤ l.n) × (eqb l.capitals 0 ≡ lower_bytes l.t l.at l.i)
