-- `octets::zero_both` meets its contract: each `or` is zero exactly if the bytes passed in its range are. Assumes nothing.
use Prim.Native.Nat.{◌≤◌}
use mathlib.Core.Path.{◌≡◌}
use lib.Dec.{eqb}
use Rattle.octets.proofs.Laws.{zero_bytes}
use Rattle.octets.proofs.zero_both.Given as goal

abbrev pub invariant-loop-i : goal.invariant-loop-i
invariant-loop-i l = (l.i ≤ l.n) × ((eqb l.x 0 ≡ zero_bytes l.s l.a l.i) × (eqb l.y 0 ≡ zero_bytes l.s l.b l.i))
