-- `octets::zero_bytes` meets its contract: the bytes passed are zeros. Assumes nothing.
use Prim.Native.Nat.{◌≤◌}
use mathlib.Core.Path.{◌≡◌}
use mathlib.Core.Bool.{true}
use Rattle.octets.proofs.Laws.{zero_bytes}
use Rattle.octets.proofs.zero_bytes.Given as goal

abbrev pub invariant-loop-i : goal.invariant-loop-i
invariant-loop-i l = (l.i ≤ l.n) × (zero_bytes l.s l.at l.i ≡ true)
