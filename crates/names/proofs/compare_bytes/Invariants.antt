-- `names::compare_bytes` meets its contract: the bytes passed agree, and the first that differs decides. Assumes nothing.
use Prim.Native.Nat.{◌≤◌}
use mathlib.Core.Path.{◌≡◌}
use mathlib.Core.List.{map}
use Rattle.model.specs.Numbers.{part}
use Rattle.names.proofs.compare_bytes.Given as goal

abbrev pub invariant-loop-i : goal.invariant-loop-i
invariant-loop-i g l = (l.i ≤ l.n) × (part l.a l.i l.t ≡ part l.b l.i (map g.made l.d))
