-- `names::labels` meets its contract: what is left of the name at each label decides it. Assumes nothing.
use Prim.Native.Nat.{◌+◌, ◌-◌, ◌≤◌}
use mathlib.Core.Path.{◌≡◌}
use Rattle.model.specs.Numbers.{part}
use Rattle.names.specs.Labels.{labelled}
use Rattle.names.proofs.labels.Given as goal

abbrev pub invariant-loop-i : goal.invariant-loop-i
invariant-loop-i l = (l.i ≤ l.len + 64) × (labelled 0 (part l.at l.len l.t) ≡ labelled 0 (part (l.at + l.i) (l.len - l.i) l.t))

abbrev pub decreases-loop-i : goal.decreases-loop-i
decreases-loop-i l = l.len - l.i
