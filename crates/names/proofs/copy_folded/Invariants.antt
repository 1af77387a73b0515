-- `names::copy_folded` meets its contract: what is copied so far is folded. Assumes nothing.
use Prim.Native.Nat.{◌≤◌}
use mathlib.Core.Path.{◌≡◌}
use mathlib.Core.List.{map}
use lib.ListN.{length}
use Rattle.model.specs.Numbers.{part, splice}
use Rattle.model.specs.Names.{fold}
use Rattle.names.proofs.copy_folded.Given as goal

abbrev pub invariant-loop-i : goal.invariant-loop-i
invariant-loop-i l = (l.i ≤ l.n) × (length l.s ≡ length l.initial.s) × (l.s ≡ splice l.at l.i (map fold (part l.from l.i l.d)) l.initial.s)
