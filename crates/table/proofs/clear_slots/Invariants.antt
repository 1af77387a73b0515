-- `table::clear_slots` meets its contract. Assumes nothing.
use Prim.Native.Nat.{◌*◌}
use mathlib.Core.Path.{◌≡◌}
use lib.ListN.{length}
use Rattle.model.specs.Numbers.{splice}
use Rattle.table.specs.Fresh.{free_slots}
use Rattle.table.proofs.clear_slots.Given as goal

abbrev pub invariant-loop-i : goal.invariant-loop-i
invariant-loop-i l = (length l.slots ≡ length l.initial.slots) × (l.slots ≡ splice 0 (320 * l.i) (free_slots l.i) l.initial.slots)
