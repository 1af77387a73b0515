-- `table::free_run_out` meets its contract. Assumes nothing.
use Prim.Native.Nat.{◌≤◌}
use mathlib.Core.Path.{◌≡◌}
use lib.ListN.{length, take}
use Rattle.model.specs.Lists.{count, flat}
use Rattle.layout.specs.Shape.{slots_to}
use Rattle.model.specs.Table.{slot_bytes}
use Rattle.model.specs.Serve.{slot_run_out}
use Rattle.table.specs.Sweep.{freed_to}
use Rattle.model.specs.Numbers.{Bytes}
use Rattle.table.proofs.free_run_out.Given as goal

abbrev pub invariant-loop-i : goal.invariant-loop-i
invariant-loop-i l = (l.freed ≤ l.i) × (length l.slots ≡ length l.initial.slots) × (l.slots ≡ flat slot_bytes (freed_to l.running (slots_to l.initial.slots l.n) l.i))
    × (l.freed ≡ count (take l.i (slots_to l.initial.slots l.n)) (slot_run_out l.running)) × Bytes l.initial.slots
