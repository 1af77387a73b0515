-- The proof of `Cursor::name`. Assumes nothing.
use Prim.Native.Nat.{◌+◌, ◌-◌, ◌≤◌}
use mathlib.Core.Path.{◌≡◌}
use lib.ListN.{drop}
use Rattle.model.specs.Names.{name_size}
use Rattle.model.specs.Query.{name_at}
use Rattle.wire.proofs.Cursor.name.Given as goal

abbrev pub invariant-loop-c : goal.invariant-loop-c
invariant-loop-c l = (l.start ≤ l.c.at) × (l.c.at ≤ l.start + 318) × (name_at l.s l.start ≡ name_size 0 (l.c.at - l.start) (drop l.c.at l.s))

abbrev pub decreases-loop-c : goal.decreases-loop-c
decreases-loop-c l = l.start + 318 - l.c.at
