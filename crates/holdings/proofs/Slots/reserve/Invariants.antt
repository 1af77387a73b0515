-- `holdings::Slots::reserve` meets its contract: the reserve of the lines passed. Assumes nothing.
use Prim.Native.Nat.{◌*◌, ◌≤◌}
use mathlib.Core.Path.{◌≡◌}
use Rattle.model.specs.Lists.{count}
use Rattle.model.specs.Rules.{reserve}
use Rattle.layout.specs.Shape.{lines_to}
use Rattle.layout.specs.Held.{held_to}
use Rattle.holdings.proofs.Slots.reserve.Given as goal

abbrev pub invariant-loop-i : goal.invariant-loop-i
invariant-loop-i l = (l.i ≤ l.lines.count) × (l.kept ≤ 255 * l.i) × (l.kept ≡ reserve (lines_to l.lines.bytes.now l.i) (count (held_to 0 l.self.bytes.now l.self.n)))
