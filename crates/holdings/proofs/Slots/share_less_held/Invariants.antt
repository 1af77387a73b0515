-- `holdings::Slots::share_less_held` meets its contract: an entry of the address takes one from what is left, down to nothing. Assumes nothing.
use Prim.Native.Nat.{◌-◌, ◌≤◌}
use mathlib.Core.Path.{◌≡◌}
use Rattle.model.specs.Lists.{count}
use Rattle.model.specs.Rules.{held_by}
use Rattle.layout.specs.Held.{held_to}
use Rattle.record.specs.Address.{address_of}
use Rattle.holdings.proofs.Slots.share_less_held.Given as goal

abbrev pub invariant-loop-i : goal.invariant-loop-i
invariant-loop-i l = (l.i ≤ l.self.n) × (1 ≤ l.left) × (l.left ≤ l.share) × (l.share - l.left ≡ count (held_to 0 l.self.bytes.now l.i) (held_by (address_of l.address)))
