-- `sound::Table::holder_sound` meets its contract: the entries passed ask another question than the one at c, and those of its address are counted. Assumes nothing.
use Prim.Native.Nat.{◌*◌, ◌≤◌}
use mathlib.Core.Path.{◌≡◌}
use mathlib.Core.Bool.{true, not}
use Rattle.model.specs.Lists.{count, every}
use Rattle.model.specs.Rules.{held_by}
use Rattle.model.specs.Sound.{same_question}
use Rattle.layout.specs.Held.{holding_at, held_to}
use Rattle.record.specs.Address.{address_of}
use Rattle.sound.proofs.Table.holder_sound.Given as goal

abbrev pub invariant-loop-j : goal.invariant-loop-j
invariant-loop-j l = (l.j ≤ l.i) × (l.k ≤ l.j) × (every (λ h. not (same_question h (holding_at 0 l.self.slots.bytes.now (320 * l.i)))) (held_to 0 l.self.slots.bytes.now l.j) ≡ true) × (l.k ≡ count (held_to 0 l.self.slots.bytes.now l.j) (held_by (address_of l.address)))
