-- `sound::Table::entry_beyond_share` meets its contract: the entries passed have another number and ask another question, and those of its address are counted. Assumes nothing.
use Prim.Native.Nat.{ℕ, ◌-◌, ◌*◌, ◌≤◌}
use mathlib.Core.Path.{◌≡◌}
use mathlib.Core.Bool.{true, not}
use Rattle.model.specs.Lists.{count, every}
use Rattle.model.specs.Rules.{numbered, held_by}
use Rattle.model.specs.Sound.{same_question}
use Rattle.layout.specs.Held.{holding_at, held_to}
use Rattle.record.specs.Address.{address_of}
use Rattle.sound.proofs.Table.entry_beyond_share.Given as goal

abbrev pub invariant-loop-at : goal.invariant-loop-at
invariant-loop-at l = (j : ℕ) × (l.at ≡ 320 * j) × (j ≤ l.i) × (l.k ≤ j) × (every (λ h. not (numbered l.number.0 h)) (held_to 0 l.self.slots.bytes.now j) ≡ true)
    × (every (λ h. not (same_question h (holding_at 0 l.self.slots.bytes.now (320 * l.i)))) (held_to 0 l.self.slots.bytes.now j) ≡ true) × (l.k ≡ count (held_to 0 l.self.slots.bytes.now j) (held_by (address_of l.address)))

abbrev pub decreases-loop-at : goal.decreases-loop-at
decreases-loop-at l = 320 * l.i - l.at
