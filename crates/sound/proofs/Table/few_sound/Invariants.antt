-- `sound::Table::few_sound` meets its contract: the entries passed meet the rules of holders, and k is the reserve and they. Assumes nothing.
use Prim.Native.Nat.{◌+◌, ◌≤◌}
use mathlib.Core.Path.{◌≡◌}
use mathlib.Core.Bool.{true}
use Rattle.model.specs.Lists.{count, any, no_two}
use Rattle.model.specs.Rules.{reserve}
use Rattle.model.specs.Sound.{same_number}
use Rattle.roster.specs.Lines.{lines_of}
use Rattle.layout.specs.Held.{held_to}
use Rattle.sound.specs.Holders.{holders_sound}
use Rattle.sound.proofs.Table.few_sound.Given as goal

abbrev pub invariant-loop-i : goal.invariant-loop-i
invariant-loop-i l = (l.i ≤ l.self.slots.n) × (l.k ≤ l.shares + l.i) × (no_two same_number (held_to 0 l.self.slots.bytes.now l.i) ≡ true) × (holders_sound l.self.slots.bytes.now (lines_of l.self.lines) l.i ≡ true)
    × (l.k ≡ reserve (lines_of l.self.lines) (count (held_to 0 l.self.slots.bytes.now l.i)) + count (held_to 0 l.self.slots.bytes.now l.i) any)
