-- The entries of the slots that code looks at: how many there are of a kind. Assumes nothing.
use Rattle.std.specs.Prelude.{ℕ, Bool, ◌*◌, ◌&&◌, get_or}
use Rattle.model.specs.Lists.{count}
use Rattle.model.specs.Rules.{Holding, Counts}
use Rattle.layout.specs.Shape.{in_use}
use Rattle.layout.specs.Held.{held_to, holding_at}
use Rattle.holdings.specs.declared.Slots.{Slots}

abbrev pub held_in : Slots → Counts
held_in s = count (held_to 0 s.bytes.now s.n)

-- slot i has an entry that passes the test
abbrev pub held_at : Slots → (Holding → Bool) → ℕ → Bool
held_at s p i = in_use (get_or s.bytes.now (320 * i) 0) && p (holding_at 0 s.bytes.now (320 * i))
