-- One slot of a table, read and written, which the claims of changes cite. Assumes nothing.
use Rattle.std.specs.Prelude.{ℕ, ◌<◌, ◌≡◌, ◌≢◌, length, get_or}
use Rattle.model.specs.Table.{Slot, free, Table}
use Rattle.model.specs.Serve.{slot_of, with_slot}

-- from table t to table u slot j is written and all else stays
pub record SlotWritten (t : Table) (j : ℕ) (s : Slot) (u : Table) : Type 0 where
  pub layout : u.layout ≡ t.layout
  pub clock : u.clock ≡ t.clock
  pub roster : u.roster ≡ t.roster
  pub size : length u.slots ≡ length t.slots
  pub here : get_or u.slots j free ≡ s
  pub others : (k : ℕ) → k ≢ j → get_or u.slots k free ≡ get_or t.slots k free

-- THE CLAIM, of every table
pub record OneSlot : Type 0 where
  pub read : (t : Table) (j : ℕ) → slot_of t j ≡ get_or t.slots j free
  pub written : (t : Table) (j : ℕ) (s : Slot) → j < length t.slots → SlotWritten t j s (with_slot t j s)
