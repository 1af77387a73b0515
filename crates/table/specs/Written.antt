-- Bytes and the table that they are. Assumes nothing.
use Rattle.std.specs.Prelude.{ℕ, ◌≡◌, List}
use Rattle.model.specs.Lists.{flat}
use Rattle.model.specs.Table.{Table, slot_bytes, table_bytes, read_table}
use Rattle.layout.specs.Shape.{slots_to}

-- the bytes are those of the table that they are read as
abbrev pub WellFormed : List ℕ → Type 0
WellFormed b = table_bytes (read_table b) ≡ b

-- the bytes are those of the n slots that they are read as
abbrev pub FormedSlots : List ℕ → ℕ → Type 0
FormedSlots b n = flat slot_bytes (slots_to b n) ≡ b

-- the bytes are those of this table, and it is read back from them
pub record Written (b : List ℕ) (t : Table) : Type 0 where
  pub bytes : b ≡ table_bytes t
  pub read : read_table b ≡ t
