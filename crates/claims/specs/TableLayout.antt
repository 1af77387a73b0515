-- The table's layout, place by place, apart from the model's encoder and reader. Assumes nothing.
use Rattle.std.specs.Prelude.{ℕ, ◌+◌, ◌*◌, ◌≤◌, ◌<◌, ◌≡◌, cond, List, length, get_or}
use Rattle.model.specs.Clock.{Clock, Weeks, ten_bit, thirteen_bit}
use Rattle.model.specs.Table.{Line, Entry, Slot, free, held, Table, table_bytes, read_table}
use Rattle.model.specs.Sound.{Fits, SoundBytes}
use Rattle.claims.specs.Exactly.{Exactly}
use Rattle.claims.specs.NumbersInBytes.{value_at}
use Rattle.claims.specs.SoundRules.{line_in, SoundRules}

-- RECORDS in a table's bytes b: a byte of kind at a place, and a body behind it

-- what differs by the weeks that the clock counts: the clock record's kind and the width of its place, and where the running count, the roster lines
-- and the slots start
pub record Places : Type 0 where
  pub kind : ℕ
  pub width : ℕ
  pub running : ℕ
  pub lines : ℕ
  pub slots : ℕ

-- kind 1, body 8: last place 4, running count 4; or kind 9, body 12: last place 8, running count 4
abbrev pub offsets_of : Weeks → Places
offsets_of ten_bit = record { kind = 1; width = 4; running = 5; lines = 9; slots = 313 }
offsets_of thirteen_bit = record { kind = 9; width = 8; running = 9; lines = 13; slots = 317 }

pub record ClockRecord (p : Places) (b : List ℕ) (c : Clock) : Type 0 where
  pub kind : get_or b 0 0 ≡ p.kind
  pub place : value_at b 1 p.width ≡ c.place
  pub running : value_at b p.running 4 ≡ c.running

-- kind 3, body 18: listed address 16, share 1, limit 1
pub record LineRecord (b : List ℕ) (at : ℕ) (l : Line) : Type 0 where
  pub kind : get_or b at 0 ≡ 3
  pub address : value_at b (at + 1) 16 ≡ l.address
  pub share : get_or b (at + 17) 0 ≡ l.share
  pub limit : get_or b (at + 18) 0 ≡ l.limit

-- a body of zeros
pub record ZeroRecord (b : List ℕ) (at first body : ℕ) : Type 0 where
  pub kind : get_or b at 0 ≡ first
  pub zeros : (i : ℕ) → i < body → get_or b (at + 1 + i) 0 ≡ 0

-- kind 5 pending, 6 established, body 319: address 16, port 2, LLQ number 8, granted lease 4, stamp 4, type 2, class 2, name length 1, name 255
-- padded with zeros, 25 zeros
pub record EntryRecord (b : List ℕ) (at : ℕ) (e : Entry) : Type 0 where
  pub kind : get_or b at 0 ≡ cond e.established 6 5
  pub address : value_at b (at + 1) 16 ≡ e.address
  pub port : value_at b (at + 17) 2 ≡ e.port
  pub number : value_at b (at + 19) 8 ≡ e.number
  pub lease : value_at b (at + 27) 4 ≡ e.lease
  pub stamp : value_at b (at + 31) 4 ≡ e.stamp
  pub qtype : value_at b (at + 35) 2 ≡ e.qtype
  pub qclass : value_at b (at + 37) 2 ≡ e.qclass
  pub size : get_or b (at + 39) 0 ≡ length e.name
  pub name : (i : ℕ) → i < length e.name → get_or b (at + 40 + i) 0 ≡ get_or e.name i 0
  pub zeros : (i : ℕ) → length e.name ≤ i → i < 280 → get_or b (at + 40 + i) 0 ≡ 0

-- kind 4, body 319: a free slot, all zero
abbrev pub SlotRecord : List ℕ → ℕ → Slot → Type 0
SlotRecord b at free = ZeroRecord b at 4 319
SlotRecord b at (held e) = EntryRecord b at e

-- A TABLE of n slots: one clock record, 16 roster lines, the listed ones first and then unused ones (kind 2, body 18, all zero), the slots
pub record RecordsAt (p : Places) (b : List ℕ) (t : Table) : Type 0 where
  pub size : length b ≡ p.slots + 320 * length t.slots
  pub octets : (i : ℕ) → i < length b → get_or b i 0 < 256
  pub clock : ClockRecord p b t.clock
  pub listed : (i : ℕ) → i < length t.roster → LineRecord b (p.lines + 19 * i) (line_in t.roster i)
  pub unused : (i : ℕ) → length t.roster ≤ i → i < 16 → ZeroRecord b (p.lines + 19 * i) 2 18
  pub slots : (j : ℕ) → j < length t.slots → SlotRecord b (p.slots + 320 * j) (get_or t.slots j free)

-- at the places of its weeks
abbrev pub TableRecords : List ℕ → Table → Type 0
TableRecords b t = RecordsAt (offsets_of t.layout.weeks) b t

-- THE BYTES OF A SOUND TABLE, told by their places
pub record SoundRecords (b : List ℕ) : Type 0 where
  pub table : Table
  pub rules : SoundRules table
  pub laid : TableRecords b table

-- THE CLAIM, of every table of at most 16 lines
pub record TableLayout : Type 0 where
  -- bytes are laid out so exactly if they are the table's and its values fit their fields
  pub written : (b : List ℕ) (t : Table) → length t.roster ≤ 16 → Exactly (TableRecords b t) (Fits t × (table_bytes t ≡ b))
  -- and they are read as that table
  pub read : (b : List ℕ) (t : Table) → length t.roster ≤ 16 → TableRecords b t → read_table b ≡ t
  -- so soundness of bytes is what their places say and document 01's rules
  pub sound : (b : List ℕ) → Exactly (SoundBytes b) (SoundRecords b)
