-- Document 01's sound table: rule by rule as a record of facts, and as a test. Assumes nothing.
use Rattle.std.specs.Prelude.{ℕ, ◌+◌, ◌^◌, ◌≤◌, ◌<◌, ◌≡◌, Bool, not, ◌&&◌, List, length, get_or, eqb, leb, ltb}
use Rattle.model.specs.Lists.{count, any, every, no_two, same}
use Rattle.model.specs.Names.{lower_name}
use Rattle.model.specs.Table.{Line, Entry, Slot, free, held, Table, place_bytes, cycle_in, table_bytes, read_table}
use Rattle.model.specs.Rules.{Holding, holdings, held_by, numbered, limit_of, reserve, shares}

-- OF ONE LINE: 0 ≤ share ≤ limit, limit is 1 to 64
abbrev pub valid_line : Line → Bool
valid_line l = leb l.share l.limit && leb 1 l.limit && leb l.limit 64

-- OF TWO LINES
abbrev pub same_address : Line → Line → Bool
same_address l m = eqb l.address m.address

-- OF ONE ENTRY
abbrev pub non_zero_number : Holding → Bool
non_zero_number h = not (eqb h.number 0)

abbrev pub valid_lease : Holding → Bool
valid_lease h = leb 60 h.lease && leb h.lease 7200

abbrev pub live : Holding → Bool
live h = ltb h.age h.lease

abbrev pub valid_name : Holding → Bool
valid_name h = lower_name 0 h.name

abbrev pub valid_entry : Holding → Bool
valid_entry h = non_zero_number h && valid_lease h && live h && valid_name h

-- OF TWO ENTRIES
abbrev pub same_number : Holding → Holding → Bool
same_number h k = eqb h.number k.number

abbrev pub same_question : Holding → Holding → Bool
same_question h k =
    eqb h.address k.address && eqb h.port k.port && eqb h.qtype k.qtype && eqb h.qclass k.qclass && same h.name k.name

-- THE RULES AS FACTS. "None fails" is a count of 0, "no two" is a count of at most 1.
pub record Sound (t : Table) : Type 0 where
  -- the last place is under the cycle: 619,315,200, or with weeks of thirteen bits 4,954,521,600
  pub place : t.clock.place < cycle_in t
  -- n slots, n from 1 to 64
  pub slots_min : 1 ≤ length t.slots
  pub slots_max : length t.slots ≤ 64
  -- 16 roster lines
  pub lines : length t.roster ≤ 16
  -- listed addresses differ
  pub listed_once : (a : ℕ) → count t.roster (λ l. eqb l.address a) ≤ 1
  -- 0 ≤ share ≤ limit, limit is 1 to 64
  pub valid_lines : count t.roster (λ l. not (valid_line l)) ≡ 0
  -- shares sum to at most n
  pub share_sum : shares t.roster ≤ length t.slots
  -- LLQ numbers are non-zero
  pub non_zero : count (holdings t) (λ h. not (non_zero_number h)) ≡ 0
  -- and differ
  pub numbers : (x : ℕ) → count (holdings t) (numbered x) ≤ 1
  -- leases are 60 to 7,200
  pub leases : count (holdings t) (λ h. not (valid_lease h)) ≡ 0
  -- ages are under leases
  pub ages : count (holdings t) (λ h. not (live h)) ≡ 0
  -- names are valid wire names in lower case of the stated length
  pub names : count (holdings t) (λ h. not (valid_name h)) ≡ 0
  -- no two entries agree in address, port, name, type and class
  pub questions : (k : Holding) → count (holdings t) (same_question k) ≤ 1
  -- no address holds more entries than its limit
  pub limits : (a : ℕ) → count (holdings t) (held_by a) ≤ limit_of t.roster a
  -- free slots number at least the reserve
  pub reserved : reserve t.roster (count (holdings t)) + count (holdings t) any ≤ length t.slots

-- THE VALUES FIT THEIR FIELDS, as those read from bytes always do
pub record FitsEntry (e : Entry) : Type 0 where
  pub address : e.address < 256 ^ 16
  pub port : e.port < 256 ^ 2
  pub number : e.number < 256 ^ 8
  pub lease : e.lease < 256 ^ 4
  pub stamp : e.stamp < 256 ^ 4
  pub qtype : e.qtype < 256 ^ 2
  pub qclass : e.qclass < 256 ^ 2
  pub size : length e.name ≤ 255
  pub bytes : (i : ℕ) → get_or e.name i 0 < 256

pub record FitsLine (l : Line) : Type 0 where
  pub address : l.address < 256 ^ 16
  pub share : l.share < 256
  pub limit : l.limit < 256

abbrev pub FitsSlot : Slot → Type 0
FitsSlot free = Unit {0}
FitsSlot (held e) = FitsEntry e

pub record Fits (t : Table) : Type 0 where
  pub place : t.clock.place < 256 ^ place_bytes t.layout
  pub running : t.clock.running < 256 ^ 4
  pub lines : (i : ℕ) → i < length t.roster → FitsLine (get_or t.roster i (record { address = 0; share = 0; limit = 0 }))
  pub slots : (i : ℕ) → i < length t.slots → FitsSlot (get_or t.slots i free)

-- a sound table whose bytes these are
pub record SoundBytes (b : List ℕ) : Type 0 where
  pub table : Table
  pub sound : Sound table
  pub fits : Fits table
  pub bytes : table_bytes table ≡ b

-- THE RULES AS A TEST

-- the roster rules of n slots
unfoldable pub sound_roster : ℕ → List Line → Bool
sound_roster n ls = every valid_line ls && no_two same_address ls && leb (shares ls) n

unfoldable pub sound_holdings : ℕ → List Line → List Holding → Bool
sound_holdings n ls hs =
    every valid_entry hs && no_two same_number hs && no_two same_question hs
    && every (λ h. leb (count hs (held_by h.address)) (limit_of ls h.address)) hs && leb (reserve ls (count hs) + count hs any) n

unfoldable pub sound_table : Table → Bool
sound_table t =
    ltb t.clock.place (cycle_in t) && (leb 1 (length t.slots) && leb (length t.slots) 64) && leb (length t.roster) 16
    && sound_roster (length t.slots) t.roster && sound_holdings (length t.slots) t.roster (holdings t)

-- of bytes: they are those of the table that they are read as, so that kinds, order, lengths and zeros are right, and the rules hold of it
unfoldable pub sound_bytes : List ℕ → Bool
sound_bytes b = same (table_bytes (read_table b)) b && sound_table (read_table b)
