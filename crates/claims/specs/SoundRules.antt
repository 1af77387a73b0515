-- Document 01's sound table, told line by line and slot by slot, apart from the model's tests and counts. Assumes nothing.
use Rattle.std.specs.Prelude.{ℕ, ◌+◌, ◌-◌, ◌%◌, ◌^◌, ◌≤◌, ◌<◌, ◌≡◌, cond, List, [], ◌∷◌, ◌≢◌, length, get_or, eqb, ltb}
use Rattle.model.specs.Table.{Line, Entry, Slot, free, held, Table}
use Rattle.model.specs.Sound.{Sound}
use Rattle.claims.specs.Lengths.{cycle_with}
use Rattle.claims.specs.Tally.{line_of}
use Rattle.claims.specs.Exactly.{Exactly}
use Rattle.claims.specs.StoredNames.{StoredName}

-- ONE ROSTER LINE: 0 ≤ share ≤ limit, limit is 1 to 64
pub record LineRules (l : Line) : Type 0 where
  pub share : l.share ≤ l.limit
  pub limit_min : 1 ≤ l.limit
  pub limit_max : l.limit ≤ 64

-- line i
abbrev pub line_in : List Line → ℕ → Line
line_in ls i = get_or ls i (record { address = 0; share = 0; limit = 0 })

-- the sum of the shares
abbrev pub sum_of_shares : List Line → ℕ
sum_of_shares [] = 0
sum_of_shares (l ∷ ls) = l.share + sum_of_shares ls

-- ONE ENTRY, pending or established, at a running count
pub record EntryRules (running : ℕ) (e : Entry) : Type 0 where
  pub number : e.number ≢ 0
  pub lease_min : 60 ≤ e.lease
  pub lease_max : e.lease ≤ 7200
  -- its age, the running count less its stamp modulo 2^32, is under its lease
  pub age : (running + 2 ^ 32 - e.stamp) % 2 ^ 32 < e.lease
  pub name : StoredName e.name

-- TWO ENTRIES that agree in address, port, name, type and class
pub record Agreeing (e f : Entry) : Type 0 where
  pub address : e.address ≡ f.address
  pub port : e.port ≡ f.port
  pub name : e.name ≡ f.name
  pub qtype : e.qtype ≡ f.qtype
  pub qclass : e.qclass ≡ f.qclass

-- HOW MANY SLOTS hold an entry of this address
unfoldable pub held_slots : List Slot → ℕ → ℕ
held_slots [] a = 0
held_slots (free ∷ s) a = held_slots s a
held_slots (held e ∷ s) a = cond (eqb e.address a) (1 + held_slots s a) (held_slots s a)

-- are free
unfoldable pub free_slots : List Slot → ℕ
free_slots [] = 0
free_slots (free ∷ s) = 1 + free_slots s
free_slots (held e ∷ s) = free_slots s

-- are reserved: over roster lines, share less held where that is positive
unfoldable pub reserved_slots : List Line → List Slot → ℕ
reserved_slots [] s = 0
reserved_slots (l ∷ ls) s = cond (ltb (held_slots s l.address) l.share) (l.share - held_slots s l.address) 0 + reserved_slots ls s

-- slot j holds the entry
abbrev pub InSlot : Table → ℕ → Entry → Type 0
InSlot t j e = get_or t.slots j free ≡ held e

pub record SoundRules (t : Table) : Type 0 where
  -- the last place is under 619,315,200, or with weeks of thirteen bits 4,954,521,600; 1 to 64 slots; 16 roster lines
  pub place : t.clock.place < cycle_with t.layout.weeks
  pub slots_min : 1 ≤ length t.slots
  pub slots_max : length t.slots ≤ 64
  pub lines_max : length t.roster ≤ 16
  -- the roster's lines: each by itself, listed addresses differ, shares sum to at most n
  pub lines : (i : ℕ) → i < length t.roster → LineRules (line_in t.roster i)
  pub listed_once : (i j : ℕ) → i < j → j < length t.roster → (line_in t.roster i).address ≢ (line_in t.roster j).address
  pub shares : sum_of_shares t.roster ≤ length t.slots
  -- the entries: each by itself, LLQ numbers differ, no two agree
  pub entries : (j : ℕ) (e : Entry) → InSlot t j e → EntryRules t.clock.running e
  pub numbers : (i j : ℕ) (e f : Entry) → i < j → InSlot t i e → InSlot t j f → e.number ≢ f.number
  pub questions : (i j : ℕ) (e f : Entry) → i < j → InSlot t i e → InSlot t j f → Agreeing e f → ⊥
  -- no address holds more entries than its limit; free slots number at least the reserve
  pub limits : (a : ℕ) → held_slots t.slots a ≤ (line_of t.roster a).limit
  pub reserved : reserved_slots t.roster t.slots ≤ free_slots t.slots

-- THE CLAIM, of every table
abbrev pub SoundExactly : Type 0
SoundExactly = (t : Table) → Exactly (Sound t) (SoundRules t)
