-- Claim 2 for a whole datagram: it changes only the clock, its sender's entries, free slots that it is granted, and entries run out. Assumes nothing.
use Rattle.std.specs.Prelude.{ℕ, ◌+◌, ◌*◌, ◌≡◌, List, ◌⊎◌, length}
use Rattle.model.specs.Clock.{advance}
use Rattle.model.specs.Table.{Entry, Slot, free, held, Table, cycle_in, read_table}
use Rattle.model.specs.Sound.{SoundBytes}
use Rattle.model.specs.Serve.{Sender, slot_of}
use Rattle.model.specs.Calls.{ServeCall}
use Rattle.model.specs.Meets.{Server}
use Rattle.claims.specs.Events.{ServeInRange}
use Rattle.claims.specs.Changes.{RunOut}

-- the slot has an entry of the sender, address and port
pub record OfSender (s : Sender) (z : Slot) : Type 0 where
  pub entry : Entry
  pub here : z ≡ held entry
  pub address : entry.address ≡ s.address
  pub port : entry.port ≡ s.port

-- the slot has an entry that has run out at a count
pub record HasRunOut (running : ℕ) (z : Slot) : Type 0 where
  pub entry : Entry
  pub here : z ≡ held entry
  pub run_out : RunOut running entry

-- ONE SLOT, before and after: as it was; or it was free, run out at the moved count or the sender's, and it is free or the sender's
abbrev pub OnlyOwn : Sender → ℕ → Slot → Slot → Type 0
OnlyOwn s running before after =
    (after ≡ before)
    ⊎ (((before ≡ free) ⊎ (HasRunOut running before ⊎ OfSender s before)) × ((after ≡ free) ⊎ OfSender s after))

-- FROM THE TABLE BEFORE TO THE TABLE AFTER
pub record OthersKept (c : ServeCall) (t u : Table) : Type 0 where
  pub layout : u.layout ≡ t.layout
  pub clock : u.clock ≡ advance (cycle_in t) t.clock (c.week * 604800 + c.second)
  pub roster : u.roster ≡ t.roster
  pub size : length u.slots ≡ length t.slots
  pub slots : (j : ℕ) → OnlyOwn c.sender u.clock.running (slot_of t j) (slot_of u j)
  -- so whatever is in the datagram, an entry of another address or port stays as it is until it runs out
  pub others : (j : ℕ) (e : Entry) → slot_of t j ≡ held e → (RunOut u.clock.running e → ⊥) → (e.address ≡ c.sender.address → e.port ≡ c.sender.port → ⊥)
      → slot_of u j ≡ held e

abbrev pub KeepsOthers : Server → Type 0
KeepsOthers s =
    (c : ServeCall) (b lent : List ℕ) → ServeInRange c → SoundBytes b → c.room ≡ length lent → (s.serve c b lent).number ≡ 0
    → OthersKept c (read_table b) (read_table (s.serve c b lent).table)
