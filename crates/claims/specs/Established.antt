-- Claim 3: a pending query is established exactly when it should be, from the table before a datagram to the table after. Assumes nothing.
use Rattle.std.specs.Prelude.{ℕ, ◌+◌, ◌*◌, ◌<◌, ◌≡◌, true, false, List, ◌≢◌, length}
use Rattle.model.specs.Clock.{advance}
use Rattle.model.specs.Query.{question, llq_option}
use Rattle.model.specs.Table.{Entry, held, Table, cycle_in, read_table}
use Rattle.model.specs.Sound.{SoundBytes}
use Rattle.model.specs.Serve.{slot_of}
use Rattle.model.specs.Calls.{ServeCall}
use Rattle.model.specs.Meets.{Server}
use Rattle.claims.specs.Events.{ServeInRange}
use Rattle.claims.specs.Changes.{RunOut, established_entry, RightResponse, RightRefresh, done_options}

-- the datagram's running count: that of the table before, moved on by its reading
abbrev pub moved_count : ServeCall → Table → ℕ
moved_count c t = (advance (cycle_in t) t.clock (c.week * 604800 + c.second)).running

-- option i of the datagram is a right response to the entry at this running count
abbrev pub ResponseTo : ℕ → ServeCall → ℕ → Entry → Type 0
ResponseTo running c i e = RightResponse running c.sender (question c.datagram i) (llq_option c.datagram i) e

-- option i is a right refresh of the entry, once established
abbrev pub RefreshOf : ServeCall → ℕ → Entry → Type 0
RefreshOf c i e = RightRefresh c.sender (question c.datagram i) (llq_option c.datagram i) (established_entry e)

-- option i is the first of the datagram that is a right response to the entry
pub record FirstResponse (running : ℕ) (c : ServeCall) (i : ℕ) (e : Entry) : Type 0 where
  pub within : i < done_options c
  pub response : ResponseTo running c i e
  pub first : (k : ℕ) → k < i → ResponseTo running c k e → ⊥

-- slot j has the entry, established, its lease and stamp aside
pub record StillHeld (u : Table) (j : ℕ) (e : Entry) : Type 0 where
  pub entry : Entry
  pub here : slot_of u j ≡ held entry
  pub established : entry.established ≡ true
  pub number : entry.number ≡ e.number
  pub address : entry.address ≡ e.address
  pub port : entry.port ≡ e.port
  pub name : entry.name ≡ e.name
  pub qtype : entry.qtype ≡ e.qtype
  pub qclass : entry.qclass ≡ e.qclass

-- AN ENTRY e IN SLOT j, pending before an answered datagram and not run out at the moved count
pub record Pending (c : ServeCall) (t : Table) (j : ℕ) (e : Entry) : Type 0 where
  pub here : slot_of t j ≡ held e
  pub pending : e.established ≡ false
  pub live : RunOut (moved_count c t) e → ⊥

-- what holds of it in the table after
pub record PendingAfter (running : ℕ) (c : ServeCall) (u : Table) (j : ℕ) (e : Entry) : Type 0 where
  -- where no option is a right response it stays as it was
  pub untouched : ((i : ℕ) → i < done_options c → ResponseTo running c i e → ⊥) → slot_of u j ≡ held e
  -- where option i is the first that is, and none behind it refreshes the entry, it is established, and else as it was
  pub established : (i : ℕ) → FirstResponse running c i e → ((k : ℕ) → i < k → k < done_options c → RefreshOf c k e → ⊥) → slot_of u j ≡ held (established_entry e)
  -- it is established still where some behind it refresh the entry, unless one of them ends it
  pub stays : (i : ℕ) → FirstResponse running c i e → ((k : ℕ) → i < k → k < done_options c → RefreshOf c k e → (llq_option c.datagram k).lease ≢ 0) → StillHeld u j e

abbrev pub EstablishedExactly : Server → Type 0
EstablishedExactly s =
    (c : ServeCall) (b lent : List ℕ) → ServeInRange c → SoundBytes b → c.room ≡ length lent → (s.serve c b lent).number ≡ 0
    → (j : ℕ) (e : Entry) → Pending c (read_table b) j e → PendingAfter (moved_count c (read_table b)) c (read_table (s.serve c b lent).table) j e
