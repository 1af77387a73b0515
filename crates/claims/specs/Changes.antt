-- Claim 2, what a datagram may change, and of claim 3 what each option establishes. Assumes nothing.
use Rattle.std.specs.Prelude.{ℕ, suc, ◌+◌, ◌-◌, ◌*◌, ◌%◌, ◌^◌, ◌≤◌, ◌<◌, ◌≡◌, true, false, cond, List, ◌⊎◌, ◌≢◌, length, drop}
use Rattle.model.specs.Clock.{advance}
use Rattle.model.specs.Query.{Question, LlqOption, question, llq_option, qdcount, matched}
use Rattle.model.specs.Table.{Entry, free, held, Table, cycle_in, read_table, table_bytes}
use Rattle.model.specs.Sound.{SoundBytes}
use Rattle.model.specs.Serve.{Sender, with_slot, slot_of}
use Rattle.model.specs.Calls.{ServeCall}
use Rattle.model.specs.Meets.{Server}
use Rattle.claims.specs.Tally.{lease_for}
use Rattle.claims.specs.Events.{ServeInRange}
use Rattle.claims.specs.Exactly.{Exactly}

-- WELL-FORMED OPTIONS
pub record Setup (o : LlqOption) : Type 0 where
  pub version : o.version ≡ 1
  pub opcode : o.opcode ≡ 1
  pub error : o.error ≡ 0
  pub number : o.number ≡ 0

pub record Response (o : LlqOption) : Type 0 where
  pub version : o.version ≡ 1
  pub opcode : o.opcode ≡ 1
  pub error : o.error ≡ 0
  pub number : o.number ≢ 0

pub record Refresh (o : LlqOption) : Type 0 where
  pub version : o.version ≡ 1
  pub opcode : o.opcode ≡ 2
  pub error : o.error ≡ 0

-- the entry is this sender's, address and port, and asks this question
pub record Own (s : Sender) (q : Question) (e : Entry) : Type 0 where
  pub address : e.address ≡ s.address
  pub port : e.port ≡ s.port
  pub name : e.name ≡ q.name
  pub qtype : e.qtype ≡ q.qtype
  pub qclass : e.qclass ≡ q.qclass

-- the entry's age: the running count less its stamp, modulo 2^32
abbrev pub age_of : ℕ → Entry → ℕ
age_of running e = (running + 2 ^ 32 - e.stamp) % 2 ^ 32

-- a well-formed response with the entry's number and question from its address and port, and a lease from the life that remains at this running
-- count to the granted one
pub record RightResponse (running : ℕ) (s : Sender) (q : Question) (o : LlqOption) (e : Entry) : Type 0 where
  pub response : Response o
  pub own : Own s q e
  pub number : e.number ≡ o.number
  pub least : e.lease ≤ o.lease + age_of running e
  pub most : o.lease ≤ e.lease

-- a well-formed refresh of an established entry with its number and question from its address and port
pub record RightRefresh (s : Sender) (q : Question) (o : LlqOption) (e : Entry) : Type 0 where
  pub refresh : Refresh o
  pub own : Own s q e
  pub number : e.number ≡ o.number
  pub established : e.established ≡ true

-- the entry that a setup is granted in table t
pub record Granted (s : Sender) (q : Question) (o : LlqOption) (t : Table) (e : Entry) : Type 0 where
  pub setup : Setup o
  pub pending : e.established ≡ false
  pub own : Own s q e
  pub lease : e.lease ≡ lease_for o.lease
  pub stamp : e.stamp ≡ t.clock.running
  -- a fresh non-zero number
  pub non_zero : e.number ≢ 0
  pub fresh : (j : ℕ) (x : Entry) → slot_of t j ≡ held x → x.number ≢ e.number
  -- the question was new
  pub unheld : (j : ℕ) (x : Entry) → slot_of t j ≡ held x → Own s q x → ⊥

-- an entry established, and else as it was
abbrev pub established_entry : Entry → Entry
established_entry e =
    record {
      established = true;
      address = e.address;
      port = e.port;
      number = e.number;
      lease = e.lease;
      stamp = e.stamp;
      qtype = e.qtype;
      qclass = e.qclass;
      name = e.name;
    }

-- an entry with a new lease, from now on
abbrev pub renewed_entry : Table → LlqOption → Entry → Entry
renewed_entry t o e =
    record {
      established = e.established;
      address = e.address;
      port = e.port;
      number = e.number;
      lease = lease_for o.lease;
      stamp = t.clock.running;
      qtype = e.qtype;
      qclass = e.qclass;
      name = e.name;
    }

-- WHAT ONE OPTION MAY CHANGE: nothing, or one slot, in one of four ways
pub data Change (s : Sender) (q : Question) (o : LlqOption) (t u : Table) : Type 0 where
  nothing : u ≡ t → Change s q o t u
  -- free to pending, the lowest free slot
  grant : (j : ℕ) (e : Entry) → j < length t.slots → slot_of t j ≡ free → ((k : ℕ) → k < j → slot_of t k ≢ free) → Granted s q o t e → u ≡ with_slot t j (held e)
      → Change s q o t u
  -- pending to established, the state alone
  confirm : (j : ℕ) (e : Entry) → j < length t.slots → slot_of t j ≡ held e → e.established ≡ false → RightResponse t.clock.running s q o e
      → u ≡ with_slot t j (held (established_entry e)) → Change s q o t u
  -- established to a new lease and stamp
  renew : (j : ℕ) (e : Entry) → j < length t.slots → slot_of t j ≡ held e → RightRefresh s q o e → o.lease ≢ 0 → u ≡ with_slot t j (held (renewed_entry t o e))
      → Change s q o t u
  -- established to free
  end : (j : ℕ) (e : Entry) → j < length t.slots → slot_of t j ≡ held e → RightRefresh s q o e → o.lease ≡ 0 → u ≡ with_slot t j free → Change s q o t u

-- one option, from the table before it to the table after it
pub record OptionDone (s : Sender) (q : Question) (o : LlqOption) (t u : Table) : Type 0 where
  pub change : Change s q o t u
  -- an entry pending just before is established just after exactly if the option is a right response to it
  pub establishes : (j : ℕ) (e : Entry) → slot_of t j ≡ held e → e.established ≡ false → Exactly (slot_of u j ≡ held (established_entry e)) (RightResponse t.clock.running s q o e)
  -- nothing is established that was not pending or established just before; what is granted is pending
  pub only_held : (j : ℕ) (x : Entry) → slot_of u j ≡ held x → x.established ≡ true → (e : Entry) × ((slot_of t j ≡ held e) × ((e.established ≡ true) ⊎ RightResponse t.clock.running s q o e))

-- THE CLOCK MOVED AND RUN-OUT ENTRIES FREED

-- the entry's age is at least its lease
abbrev pub RunOut : ℕ → Entry → Type 0
RunOut running e = e.lease ≤ age_of running e

pub record Moved (place : ℕ) (t u : Table) : Type 0 where
  pub layout : u.layout ≡ t.layout
  -- in the cycle of the table's weeks
  pub clock : u.clock ≡ advance (cycle_in t) t.clock place
  pub roster : u.roster ≡ t.roster
  pub size : length u.slots ≡ length t.slots
  pub was_free : (j : ℕ) → slot_of t j ≡ free → slot_of u j ≡ free
  pub kept : (j : ℕ) (e : Entry) → slot_of t j ≡ held e → (RunOut u.clock.running e → ⊥) → slot_of u j ≡ held e
  pub freed : (j : ℕ) (e : Entry) → slot_of t j ≡ held e → RunOut u.clock.running e → slot_of u j ≡ free

-- how many options are done: all, or none where the count and length test fails
abbrev pub done_options : ServeCall → ℕ
done_options c = cond (matched c.datagram) (qdcount c.datagram) 0

-- AN ANSWERED DATAGRAM: the tables before its options and after the last, from the bytes before to the bytes after
pub record Datagram (c : ServeCall) (before after : List ℕ) : Type 0 where
  pub tables : ℕ → Table
  pub moved : Moved (c.week * 604800 + c.second) (read_table before) (tables 0)
  pub options : (i : ℕ) → i < done_options c → OptionDone c.sender (question c.datagram i) (llq_option c.datagram i) (tables i) (tables (suc i))
  pub bytes : after ≡ table_bytes (tables (done_options c))

-- THE CLAIM; the reply buffer past the length is as it was
abbrev pub Changes : Server → Type 0
Changes s =
    (c : ServeCall) (b lent : List ℕ) → ServeInRange c → SoundBytes b → c.room ≡ length lent → (s.serve c b lent).number ≡ 0
    → Datagram c b (s.serve c b lent).table × (drop (s.serve c b lent).length (s.serve c b lent).reply ≡ drop (s.serve c b lent).length lent)
