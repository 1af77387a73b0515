-- Document 01's setup, response and refresh: what one option does to the table as it stands at that option. Assumes nothing.
use Rattle.std.specs.Prelude.{ℕ, ◌+◌, ◌-◌, Bool, true, false, not, cond, ◌&&◌, ◌||◌, List, map, length, get_or, set, eqb, leb}
use Rattle.model.specs.Lists.{count, index_of}
use Rattle.model.specs.Clock.{Clock, advance, age_at, run_out}
use Rattle.model.specs.Query.{Question, LlqOption}
use Rattle.model.specs.Table.{Entry, Slot, free, held, Table, cycle_in}
use Rattle.model.specs.Rules.{Holding, holding, holdings, asks, numbered, full, granted_lease, fresh_number}

-- CHANGES OF A TABLE

abbrev pub with_clock : Table → Clock → Table
with_clock t c = record { layout = t.layout; clock = c; roster = t.roster; slots = t.slots }

abbrev pub with_slots : Table → List Slot → Table
with_slots t ss = record { layout = t.layout; clock = t.clock; roster = t.roster; slots = ss }

-- slot i written
abbrev pub with_slot : Table → ℕ → Slot → Table
with_slot t i s = with_slots t (set t.slots i s)

-- an entry that ends leaves its slot free
abbrev pub ended : Slot
ended = free

-- the slot's entry has run out; a pending one waits out its lease too, RFC 8764 section 5.1
unfoldable pub slot_run_out : ℕ → Slot → Bool
slot_run_out running free = false
slot_run_out running (held e) = run_out (age_at running e.stamp) e.lease

abbrev pub free_if_run_out : ℕ → Slot → Slot
free_if_run_out running s = cond (slot_run_out running s) ended s

abbrev pub free_run_out : Table → Table
free_run_out t = with_slots t (map (free_if_run_out t.clock.running) t.slots)

-- each answered call moves the clock, then frees run-out entries
unfoldable pub moved_on : Table → ℕ → Table
moved_on t place = free_run_out (with_clock t (advance (cycle_in t) t.clock place))

-- FINDING

abbrev pub is_free : Slot → Bool
is_free free = true
is_free (held e) = false

-- the slot has an entry that passes the test
unfoldable pub has : ℕ → (Holding → Bool) → Slot → Bool
has running p free = false
has running p (held e) = p (holding running e)

-- the first slot with such an entry; the number of slots where there is none
unfoldable pub find_entry : (Holding → Bool) → Table → ℕ
find_entry p t = index_of (has t.clock.running p) t.slots

-- slot i; free where there is none
abbrev pub slot_of : Table → ℕ → Slot
slot_of t i = get_or t.slots i free

-- OPTIONS

pub record Sender : Type 0 where
  pub address : ℕ
  pub port : ℕ

-- what an option of the reply says, beside version 1
pub record Outcome : Type 0 where
  pub opcode : ℕ
  pub error : ℕ
  pub number : ℕ
  pub lease : ℕ

-- RFC 8764's error numbers (section 3.1) that the box gives
abbrev pub serv_full : ℕ
serv_full = 1

abbrev pub format_err : ℕ
format_err = 3

abbrev pub no_such_llq : ℕ
no_such_llq = 4

abbrev pub bad_vers : ℕ
bad_vers = 5

pub data Kind : Type 0 where
  bad_version : Kind
  bad_format : Kind
  setup : Kind
  response : Kind
  refresh : Kind

-- version not 1; else opcode not 1 (LLQ-SETUP) or 2 (LLQ-REFRESH, RFC 8764 section 3.1), or error not 0; else opcode 2; else by the number:
-- 0, a setup (section 5.2.1), or not, a response (section 5.2.3)
unfoldable pub kind_of_option : LlqOption → Kind
kind_of_option o =
    cond (not (eqb o.version 1)) bad_version
    (cond (not (eqb o.opcode 1 || eqb o.opcode 2) || not (eqb o.error 0)) bad_format
    (cond (eqb o.opcode 2) refresh
    (cond (eqb o.number 0) setup response)))

-- the table after an option, and what the reply says of it
pub record Served : Type 0 where
  pub table : Table
  pub outcome : Outcome

-- a malformed option (BAD-VERS, FORMAT-ERR, RFC 8764 section 5.2.2): the table stays; number 0, or with opcode 2 the number sent; lease 0
abbrev pub malformed : LlqOption → ℕ → Table → Served
malformed o error t =
    record { table = t; outcome = record { opcode = o.opcode; error = error; number = cond (eqb o.opcode 2) o.number 0; lease = 0 } }

-- the life that remains: the granted lease less the age, RFC 8764 sections 5.1 and 5.2.4
abbrev pub life_left : ℕ → ℕ → ℕ
life_left lease age = lease - age

-- SETUP, RFC 8764 section 5.2.1

-- the entry that a setup adds: pending, with the setup rule's lease and number, its stamp the running count
abbrev pub new_entry : Sender → ℕ → Question → LlqOption → Table → Entry
new_entry s r q o t =
    record {
      established = false;
      address = s.address;
      port = s.port;
      number = fresh_number (length t.slots + 2) (count (holdings t)) r;
      lease = granted_lease o.lease;
      stamp = t.clock.running;
      qtype = q.qtype;
      qclass = q.qclass;
      name = q.name;
    }

-- the first challenge, RFC 8764 section 5.2.2: an entry's number and granted lease, which at age 0 is the life that remains
abbrev pub challenge : LlqOption → Entry → Outcome
challenge o e = record { opcode = o.opcode; error = 0; number = e.number; lease = e.lease }

-- error 1, number 0, lease 60 (retry after, RFC 8764 section 5.2.2; 60 is house)
abbrev pub retry_later : LlqOption → Outcome
retry_later o = record { opcode = o.opcode; error = serv_full; number = 0; lease = 60 }

-- the lowest free slot becomes pending
abbrev pub granted : Sender → ℕ → Question → LlqOption → Table → Served
granted s r q o t =
    record {
      table = with_slot t (index_of is_free t.slots) (held (new_entry s r q o t));
      outcome = challenge o (new_entry s r q o t);
    }

-- of the slot whose entry is of this address, port and question, pending or not: it stays, and its challenge is repeated with the life that
-- remains (RFC 8764 section 5.1); without one, full or granted
unfoldable pub on_setup : Sender → ℕ → Question → LlqOption → Table → Slot → Served
on_setup s r q o t (held e) =
    record {
      table = t;
      outcome = record { opcode = o.opcode; error = 0; number = e.number; lease = life_left e.lease (age_at t.clock.running e.stamp) };
    }
on_setup s r q o t free =
    cond (full (length t.slots) t.roster (count (holdings t)) s.address)
    (record { table = t; outcome = retry_later o })
    (granted s r q o t)

unfoldable pub serve_setup : Sender → ℕ → Question → LlqOption → Table → Served
serve_setup s r q o t = on_setup s r q o t (slot_of t (find_entry (asks s.address s.port q) t))

-- RESPONSE, RFC 8764 section 5.2.3

-- the span of the leases that a response may send: from the life that remains to the granted lease, both included
abbrev pub in_span : ℕ → ℕ → ℕ → Bool
in_span granted age sent = leb (life_left granted age) sent && leb sent granted

-- the lease sent is in the span of the holding
abbrev pub right_lease : LlqOption → Holding → Bool
right_lease o h = in_span h.lease h.age o.lease

-- the entry that a response is right for, RFC 8764 section 5.2.4: this number, address, port and question, and a lease in its span
abbrev pub answers : Sender → Question → LlqOption → Holding → Bool
answers s q o h = numbered o.number h && asks s.address s.port q h && right_lease o h

abbrev pub establish : Entry → Entry
establish e =
    record {
      established = true;
      address = e.address;
      port = e.port;
      number = e.number;
      lease = e.lease;
      stamp = e.stamp;
      qtype = e.qtype;
      qclass = e.qclass;
      name = e.name;
    }

-- it becomes, or stays, established (RFC 8764 section 5.2.4): error 0, its number, the life that remains; otherwise error 4, number 0, lease 0
-- (house)
unfoldable pub on_response : LlqOption → Table → ℕ → Slot → Served
on_response o t i (held e) =
    record {
      table = with_slot t i (held (establish e));
      outcome = record { opcode = o.opcode; error = 0; number = e.number; lease = life_left e.lease (age_at t.clock.running e.stamp) };
    }
on_response o t i free = record { table = t; outcome = record { opcode = o.opcode; error = no_such_llq; number = 0; lease = 0 } }

unfoldable pub serve_response : Sender → Question → LlqOption → Table → Served
serve_response s q o t = let i = find_entry (answers s q o) t in on_response o t i (slot_of t i)

-- REFRESH, RFC 8764 section 7.1

-- the entry that a refresh is right for: established, with this number, address, port and question
abbrev pub refreshes : Sender → Question → LlqOption → Holding → Bool
refreshes s q o h = h.established && (numbered o.number h && asks s.address s.port q h)

-- a lease granted as in setup, stamp now
abbrev pub renew : ℕ → ℕ → Entry → Entry
renew running asked e =
    record {
      established = e.established;
      address = e.address;
      port = e.port;
      number = e.number;
      lease = granted_lease asked;
      stamp = running;
      qtype = e.qtype;
      qclass = e.qclass;
      name = e.name;
    }

-- lease 0 frees it (RFC 8764 section 7.1), reply lease 0; another lease is granted; the number is repeated; otherwise error 4, the number
-- sent, lease 0 (section 7.2)
unfoldable pub on_refresh : LlqOption → Table → ℕ → Slot → Served
on_refresh o t i (held e) =
    cond (eqb o.lease 0)
    (record { table = with_slot t i ended; outcome = record { opcode = o.opcode; error = 0; number = e.number; lease = 0 } })
    (record {
      table = with_slot t i (held (renew t.clock.running o.lease e));
      outcome = record { opcode = o.opcode; error = 0; number = e.number; lease = granted_lease o.lease };
    })
on_refresh o t i free = record { table = t; outcome = record { opcode = o.opcode; error = no_such_llq; number = o.number; lease = 0 } }

unfoldable pub serve_refresh : Sender → Question → LlqOption → Table → Served
serve_refresh s q o t = let i = find_entry (refreshes s q o) t in on_refresh o t i (slot_of t i)

-- ONE OPTION, by its kind
unfoldable pub serve_kind : Kind → Sender → ℕ → Question → LlqOption → Table → Served
serve_kind bad_version s r q o t = malformed o bad_vers t
serve_kind bad_format s r q o t = malformed o format_err t
serve_kind setup s r q o t = serve_setup s r q o t
serve_kind response s r q o t = serve_response s q o t
serve_kind refresh s r q o t = serve_refresh s q o t

abbrev pub serve_option : Sender → ℕ → Question → LlqOption → Table → Served
serve_option s r q o t = serve_kind (kind_of_option o) s r q o t
