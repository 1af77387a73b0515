-- What the lists of calls that break wrong servers are made of: datagrams, rosters, calls that the C types can hold, and what a server does at
-- each. Assumes nothing.
use Prim.Native.Nat.{ℕ, zero, suc, ◌+◌, ◌*◌, ◌/◌, ◌%◌, ◌^◌, ◌<◌}
use native.Mathlib.Omega.{arith}
use mathlib.Core.Path.{◌≡◌, refl, sym, subst}
use mathlib.Core.Bool.{true}
use mathlib.Core.List.{List, [], ◌∷◌, ◌++◌}
use lib.ListN.{length, replicate, length-replicate}
use lib.Dec.{ltb, lit<}
use borrow.Author.Tests.{ltb-true}
use Rattle.model.specs.Lists.{every}
use Rattle.model.specs.Numbers.{Bytes}
use Rattle.model.specs.Table.{Entry, held, read_table}
use Rattle.model.specs.Sound.{SoundBytes, sound_bytes}
use Rattle.model.specs.Serve.{slot_of}
use Rattle.model.specs.Calls.{ServeCall}
use Rattle.model.specs.Meets.{Server}
use Rattle.model.proofs.ListLaws.{and_left, and_right}
use Rattle.model.proofs.Meaning.{sound-means}
use Rattle.claims.specs.Tally.{Call, making, ticking, serving, begin_tally}
use Rattle.claims.specs.Events.{Event, made, ticked, served, call_of, table_of, Happens, Trace, AllInRange, MakeInRange, TickInRange, ServeInRange, InRange}
use Rattle.claims.specs.Demand3.{Agrees, Demand3, Along}
use Rattle.claims.specs.LiveAge.{left_by, Since, Summed}
use Rattle.claims.specs.CallBuilders.{make_at, tick_at, datagram_at}

-- BYTES, by a test
abbrev pub are_bytes : List ℕ → Type 0
are_bytes s = every (λ x. ltb x 256) s ≡ true

pub bytes-by-test : (s : List ℕ) → are_bytes s → Bytes s
unfolding every
bytes-by-test [] e i = omega arith
bytes-by-test (x ∷ s) e zero = ltb-true x 256 (and_left (ltb x 256) (every (λ x. ltb x 256) s) e)
bytes-by-test (x ∷ s) e (suc i) = bytes-by-test s (and_right (ltb x 256) (every (λ x. ltb x 256) s) e) i

pub sound-by-test : (b : List ℕ) → are_bytes b → sound_bytes b ≡ true → SoundBytes b
sound-by-test b e s = sound-means b (bytes-by-test b e) s

-- DATAGRAMS
-- an LLQ option, error 0
abbrev sent_option : ℕ → ℕ → ℕ → ℕ → List ℕ
sent_option version opcode number lease =
    0 ∷ 1 ∷ 0 ∷ 18 ∷ 0 ∷ version ∷ 0 ∷ opcode ∷ 0 ∷ 0 ∷ 0 ∷ 0 ∷ 0 ∷ 0 ∷ 0 ∷ 0 ∷ 0 ∷ number ∷ 0 ∷ 0 ∷ lease / 256 ∷ lease % 256 ∷ []

-- one question, a name of one byte, type PTR, class IN, with one option of version 1 and opcode 1: number 0 is a setup, another a response
abbrev pub asking_byte : ℕ → ℕ → ℕ → List ℕ
asking_byte byte number lease =
    0 ∷ 1 ∷ 0 ∷ 0 ∷ 0 ∷ 1 ∷ 0 ∷ 0 ∷ 0 ∷ 0 ∷ 0 ∷ 1 ∷ 1 ∷ byte ∷ 0 ∷ 0 ∷ 12 ∷ 0 ∷ 1 ∷ 0 ∷ 0 ∷ 41 ∷ 5 ∷ 192 ∷ 0 ∷ 0 ∷ 0 ∷ 0 ∷ 0 ∷ 22 ∷ sent_option 1 1 number lease

-- the same for a.
abbrev pub asking : ℕ → ℕ → List ℕ
asking number lease = asking_byte 97 number lease

-- two questions: a setup, and an option of version 2
abbrev pub asking_two : List ℕ
asking_two =
    0 ∷ 1 ∷ 0 ∷ 0 ∷ 0 ∷ 2 ∷ 0 ∷ 0 ∷ 0 ∷ 0 ∷ 0 ∷ 1 ∷ 1 ∷ 97 ∷ 0 ∷ 0 ∷ 12 ∷ 0 ∷ 1 ∷ 1 ∷ 98 ∷ 0 ∷ 0 ∷ 12 ∷ 0 ∷ 1 ∷ 0 ∷ 0 ∷ 41 ∷ 5 ∷ 192 ∷ 0 ∷ 0 ∷ 0 ∷ 0 ∷ 0 ∷ 44
    ∷ (sent_option 1 1 0 3600 ++ sent_option 2 1 0 3600)

-- A ROSTER of one line
abbrev pub roster_of : ℕ → ℕ → ℕ → List ℕ
roster_of address share limit = 3 ∷ 0 ∷ 0 ∷ 0 ∷ 0 ∷ 0 ∷ 0 ∷ 0 ∷ 0 ∷ 0 ∷ 0 ∷ 0 ∷ 0 ∷ 0 ∷ 0 ∷ 0 ∷ address ∷ share ∷ limit ∷ []

-- CALLS at a second of the first week, and at the first second
abbrev pub from_at : ℕ → ℕ → ℕ → List ℕ → ServeCall
from_at second address port d = datagram_at 0 second (record { address = address; port = port }) 7 d 100

abbrev pub from : ℕ → ℕ → List ℕ → ServeCall
from address port d = from_at 0 address port d

pub make-in-range : (r : List ℕ) → are_bytes r → MakeInRange (make_at 0 0 r)
make-in-range r e = record { week = lit< tt; second = lit< tt; roster = bytes-by-test r e }

pub tick-at-in-range : (w x : ℕ) → w < 2 ^ 32 → x < 2 ^ 32 → TickInRange (tick_at w x)
tick-at-in-range w x hw hx = record { week = hw; second = hx }

pub tick-in-range : TickInRange (tick_at 0 0)
tick-in-range = tick-at-in-range 0 0 (lit< tt) (lit< tt)

pub from-at-in-range : (x a p : ℕ) (d : List ℕ) → x < 2 ^ 32 → a < 2 ^ 128 → p < 2 ^ 16 → are_bytes d → ServeInRange (from_at x a p d)
from-at-in-range x a p d hx ha hp e = record { week = lit< tt; second = hx; address = ha; port = hp; random = lit< tt; datagram = bytes-by-test d e }

pub from-in-range : (a p : ℕ) (d : List ℕ) → a < 2 ^ 128 → p < 2 ^ 16 → are_bytes d → ServeInRange (from a p d)
from-in-range a p d = from-at-in-range 0 a p d (lit< tt)

-- A TABLE'S BUFFER of n slots, with weeks of ten bits and of thirteen, and a reply's of the room that a call says
abbrev pub table_buffer : ℕ → List ℕ
table_buffer n = replicate (313 + 320 * n) 0

abbrev pub wide_buffer : ℕ → List ℕ
wide_buffer n = replicate (317 + 320 * n) 0

abbrev pub reply_buffer : ServeCall → List ℕ
reply_buffer c = replicate c.room 0

-- WHAT A SERVER DOES with calls, one after the other, on a table's bytes
abbrev pub event_of : Server → List ℕ → Call → Event
event_of s b (making c) = let a = s.make c b in made c a.number a.table
event_of s b (ticking c) = let a = s.tick c b in ticked c a.number a.freed a.table
event_of s b (serving c) = let a = s.serve c b (reply_buffer c) in served c (reply_buffer c) a.number a.length a.table a.reply

abbrev pub events_of : Server → List ℕ → List Call → List Event
events_of s b [] = []
events_of s b (c ∷ cs) = event_of s b c ∷ events_of s (table_of (event_of s b c)) cs

happens-of : (s : Server) (b : List ℕ) (c : Call) → Happens s b (event_of s b c)
happens-of s b (making c) = record { number = refl; table = refl }
happens-of s b (ticking c) = record { number = refl; freed = refl; table = refl }
happens-of s b (serving c) = (sym (length-replicate c.room 0), record { number = refl; length = refl; table = refl; reply = refl })

pub trace-of : (s : Server) (b : List ℕ) (cs : List Call) → Trace s b (events_of s b cs)
trace-of s b [] = tt
trace-of s b (c ∷ cs) = (happens-of s b c, trace-of s (table_of (event_of s b c)) cs)

abbrev pub CallsInRange : List Call → Type 0
CallsInRange [] = Unit {0}
CallsInRange (c ∷ cs) = InRange c × CallsInRange cs

call-of : (s : Server) (b : List ℕ) (c : Call) → call_of (event_of s b c) ≡ c
call-of s b (making c) = refl
call-of s b (ticking c) = refl
call-of s b (serving c) = refl

pub all-in-range : (s : Server) (b : List ℕ) (cs : List Call) → CallsInRange cs → AllInRange (events_of s b cs)
all-in-range s b [] r = tt
all-in-range s b (c ∷ cs) r = (subst InRange (sym (call-of s b c)) r.0, all-in-range s (table_of (event_of s b c)) cs r.1)

-- ON A FRESH TABLE in a buffer, with a roster
module _ (s : Server) (buffer r : List ℕ) where
  abbrev pub fresh_bytes : List ℕ
  fresh_bytes = (s.make (make_at 0 0 r) buffer).table

  -- demand 3 of the table itself and of calls on it
  pub from-making : Demand3 s → are_bytes r → 0 ≡ (s.make (make_at 0 0 r) buffer).number → (cs : List Call) → CallsInRange cs
      → Agrees fresh_bytes (begin_tally (length buffer) (make_at 0 0 r))
      × Along (length buffer) (begin_tally (length buffer) (make_at 0 0 r)) (events_of s fresh_bytes cs)
  from-making claim e k cs ranges =
      claim buffer fresh_bytes (make_at 0 0 r) (events_of s fresh_bytes cs) (make-in-range r e) (all-in-range s fresh_bytes cs ranges)
      (record { number = k; table = refl }) (trace-of s fresh_bytes cs)

  pub along-calls : Demand3 s → are_bytes r → 0 ≡ (s.make (make_at 0 0 r) buffer).number → (cs : List Call) → CallsInRange cs
      → Along (length buffer) (begin_tally (length buffer) (make_at 0 0 r)) (events_of s fresh_bytes cs)
  along-calls claim e k cs ranges = (from-making claim e k cs ranges).1

  pub since-stamp : Summed s → are_bytes r → 0 ≡ (s.make (make_at 0 0 r) buffer).number → (cs : List Call) → CallsInRange cs → (j : ℕ) (e : Entry)
      → slot_of (read_table (left_by fresh_bytes (events_of s fresh_bytes cs))) j ≡ held e
      → Since (length buffer) (begin_tally (length buffer) (make_at 0 0 r)) fresh_bytes (events_of s fresh_bytes cs) j e
  since-stamp claim e k cs ranges =
      claim buffer fresh_bytes (make_at 0 0 r) (events_of s fresh_bytes cs) (make-in-range r e) (all-in-range s fresh_bytes cs ranges)
      (record { number = k; table = refl }) (trace-of s fresh_bytes cs)
