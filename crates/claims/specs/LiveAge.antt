-- A live entry's age is the sum, as whole numbers, of the forward steps accepted since its stamp: by the places that the table holds, from any sound
-- table on, and by the calls alone, in every list of demand 3. Assumes nothing.
use Rattle.std.specs.Prelude.{ℕ, ◌+◌, ◌*◌, ◌<◌, ◌≡◌, cond, List, [], ◌∷◌, ◌++◌, map, length, eqb}
use Rattle.model.specs.Clock.{age_at}
use Rattle.model.specs.Table.{Entry, held, Table, read_table}
use Rattle.model.specs.Sound.{SoundBytes}
use Rattle.model.specs.Serve.{slot_of}
use Rattle.model.specs.Calls.{MakeCall}
use Rattle.model.specs.Meets.{Server}
use Rattle.claims.specs.Lengths.{cycle_for}
use Rattle.claims.specs.Tally.{Tally, Call, making, ticking, serving, passed, judged, begin_tally, tally_after}
use Rattle.claims.specs.Events.{Event, made, ticked, served, call_of, table_of, Happens, Trace, MakeInRange, AllInRange}
use Rattle.claims.specs.Changes.{age_of}

-- BY THE PLACES THAT THE TABLE HOLDS

-- the seconds forward, around a cycle and from the last place, that an answered tick or datagram moves the clock; a refused call adds none, a step
-- back adds none
abbrev pub step_in : ℕ → ℕ → Event → ℕ
step_in cycle place (made c k after) = 0
step_in cycle place (ticked c k freed after) = cond (eqb k 0) (passed cycle place (c.week * 604800 + c.second)) 0
step_in cycle place (served c lent k size after left) = cond (eqb k 0) (passed cycle place (c.week * 604800 + c.second)) 0

-- their sum, as a whole number, along a list of calls on a table of bytes b, each around the cycle that the table's length gives
abbrev pub steps_along : List ℕ → List Event → ℕ
steps_along b [] = 0
steps_along b (e ∷ es) = step_in (cycle_for (length b)) (read_table b).clock.place e + steps_along (table_of e) es

-- the bytes that the list leaves
abbrev pub left_by : List ℕ → List Event → List ℕ
left_by b [] = b
left_by b (e ∷ es) = left_by (table_of e) es

-- slot j holds an entry of this stamp
pub record Stamped (j stamp : ℕ) (b : List ℕ) : Type 0 where
  pub entry : Entry
  pub here : slot_of (read_table b) j ≡ held entry
  pub stamped : entry.stamp ≡ stamp

-- after each call of the list
abbrev pub StampedAlong : ℕ → ℕ → List Event → Type 0
StampedAlong j stamp [] = Unit {0}
StampedAlong j stamp (e ∷ es) = Stamped j stamp (table_of e) × StampedAlong j stamp es

-- the age of an entry of this stamp: running count less stamp, modulo 2^32
abbrev pub age_in : List ℕ → ℕ → ℕ
age_in b stamp = age_at (read_table b).clock.running stamp

-- BY THE CALLS ALONE

-- the seconds that a call adds to every age, on the tally before it: those forward of an answered tick or datagram
abbrev pub added_by : ℕ → Tally → Call → ℕ
added_by size y (making c) = 0
added_by size y (ticking c) = cond (eqb (judged size (ticking c)) 0) (passed y.cycle y.place (c.week * 604800 + c.second)) 0
added_by size y (serving c) = cond (eqb (judged size (serving c)) 0) (passed y.cycle y.place (c.week * 604800 + c.second)) 0

-- their sum, as a whole number, each on the tally that the calls before it left
abbrev pub added_along : ℕ → Tally → List Call → ℕ
added_along size y [] = 0
added_along size y (c ∷ cs) = added_by size y c + added_along size (tally_after size y c) cs

-- the tally that the calls leave
abbrev pub tally_along : ℕ → Tally → List Call → Tally
tally_along size y [] = y
tally_along size y (c ∷ cs) = tally_along size (tally_after size y c) cs

-- slot j has the entry, its number, address, port, question and stamp; lease and state aside
pub record SameStamp (j : ℕ) (e : Entry) (t : Table) : Type 0 where
  pub entry : Entry
  pub here : slot_of t j ≡ held entry
  pub number : entry.number ≡ e.number
  pub address : entry.address ≡ e.address
  pub port : entry.port ≡ e.port
  pub name : entry.name ≡ e.name
  pub qtype : entry.qtype ≡ e.qtype
  pub qclass : entry.qclass ≡ e.qclass
  pub stamp : entry.stamp ≡ e.stamp

-- after each call of the list
abbrev pub SameStampAlong : ℕ → Entry → List Event → Type 0
SameStampAlong j e [] = Unit {0}
SameStampAlong j e (x ∷ xs) = SameStamp j e (read_table (table_of x)) × SameStampAlong j e xs

-- the call is a datagram, and it was answered
abbrev pub AnsweredDatagram : Event → Type 0
AnsweredDatagram (made c k after) = ⊥
AnsweredDatagram (ticked c k freed after) = ⊥
AnsweredDatagram (served c lent k size after left) = k ≡ 0

-- what the calls of the rest added, on the tally that the calls up to the stamping one left
abbrev pub added_since : ℕ → Tally → List Event → Event → List Event → ℕ
added_since size y earlier stamping rest = added_along size (tally_along size y (map call_of (earlier ++ (stamping ∷ [])))) (map call_of rest)

-- SINCE ITS STAMP: calls on a table of bytes b, with the tally y before them, that leave entry e in slot j, are some calls, the datagram that
-- stamped e, and the rest
pub record Since (size : ℕ) (y : Tally) (b : List ℕ) (es : List Event) (j : ℕ) (e : Entry) : Type 0 where
  pub earlier : List Event
  pub stamping : Event
  pub rest : List Event
  pub split : earlier ++ (stamping ∷ rest) ≡ es
  pub answered : AnsweredDatagram stamping
  -- it left e in slot j, stamped with the running count that it left, and there e stayed
  pub here : SameStamp j e (read_table (table_of stamping))
  pub stamp : e.stamp ≡ (read_table (table_of stamping)).clock.running
  pub kept : SameStampAlong j e rest
  -- e's age at the end is what the rest added, worked out from the calls, and under its lease
  pub age : age_of (read_table (left_by b es)).clock.running e ≡ added_since size y earlier stamping rest
  pub live : added_since size y earlier stamping rest < e.lease

-- OF ANY LIST OF CALLS on a sound table along which a slot holds an entry of one stamp: the age at the end is the age at the start and the steps
-- between
abbrev pub Grows : Server → Type 0
Grows s =
    (b : List ℕ) (es : List Event) (j stamp : ℕ) → SoundBytes b → AllInRange es → Trace s b es → Stamped j stamp b → StampedAlong j stamp es
    → age_in (left_by b es) stamp ≡ age_in b stamp + steps_along b es

-- from the table in which it was stamped on, the age is the steps
abbrev pub SinceStamp : Server → Type 0
SinceStamp s =
    (b : List ℕ) (es : List Event) (j stamp : ℕ) → SoundBytes b → AllInRange es → Trace s b es → Stamped j stamp b → StampedAlong j stamp es
    → stamp ≡ (read_table b).clock.running → age_in (left_by b es) stamp ≡ steps_along b es

-- OF EVERY LIST OF DEMAND 3, from an answered making on: whatever entry a slot holds at the end, its age is the sum of what the calls since its
-- stamp added
abbrev pub Summed : Server → Type 0
Summed s =
    (before after : List ℕ) (c : MakeCall) (es : List Event)
    → MakeInRange c
    → AllInRange es
    → Happens s before (made c 0 after)
    → Trace s after es
    → (j : ℕ) (e : Entry)
    → slot_of (read_table (left_by after es)) j ≡ held e
    → Since (length before) (begin_tally (length before) c) after es j e

-- THE CLAIM
pub record LiveAge (s : Server) : Type 0 where
  -- by the places that the table holds
  pub grows : Grows s
  pub since_stamp : SinceStamp s
  -- by the calls alone
  pub summed : Summed s
