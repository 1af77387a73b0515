-- Lists of calls on one table: what a server did at each, and the ranges that the C types give. Assumes nothing.
use Rattle.std.specs.Prelude.{ℕ, ◌^◌, ◌<◌, ◌≡◌, List, [], ◌∷◌, length}
use Rattle.model.specs.Numbers.{Bytes}
use Rattle.model.specs.Calls.{MakeCall, TickCall, ServeCall}
use Rattle.model.specs.Meets.{Server, Makes, Ticks, Serves}
use Rattle.claims.specs.Tally.{Call, making, ticking, serving}

-- a call with what it was answered and what it left
pub data Event : Type 0 where
  -- number, table after
  made : MakeCall → ℕ → List ℕ → Event
  -- number, freed, table after
  ticked : TickCall → ℕ → ℕ → List ℕ → Event
  -- the lent reply buffer; number, length, table after, reply buffer after
  served : ServeCall → List ℕ → ℕ → ℕ → List ℕ → List ℕ → Event

abbrev pub call_of : Event → Call
call_of (made c k after) = making c
call_of (ticked c k freed after) = ticking c
call_of (served c lent k size after left) = serving c

abbrev pub number_of : Event → ℕ
number_of (made c k after) = k
number_of (ticked c k freed after) = k
number_of (served c lent k size after left) = k

abbrev pub table_of : Event → List ℕ
table_of (made c k after) = after
table_of (ticked c k freed after) = after
table_of (served c lent k size after left) = after

-- the server does this on a table of these bytes
abbrev pub Happens : Server → List ℕ → Event → Type 0
Happens s before (made c k after) = Makes s c before after k
Happens s before (ticked c k freed after) = Ticks s c before after k freed
Happens s before (served c lent k size after left) = (c.room ≡ length lent) × Serves s c before after lent left k size

-- each call gets the table as the last one left it
abbrev pub Trace : Server → List ℕ → List Event → Type 0
Trace s before [] = Unit {0}
Trace s before (e ∷ es) = Happens s before e × Trace s (table_of e) es

-- WHAT THE C TYPES CAN HOLD
pub record MakeInRange (c : MakeCall) : Type 0 where
  pub week : c.week < 2 ^ 32
  pub second : c.second < 2 ^ 32
  pub roster : Bytes c.roster

pub record TickInRange (c : TickCall) : Type 0 where
  pub week : c.week < 2 ^ 32
  pub second : c.second < 2 ^ 32

pub record ServeInRange (c : ServeCall) : Type 0 where
  pub week : c.week < 2 ^ 32
  pub second : c.second < 2 ^ 32
  pub address : c.sender.address < 2 ^ 128
  pub port : c.sender.port < 2 ^ 16
  pub random : c.random < 2 ^ 64
  pub datagram : Bytes c.datagram

abbrev pub InRange : Call → Type 0
InRange (making c) = MakeInRange c
InRange (ticking c) = TickInRange c
InRange (serving c) = ServeInRange c

abbrev pub AllInRange : List Event → Type 0
AllInRange [] = Unit {0}
AllInRange (e ∷ es) = InRange (call_of e) × AllInRange es
