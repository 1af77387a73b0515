-- Claim 5, demand 3: one statement over every list of makings, datagrams and ticks on one table. Assumes nothing.
use Rattle.std.specs.Prelude.{ℕ, ◌+◌, ◌≤◌, ◌<◌, ◌≡◌, true, false, ◌≢◌, length}
use mathlib.Core.List.{List, [], ◌∷◌, Permᴰ}
use Rattle.model.specs.Lists.{keep}
use Rattle.model.specs.Numbers.{big_endian}
use Rattle.model.specs.Query.{qdcount, matched, question, llq_option}
use Rattle.model.specs.Table.{cycle_in}
use Rattle.model.specs.Rules.{holdings}
use Rattle.model.specs.Sound.{SoundBytes}
use Rattle.model.specs.Calls.{MakeCall, ServeCall}
use Rattle.model.specs.Meets.{Server}
use Rattle.claims.specs.Exactly.{Exactly}
use Rattle.claims.specs.Tally.{Tally, ticking, begin_tally, tally_after, tally_before, tally_outcome, judged, held_in, line_of, is_setup, is_of, Full, AtShare}
use Rattle.claims.specs.Events.{Event, made, ticked, served, call_of, number_of, table_of, Happens, Trace, AllInRange, MakeInRange}
use Rattle.claims.specs.Refusals.{BehindQuestions, length_of}
use Rattle.claims.specs.Reply.{option_place}

-- THE TABLE'S CLOCK, CYCLE, n, ROSTER AND ENTRIES ARE THE TALLY'S, slot places aside
pub record Agrees (b : List ℕ) (y : Tally) : Type 0 where
  -- the bytes of a sound table
  pub stored : SoundBytes b
  pub cycle : cycle_in stored.table ≡ y.cycle
  pub place : stored.table.clock.place ≡ y.place
  pub running : stored.table.clock.running ≡ y.running
  pub n : length stored.table.slots ≡ y.n
  pub roster : stored.table.roster ≡ y.roster
  -- ages included
  pub entries : Permᴰ (holdings stored.table) y.holdings

-- no address holds more than its limit
abbrev pub WithinLimits : Tally → Type 0
WithinLimits y = (a : ℕ) → held_in y.holdings a ≤ (line_of y.roster a).limit

-- OPTION i OF A REPLY'S BYTES to a datagram d: code 2, length 2, version 2, opcode 2, error 2, number 8, lease 4
abbrev pub error_in : List ℕ → List ℕ → ℕ → ℕ
error_in reply d i = big_endian reply (option_place d i + 8) 2

abbrev pub number_in : List ℕ → List ℕ → ℕ → ℕ
number_in reply d i = big_endian reply (option_place d i + 10) 8

abbrev pub lease_in : List ℕ → List ℕ → ℕ → ℕ
lease_in reply d i = big_endian reply (option_place d i + 18) 4

-- a new question: a well-formed setup that finds no holding in the tally
pub record NewQuestion (c : ServeCall) (y : Tally) (i : ℕ) : Type 0 where
  pub setup : is_setup (llq_option c.datagram i) ≡ true
  pub unheld : keep (is_of c.sender (question c.datagram i)) y.holdings ≡ []

-- OPTION i IN THE TALLY y BEFORE IT, and in the reply
pub record OptionReply (c : ServeCall) (reply : List ℕ) (i : ℕ) (before y : Tally) : Type 0 where
  -- told "full" exactly if a new question of an address at its limit, or at its share with every free slot reserved
  pub full_exactly : Exactly (error_in reply c.datagram i ≡ 1) (NewQuestion c y i × Full y c.sender.address)
  -- below its share never
  pub below_share : (AtShare y c.sender.address → ⊥) → error_in reply c.datagram i ≢ 1
  -- error, number and lease are those worked out on the tally
  pub error : error_in reply c.datagram i ≡ (tally_outcome c before i).error
  pub number : number_in reply c.datagram i ≡ (tally_outcome c before i).number
  pub lease : lease_in reply c.datagram i ≡ (tally_outcome c before i).lease
  -- holdings count after run-out entries are freed and earlier questions of that datagram are served
  pub limits : WithinLimits y

-- an answered datagram's reply, with the tally before the call
pub record DatagramReply (c : ServeCall) (reply : List ℕ) (before : Tally) : Type 0 where
  pub options : matched c.datagram ≡ true → (i : ℕ) → i < qdcount c.datagram → OptionReply c reply i before (tally_before c before i)
  -- where the count and length test fails, the one option does not say full
  pub mismatch : matched c.datagram ≡ false → error_in reply c.datagram 0 ≢ 1

abbrev pub Replied : Event → Tally → Type 0
Replied (made c k after) y = Unit {0}
Replied (ticked c k freed after) y = Unit {0}
Replied (served c lent k size after left) y = k ≡ 0 → DatagramReply c left y

-- WHAT A CALL RETURNS BESIDE ITS NUMBER: a tick how many entries it freed, a datagram how long its reply is, a making nothing
abbrev pub count_of : Event → ℕ
count_of (made c k after) = 0
count_of (ticked c k freed after) = freed
count_of (served c lent k size after left) = size

-- of an answered call: the tally's holdings before a tick less those after it; 12 + questions + 11 + 22 for each option of the reply
abbrev pub Counted : ℕ → Tally → Event → Type 0
Counted size y (made c k after) = Unit {0}
Counted size y (ticked c k freed after) = freed + length (tally_after size y (ticking c)).holdings ≡ length y.holdings
Counted size y (served c lent k bytes after left) = BehindQuestions c.datagram (λ at. bytes ≡ length_of c.datagram at)

-- ONE CALL of the list, with the tally before it
pub record Holds (size : ℕ) (before : Tally) (e : Event) : Type 0 where
  -- not found unsound
  pub sound : number_of e ≢ 1
  -- answered or refused as its arguments say
  pub number : number_of e ≡ judged size (call_of e)
  -- after it, the table's entries are the tally's
  pub agrees : Agrees (table_of e) (tally_after size before (call_of e))
  pub limits : WithinLimits (tally_after size before (call_of e))
  pub replied : Replied e before
  -- an answered call's freed count or length is the one worked out, a refused call's is 0
  pub counted : number_of e ≡ 0 → Counted size before e
  pub refused : number_of e ≢ 0 → count_of e ≡ 0

-- ALL ALONG the list
abbrev pub Along : ℕ → Tally → List Event → Type 0
Along size y [] = Unit {0}
Along size y (e ∷ es) = Holds size y e × Along size (tally_after size y (call_of e)) es

-- THE CLAIM. The list starts with an answered making on a buffer of any bytes; every later call gets the buffer as the last one left it, and
-- anything else whatever that the C types can hold.
abbrev pub Demand3 : Server → Type 0
Demand3 s =
    (before after : List ℕ) (c : MakeCall) (es : List Event)
    → MakeInRange c
    → AllInRange es
    → Happens s before (made c 0 after)
    → Trace s after es
    → Agrees after (begin_tally (length before) c) × Along (length before) (begin_tally (length before) c) es
