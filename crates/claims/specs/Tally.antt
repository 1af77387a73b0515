-- Document 01, "The tally of demand 3": worked out from the calls' arguments alone, by rules spelled out here apart from the model's. Assumes nothing.
use Rattle.std.specs.Prelude.{ℕ, zero, suc, ◌+◌, ◌-◌, ◌*◌, ◌/◌, ◌%◌, ◌≤◌, Bool, true, false, not, cond, ◌&&◌, ◌||◌, List, [], ◌∷◌, ◌++◌, map, ◌⊎◌, length, eqb, leb, ltb}
use Rattle.model.specs.Lists.{keep, same}
use Rattle.model.specs.Query.{Question, LlqOption, wrong_size, good_header, qdcount, good_questions, questions_end, good_opt, llq_options, matched, question, llq_option}
use Rattle.model.specs.Table.{Line}
use Rattle.model.specs.Rules.{Holding}
use Rattle.model.specs.Serve.{Sender, Outcome}
use Rattle.model.specs.Reply.{reply_length}
use Rattle.model.specs.Calls.{MakeCall, TickCall, ServeCall, refusal, table_length, good_roster}
use Rattle.claims.specs.Roster.{lines_given}
use Rattle.claims.specs.Lengths.{cycle_for, last_week, slots_for}

-- the tally (document 01's term): a clock with its cycle, n, the roster and a list of holdings
pub record Tally : Type 0 where
  pub cycle : ℕ
  pub place : ℕ
  pub running : ℕ
  pub n : ℕ
  pub roster : List Line
  pub holdings : List Holding

-- a call, without the table's bytes, and of the reply buffer the length alone
pub data Call : Type 0 where
  making : MakeCall → Call
  ticking : TickCall → Call
  serving : ServeCall → Call

-- THE CLOCK

-- how many seconds forward, around a cycle of c seconds, the new place is
abbrev pub ahead : ℕ → ℕ → ℕ → ℕ
ahead c from to = cond (ltb to from) (to + c - from) (to - from)

-- the step is 0 or more: less than half a cycle forward
abbrev pub forward : ℕ → ℕ → ℕ → Bool
forward c from to = ltb (ahead c from to) (c / 2)

-- how many seconds back, around the cycle, the new place is
abbrev pub behind : ℕ → ℕ → ℕ → ℕ
behind c from to = cond (ltb from to) (from + c - to) (from - to)

-- the new place is kept where the step is 0 or more, and where it is more than 60 seconds back
abbrev pub keeps_place : ℕ → ℕ → ℕ → Bool
keeps_place c from to = forward c from to || ltb 60 (behind c from to)

-- the seconds that a reading adds to every age: a step back adds none
abbrev pub passed : ℕ → ℕ → ℕ → ℕ
passed c from to = cond (forward c from to) (ahead c from to) 0

abbrev pub older : ℕ → Holding → Holding
older d h =
    record {
      established = h.established;
      address = h.address;
      port = h.port;
      number = h.number;
      lease = h.lease;
      age = h.age + d;
      qtype = h.qtype;
      qclass = h.qclass;
      name = h.name;
    }

abbrev pub under_lease : Holding → Bool
under_lease h = ltb h.age h.lease

-- the clock is moved, the step is added to every age, and holdings whose age is at least their lease are struck
unfoldable pub move_tally : Tally → ℕ → Tally
move_tally y to =
    record {
      cycle = y.cycle;
      place = cond (keeps_place y.cycle y.place to) to y.place;
      running = (y.running + passed y.cycle y.place to) % 4294967296;
      n = y.n;
      roster = y.roster;
      holdings = keep under_lease (map (older (passed y.cycle y.place to)) y.holdings);
    }

-- HELD, SHARE, LIMIT, FREE, RESERVE, FULL

-- holdings count by address
unfoldable pub held_in : List Holding → ℕ → ℕ
held_in [] a = 0
held_in (h ∷ hs) a = cond (eqb h.address a) (1 + held_in hs a) (held_in hs a)

-- the roster line of an address; unlisted: share 0, limit 4
unfoldable pub line_of : List Line → ℕ → Line
line_of [] a = record { address = a; share = 0; limit = 4 }
line_of (l ∷ ls) a = cond (eqb l.address a) l (line_of ls a)

-- the reserve: over roster lines, share less held where that is positive
unfoldable pub reserve_in : List Line → List Holding → ℕ
reserve_in [] hs = 0
reserve_in (l ∷ ls) hs = cond (ltb (held_in hs l.address) l.share) (l.share - held_in hs l.address) 0 + reserve_in ls hs

-- free slots are n less the holdings
abbrev pub free_in : Tally → ℕ
free_in y = y.n - length y.holdings

-- at its limit, or it has reached its share and every free slot is reserved
unfoldable pub is_full : Tally → ℕ → Bool
is_full y a =
    leb (line_of y.roster a).limit (held_in y.holdings a)
    || (leb (line_of y.roster a).share (held_in y.holdings a) && leb (free_in y) (reserve_in y.roster y.holdings))

-- the same in inequalities
abbrev pub AtLimit : Tally → ℕ → Type 0
AtLimit y a = (line_of y.roster a).limit ≤ held_in y.holdings a

abbrev pub AtShare : Tally → ℕ → Type 0
AtShare y a = (line_of y.roster a).share ≤ held_in y.holdings a

abbrev pub AllReserved : Tally → Type 0
AllReserved y = free_in y ≤ reserve_in y.roster y.holdings

abbrev pub Full : Tally → ℕ → Type 0
Full y a = AtLimit y a ⊎ (AtShare y a × AllReserved y)

-- LEASE AND NUMBER

-- the asked lease, raised to 60 or lowered to 7,200
abbrev pub lease_for : ℕ → ℕ
lease_for asked = cond (ltb asked 60) 60 (cond (ltb 7200 asked) 7200 asked)

unfoldable pub number_used : List Holding → ℕ → Bool
number_used [] x = false
number_used (h ∷ hs) x = eqb h.number x || number_used hs x

-- one more, modulo 2^64
abbrev pub next_number : ℕ → ℕ
next_number x = cond (eqb x 18446744073709551615) 0 (x + 1)

-- the first of x and those after it that is neither 0 nor in use; k tries
unfoldable pub first_unused : ℕ → List Holding → ℕ → ℕ
first_unused zero hs x = 0
first_unused (suc k) hs x = cond (eqb x 0 || number_used hs x) (first_unused k hs (next_number x)) x

abbrev pub number_for : List Holding → ℕ → ℕ
number_for hs r = first_unused (length hs + 2) hs r

-- OPTIONS

abbrev pub well_formed : LlqOption → Bool
well_formed o = eqb o.version 1 && (eqb o.opcode 1 || eqb o.opcode 2) && eqb o.error 0

abbrev pub is_setup : LlqOption → Bool
is_setup o = well_formed o && (eqb o.opcode 1 && eqb o.number 0)

abbrev pub is_response : LlqOption → Bool
is_response o = well_formed o && (eqb o.opcode 1 && not (eqb o.number 0))

abbrev pub is_refresh : LlqOption → Bool
is_refresh o = well_formed o && eqb o.opcode 2

-- of this address, port and question
abbrev pub is_of : Sender → Question → Holding → Bool
is_of s q h = eqb h.address s.address && eqb h.port s.port && same h.name q.name && eqb h.qtype q.qtype && eqb h.qclass q.qclass

-- a response is right for it: number, address, port, question, and a lease sent that is at most the granted one and with the age at least that
abbrev pub is_answered : Sender → Question → LlqOption → Holding → Bool
is_answered s q o h = is_of s q h && eqb h.number o.number && (leb h.lease (o.lease + h.age) && leb o.lease h.lease)

-- a refresh is right for it: established, number, address, port and question
abbrev pub is_refreshed : Sender → Question → LlqOption → Holding → Bool
is_refreshed s q o h = is_of s q h && eqb h.number o.number && h.established

abbrev pub with_holdings : Tally → List Holding → Tally
with_holdings y hs = record { cycle = y.cycle; place = y.place; running = y.running; n = y.n; roster = y.roster; holdings = hs }

-- a pending holding of age 0 with the setup rule's lease and number
abbrev pub new_holding : Sender → ℕ → Question → LlqOption → Tally → Holding
new_holding s r q o y =
    record {
      established = false;
      address = s.address;
      port = s.port;
      number = number_for y.holdings r;
      lease = lease_for o.lease;
      age = 0;
      qtype = q.qtype;
      qclass = q.qclass;
      name = q.name;
    }

abbrev pub established_holding : Holding → Holding
established_holding h =
    record {
      established = true;
      address = h.address;
      port = h.port;
      number = h.number;
      lease = h.lease;
      age = h.age;
      qtype = h.qtype;
      qclass = h.qclass;
      name = h.name;
    }

abbrev pub renewed_holding : ℕ → Holding → Holding
renewed_holding lease h =
    record {
      established = h.established;
      address = h.address;
      port = h.port;
      number = h.number;
      lease = lease;
      age = 0;
      qtype = h.qtype;
      qclass = h.qclass;
      name = h.name;
    }

-- the holdings after an option, and what the reply must say of it, given the holdings that it finds
abbrev pub outcome_to : LlqOption → ℕ → ℕ → ℕ → Outcome
outcome_to o error number lease = record { opcode = o.opcode; error = error; number = number; lease = lease }

-- a setup that finds a holding changes nothing and is told its lease less its age; otherwise the setup rule, read on the tally, says full or adds a pending holding
abbrev pub setup_tally : Sender → ℕ → Question → LlqOption → Tally → List Holding → Tally
setup_tally s r q o y [] = cond (is_full y s.address) y (with_holdings y (y.holdings ++ (new_holding s r q o y ∷ [])))
setup_tally s r q o y (h ∷ hs) = y

abbrev pub setup_outcome : Sender → ℕ → Question → LlqOption → Tally → List Holding → Outcome
setup_outcome s r q o y [] = cond (is_full y s.address) (outcome_to o 1 0 60) (outcome_to o 0 (number_for y.holdings r) (lease_for o.lease))
setup_outcome s r q o y (h ∷ hs) = outcome_to o 0 h.number (h.lease - h.age)

-- a response right by its rule establishes its holding
abbrev pub response_tally : Sender → Question → LlqOption → Tally → Tally
response_tally s q o y = with_holdings y (map (λ h. cond (is_answered s q o h) (established_holding h) h) y.holdings)

abbrev pub response_outcome : LlqOption → List Holding → Outcome
response_outcome o [] = outcome_to o 4 0 0
response_outcome o (h ∷ hs) = outcome_to o 0 h.number (h.lease - h.age)

-- a refresh right by its rule strikes its holding at lease 0; another lease is granted with age 0
abbrev pub refresh_tally : Sender → Question → LlqOption → Tally → Tally
refresh_tally s q o y =
    cond (eqb o.lease 0)
    (with_holdings y (keep (λ h. not (is_refreshed s q o h)) y.holdings))
    (with_holdings y (map (λ h. cond (is_refreshed s q o h) (renewed_holding (lease_for o.lease) h) h) y.holdings))

abbrev pub refresh_outcome : LlqOption → List Holding → Outcome
refresh_outcome o [] = outcome_to o 4 o.number 0
refresh_outcome o (h ∷ hs) = outcome_to o 0 h.number (cond (eqb o.lease 0) 0 (lease_for o.lease))

-- version not 1: error 5; else error 3; number 0, or with opcode 2 the number sent
abbrev pub malformed_outcome : LlqOption → Outcome
malformed_outcome o = outcome_to o (cond (eqb o.version 1) 3 5) (cond (eqb o.opcode 2) o.number 0) 0

unfoldable pub option_tally : Sender → ℕ → Question → LlqOption → Tally → Tally
option_tally s r q o y =
    cond (is_setup o) (setup_tally s r q o y (keep (is_of s q) y.holdings))
    (cond (is_response o) (response_tally s q o y)
    (cond (is_refresh o) (refresh_tally s q o y) y))

unfoldable pub option_outcome : Sender → ℕ → Question → LlqOption → Tally → Outcome
option_outcome s r q o y =
    cond (is_setup o) (setup_outcome s r q o y (keep (is_of s q) y.holdings))
    (cond (is_response o) (response_outcome o (keep (is_answered s q o) y.holdings))
    (cond (is_refresh o) (refresh_outcome o (keep (is_refreshed s q o) y.holdings)) (malformed_outcome o)))

-- CALLS

-- the tally before option i of a datagram: moved, and the options before it done in order
unfoldable pub tally_before : ServeCall → Tally → ℕ → Tally
tally_before c y zero = move_tally y (c.week * 604800 + c.second)
tally_before c y (suc i) = option_tally c.sender c.random (question c.datagram i) (llq_option c.datagram i) (tally_before c y i)

abbrev pub tally_outcome : ServeCall → Tally → ℕ → Outcome
tally_outcome c y i = option_outcome c.sender c.random (question c.datagram i) (llq_option c.datagram i) (tally_before c y i)

-- the week is beyond the last that the table's length allows, or the second beyond a week's
abbrev pub bad_reading : ℕ → ℕ → ℕ → Bool
bad_reading size week second = ltb (last_week size) week || ltb 604799 second

-- the number that a call's arguments and the table's length call for, any but "table unsound". All conditions but the reading's are the
-- model's tests, the roster's `good_roster` among them: claim 1 spells out each (`Refusals`, for the roster `RosterFault`)
unfoldable pub judged : ℕ → Call → ℕ
judged size (making c) =
    refusal ((1, not (table_length size)) ∷ (2, bad_reading size c.week c.second) ∷ (9, not (good_roster (slots_for size) c.roster)) ∷ [])
judged size (ticking c) = refusal ((2, bad_reading size c.week c.second) ∷ [])
judged size (serving c) =
    let d = c.datagram in
    refusal
    ((2, bad_reading size c.week c.second)
    ∷ (3, wrong_size d)
    ∷ (4, not (good_header d))
    ∷ (5, not (good_questions d (qdcount d)))
    ∷ (6, not (good_opt d (questions_end d)))
    ∷ (7, eqb (length (llq_options d)) 0)
    ∷ (8, ltb c.room (reply_length d) || ltb 1472 (reply_length d))
    ∷ [])

-- an answered making begins it anew: the cycle and n by the buffer's length, the reading's place, count 0, the roster given, in its order, no
-- holdings
abbrev pub begin_tally : ℕ → MakeCall → Tally
begin_tally size c =
    record {
      cycle = cycle_for size;
      place = c.week * 604800 + c.second;
      running = 0;
      n = slots_for size;
      roster = lines_given c.roster;
      holdings = [];
    }

abbrev pub done_tally : ℕ → Tally → Call → Tally
done_tally size y (making c) = begin_tally size c
done_tally size y (ticking c) = move_tally y (c.week * 604800 + c.second)
done_tally size y (serving c) = tally_before c y (cond (matched c.datagram) (qdcount c.datagram) 0)

-- a call that is refused changes nothing
unfoldable pub tally_after : ℕ → Tally → Call → Tally
tally_after size y c = cond (eqb (judged size c) 0) (done_tally size y c) y
