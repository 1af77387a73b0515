-- Wrong servers: document 01's impostors, the old box's five faults, six that tell or take a lease wrongly, four that move the clock wrongly when
-- it goes back, one that then frees every entry, three that fold names through a wrong table, and four that take the two widths of the week
-- wrongly; each the model with one part wrong, and the claim that each breaks. Assumes nothing.
use Rattle.std.specs.Prelude.{ℕ, zero, suc, ◌+◌, ◌-◌, ◌%◌, ◌^◌, Bool, not, cond, ◌&&◌, ◌||◌, List, [], ◌∷◌, ◌++◌, map, length, get_or, set, drop, ℤ, pos, negsuc, eqb, leb, ltb}
use Rattle.model.specs.Lists.{count, any, up_to}
use Rattle.model.specs.Names.{fold}
use Rattle.model.specs.Clock.{Clock, ten_bit, thirteen_bit, cycle_of, valid_reading, step, slack, moved, advance, place_of, age_at}
use Rattle.model.specs.Query.{Question, LlqOption, question, llq_option, qdcount, matched}
use Rattle.model.specs.Table.{Entry, Slot, free, held, Table, cycle_in, table_bytes, read_table}
use Rattle.model.specs.Rules.{Holding, holdings, asks, numbered, limit_of, share_of, reserve}
use Rattle.model.specs.Serve.{Sender, Outcome, Served, Kind, bad_version, bad_format, setup, response, refresh, is_free, find_entry, slot_of, with_clock, with_slots, with_slot, free_run_out, moved_on, kind_of_option, serve_option, serve_kind, on_setup, on_response, life_left, right_lease, answers, challenge, retry_later, granted, establish}
use Rattle.model.specs.Sound.{sound_bytes}
use Rattle.model.specs.Reply.{reply_bytes, reply_length, mismatch}
use Rattle.model.specs.Calls.{MakeCall, TickCall, ServeCall, Made, Ticked, Answered, refusal, made_by, ticked_by, served_by, tick, serve, make_refusal, fresh_table, tick_refusal, serve_refusal}
use Rattle.model.specs.Meets.{Server, model}
use Rattle.claims.specs.Pins.{challenge_reply, Pinned}
use Rattle.claims.specs.Refusals.{Refusals}
use Rattle.claims.specs.Established.{EstablishedExactly}
use Rattle.claims.specs.Tick.{Ticking}
use Rattle.claims.specs.Demand3.{Demand3}
use Rattle.claims.specs.Reply.{ReplyClaim}
use Rattle.claims.specs.LiveAge.{Grows, SinceStamp, Summed}
use Rattle.claims.specs.Repeats.{ToldLeases}
use Rattle.claims.specs.Resumes.{Resumes}
use Rattle.claims.specs.Samples.{ClockSamples, WideSamples, NameSamples, read_by}

-- A SERVER WITH ONE CALL OF ITS OWN, the others those of the server given: a further call is one line in each
abbrev pub with_make : Server → (MakeCall → List ℕ → Made) → Server
with_make s f = record { make = f; tick = s.tick; serve = s.serve }

abbrev pub with_tick : Server → (TickCall → List ℕ → Ticked) → Server
with_tick s f = record { make = s.make; tick = f; serve = s.serve }

abbrev pub with_serve : Server → (ServeCall → List ℕ → List ℕ → Answered) → Server
with_serve s f = record { make = s.make; tick = s.tick; serve = f }

-- AN ANSWER WITH ONE PART OF ITS OWN, the others those of the answer given
abbrev pub with_made_table : Made → List ℕ → Made
with_made_table a table = record { number = a.number; table = table }

abbrev pub with_freed : Ticked → ℕ → Ticked
with_freed a freed = record { number = a.number; freed = freed; table = a.table }

abbrev pub with_table : Answered → List ℕ → Answered
with_table a table = record { number = a.number; length = a.length; table = table; reply = a.reply }

abbrev pub with_reply : Answered → List ℕ → Answered
with_reply a reply = record { number = a.number; length = a.length; table = a.table; reply = reply }

-- what an option does
abbrev pub Does : Type 0
Does = Sender → ℕ → Question → LlqOption → Table → Served

-- A SERVER FROM ITS PARTS: how a call moves the table on, how question i of a datagram is read, and what one option does
pub record Parts : Type 0 where
  pub moves : Table → ℕ → Table
  pub reads : List ℕ → ℕ → Question
  pub option : Does

-- the model's parts, and those with one of their own
abbrev pub right : Parts
right = record { moves = moved_on; reads = question; option = serve_option }

abbrev pub moves_by : (Table → ℕ → Table) → Parts
moves_by f = record { moves = f; reads = right.reads; option = right.option }

abbrev pub reads_by : (List ℕ → ℕ → Question) → Parts
reads_by f = record { moves = right.moves; reads = f; option = right.option }

abbrev pub option_by : Does → Parts
option_by f = record { moves = right.moves; reads = right.reads; option = f }

module _ (p : Parts) where
  unfoldable pub table_with : ServeCall → Table → ℕ → Table
  table_with c t zero = p.moves t (place_of c.week c.second)
  table_with c t (suc i) = (p.option c.sender c.random (p.reads c.datagram i) (llq_option c.datagram i) (table_with c t i)).table

  abbrev pub outcome_with : ServeCall → Table → ℕ → Outcome
  outcome_with c t i = (p.option c.sender c.random (p.reads c.datagram i) (llq_option c.datagram i) (table_with c t i)).outcome

  abbrev pub table_after_with : ServeCall → Table → Table
  table_after_with c t = table_with c t (cond (matched c.datagram) (qdcount c.datagram) 0)

  abbrev pub outcomes_with : ServeCall → Table → List Outcome
  outcomes_with c t = cond (matched c.datagram) (up_to (qdcount c.datagram) (outcome_with c t)) (mismatch ∷ [])

  abbrev pub tick_with : ℕ → TickCall → List ℕ → Ticked
  tick_with zero c b =
      let at = place_of c.week c.second in
      record {
        number = 0;
        freed = count (holdings (read_table b)) any - count (holdings (p.moves (read_table b) at)) any;
        table = table_bytes (p.moves (read_table b) at);
      }
  tick_with (suc k) c b = ticked_by (suc k) c b

  abbrev pub serve_with : ℕ → ServeCall → List ℕ → List ℕ → Answered
  serve_with zero c b lent =
      with_reply (with_table (served_by 0 c b lent) (table_bytes (table_after_with c (read_table b))))
      (reply_bytes c.datagram (outcomes_with c (read_table b)) ++ drop (reply_length c.datagram) lent)
  serve_with (suc k) c b lent = served_by (suc k) c b lent

  abbrev pub server_of : Server
  server_of = with_serve (with_tick model (λ c b. tick_with (tick_refusal c b) c b)) (λ c b lent. serve_with (serve_refusal c b) c b lent)

abbrev pub with_option : Does → Server
with_option f = server_of (option_by f)

abbrev pub with_move : (Table → ℕ → Table) → Server
with_move f = server_of (moves_by f)

abbrev pub with_reader : (List ℕ → ℕ → Question) → Server
with_reader f = server_of (reads_by f)

-- DOCUMENT 01'S IMPOSTORS

abbrev pub refuses_all : Server
refuses_all = with_serve (with_tick (with_make model (made_by 2)) (ticked_by 2)) (served_by 2)

-- one constant reply, W11's
abbrev pub constant_reply : Server
constant_reply = with_serve model (λ c b lent. let a = serve c b lent in with_reply a (cond (eqb a.number 0) (challenge_reply ++ drop 52 lent) lent))

-- an option by its kind, with these for setup and response
abbrev pub by_kind : Does → Does → Kind → Does
by_kind f g bad_version s r q o t = serve_kind bad_version s r q o t
by_kind f g bad_format s r q o t = serve_kind bad_format s r q o t
by_kind f g setup s r q o t = f s r q o t
by_kind f g response s r q o t = g s r q o t
by_kind f g refresh s r q o t = serve_kind refresh s r q o t

-- a setup, with this where it finds no entry
abbrev pub on_new : Does → Sender → ℕ → Question → LlqOption → Table → Slot → Served
on_new f s r q o t (held e) = on_setup s r q o t (held e)
on_new f s r q o t free = f s r q o t

abbrev pub with_new : Does → Server
with_new f =
    with_option
    (λ s r q o t.
    by_kind (λ s r q o t. on_new f s r q o t (slot_of t (find_entry (asks s.address s.port q) t))) (serve_kind response) (kind_of_option o) s r q o t)

-- says full to everyone
abbrev pub says_full : Server
says_full = with_new (λ s r q o t. record { table = t; outcome = retry_later o })

-- leaves the table untouched
abbrev pub leaves_table : Server
leaves_table = with_serve model (λ c b lent. with_table (serve c b lent) b)

-- serves question one and copies its option for the rest
abbrev pub copies_first : Server
copies_first =
    with_serve model
    (λ c b lent.
    let a = serve c b lent in
    with_reply a
    (cond (eqb a.number 0 && matched c.datagram)
    (reply_bytes c.datagram (up_to (qdcount c.datagram) (λ i. outcome_with right c (read_table b) 0)) ++ drop a.length lent)
    a.reply))

-- a tick that reports an invented number
abbrev pub invents_freed : Server
invents_freed = with_tick model (λ c b. with_freed (tick c b) (1 + (tick c b).freed))

-- grants without storing
abbrev pub grants_unstored : Server
grants_unstored = with_new (λ s r q o t. record { table = t; outcome = (on_setup s r q o t free).outcome })

-- THE OLD BOX

-- entries freed by another test of the running count and the entry
abbrev pub free_where : (ℕ → Entry → Bool) → ℕ → Slot → Slot
free_where f running free = free
free_where f running (held e) = cond (f running e) free (held e)

abbrev pub move_where : (ℕ → Entry → Bool) → Table → ℕ → Table
move_where f t place =
    let c = advance (cycle_in t) t.clock place in with_slots (with_clock t c) (map (free_where f c.running) t.slots)

-- compares the count with stamp plus lease
abbrev pub compares_sum : Server
compares_sum = with_move (move_where (λ running e. leb ((e.stamp + e.lease) % 2 ^ 32) running))

-- throws pending entries out early, after 15 seconds
abbrev pub drops_pending : Server
drops_pending = with_move (move_where (λ running e. leb e.lease (age_at running e.stamp) || (not e.established && leb 15 (age_at running e.stamp))))

-- full or granted, by a test of the table and the sender
abbrev pub full_where : (Table → Sender → Bool) → Server
full_where f = with_new (λ s r q o t. cond (f t s) (record { table = t; outcome = retry_later o }) (granted s r q o t))

-- grants whenever a slot is free
abbrev pub grants_if_free : Server
grants_if_free = full_where (λ t s. eqb (count t.slots is_free) 0)

-- counts holdings by address and port
abbrev pub counts_by_port : Server
counts_by_port =
    full_where
    (λ t s.
    let h = count (holdings t) (λ x. eqb x.address s.address && eqb x.port s.port) in
    leb (limit_of t.roster s.address) h
    || (leb (share_of t.roster s.address) h && leb (count t.slots is_free) (reserve t.roster (count (holdings t)))))

-- a response, with this test of the holding that it names, and this done with the slot that it finds
abbrev pub with_response : (Sender → Question → LlqOption → Holding → Bool) → (LlqOption → Table → ℕ → Slot → Served) → Server
with_response f g =
    with_option
    (λ s r q o t. by_kind (serve_kind setup) (λ s r q o t. let i = find_entry (f s q o) t in g o t i (slot_of t i)) (kind_of_option o) s r q o t)

-- finds entries by number alone
abbrev pub finds_by_number : Server
finds_by_number = with_response (λ s q o h. numbered o.number h && right_lease o h) on_response

-- LEASES TOLD AND TAKEN WRONGLY

-- a setup, with this where it finds an entry e, in slot i
abbrev pub on_found : (LlqOption → Table → ℕ → Entry → Served) → Sender → ℕ → Question → LlqOption → Table → ℕ → Slot → Served
on_found f s r q o t i (held e) = f o t i e
on_found f s r q o t i free = on_setup s r q o t free

abbrev pub with_found : (LlqOption → Table → ℕ → Entry → Served) → Server
with_found f =
    with_option
    (λ s r q o t.
    by_kind (λ s r q o t. let i = find_entry (asks s.address s.port q) t in on_found f s r q o t i (slot_of t i)) (serve_kind response) (kind_of_option o) s r q o t)

-- tells the granted lease of an entry that is there
abbrev pub repeats_granted : Server
repeats_granted = with_found (λ o t i e. record { table = t; outcome = challenge o e })

-- an entry stamped now
abbrev pub restamped : ℕ → Entry → Entry
restamped running e =
    record {
      established = e.established;
      address = e.address;
      port = e.port;
      number = e.number;
      lease = e.lease;
      stamp = running;
      qtype = e.qtype;
      qclass = e.qclass;
      name = e.name;
    }

-- moves the stamp of an entry whose setup is repeated
abbrev pub restamps_on_repeat : Server
restamps_on_repeat =
    with_found
    (λ o t i e.
    record {
      table = with_slot t i (held (restamped t.clock.running e));
      outcome = record { opcode = o.opcode; error = 0; number = e.number; lease = life_left e.lease (age_at t.clock.running e.stamp) };
    })

-- a response that names an entry of its sender and question, with this test of the lease sent, the granted one and the age
abbrev pub with_span : (ℕ → ℕ → ℕ → Bool) → Server
with_span f = with_response (λ s q o h. numbered o.number h && asks s.address s.port q h && f o.lease h.lease h.age) on_response

-- takes the granted lease alone
abbrev pub granted_only : Server
granted_only = with_span (λ sent granted age. eqb sent granted)

-- takes any lease up to the granted one
abbrev pub any_up_to_granted : Server
any_up_to_granted = with_span (λ sent granted age. leb sent granted)

-- takes a lease that is more than what remains
abbrev pub open_below : Server
open_below = with_span (λ sent granted age. ltb (life_left granted age) sent && leb sent granted)

-- acknowledges with the lease sent less the age
abbrev pub on_sent : LlqOption → Table → ℕ → Slot → Served
on_sent o t i (held e) =
    record {
      table = with_slot t i (held (establish e));
      outcome = record { opcode = o.opcode; error = 0; number = e.number; lease = life_left o.lease (age_at t.clock.running e.stamp) };
    }
on_sent o t i free = on_response o t i free

abbrev pub sent_less_age : Server
sent_less_age = with_response answers on_sent

-- THE CLOCK

-- a step of 0 or more by the rule, and this of the clock, the new place and the seconds for a step back
abbrev pub on_back : (Clock → ℕ → ℕ → Clock) → Clock → ℕ → ℤ → Clock
on_back f c to (pos n) = moved c to (pos n)
on_back f c to (negsuc n) = f c to (n + 1)

abbrev pub move_back : (Clock → ℕ → ℕ → Clock) → ℕ → Clock → ℕ → Clock
move_back f c k to = on_back f k to (step c k.place to)

-- a server that moves the clock so, in the table's cycle
abbrev pub with_clock_move : (ℕ → Clock → ℕ → Clock) → Server
with_clock_move f = with_move (λ t place. free_run_out (with_clock t (f (cycle_in t) t.clock place)))

abbrev pub with_back : (Clock → ℕ → ℕ → Clock) → Server
with_back f = with_clock_move (move_back f)

-- nothing changes, or the new place is kept
abbrev pub stands : Clock → ℕ → ℕ → Clock
stands c to k = c

abbrev pub set_to : Clock → ℕ → ℕ → Clock
set_to c to k = record { place = to; running = c.running }

-- every step back changes nothing: document 01's rule before document 02
abbrev pub freezes : Server
freezes = with_back stands

-- every step back keeps the new place, one of 60 seconds too
abbrev pub keeps_always : Server
keeps_always = with_back set_to

-- a step back of 61 seconds changes nothing
abbrev pub waits_for61 : Server
waits_for61 = with_back (λ c to k. cond (leb k 61) (stands c to k) (set_to c to k))

-- a large step back is added to the running count, modulo 2^32, and the new place is kept: so a life grows again after it was told
abbrev pub counts_back : Server
counts_back = with_back (λ c to k. cond (leb k slack) (stands c to k) (record { place = to; running = (c.running + 2 ^ 32 - k) % 2 ^ 32 }))

-- a large step back frees every entry
abbrev pub freed_on_back : Table → ℕ → ℤ → Table
freed_on_back t place (pos n) = moved_on t place
freed_on_back t place (negsuc n) =
    cond (leb (n + 1) slack) (moved_on t place) (with_slots (with_clock t (set_to t.clock place (n + 1))) (map (λ x. free) t.slots))

abbrev pub ends_on_set_back : Server
ends_on_set_back = with_move (λ t place. freed_on_back t place (step (cycle_in t) t.clock.place place))

-- BY THE PLACES THAT IT HOLDS ITSELF `keeps_always` adds up, so that of `LiveAge` the sum by the calls alone tells it apart
abbrev pub OwnPlaces : Type 0
OwnPlaces = Grows keeps_always × SinceStamp keeps_always

-- THE FOLD

-- the table of 256 entries that the rule gives
abbrev pub fold_entries : List ℕ
fold_entries = up_to 256 fold

-- question i with its name read through a table
abbrev pub read_through : List ℕ → List ℕ → ℕ → Question
read_through table = read_by (λ b. get_or table b 0)

-- Z stays Z
abbrev pub read_unfolded_z : List ℕ → ℕ → Question
read_unfolded_z = read_through (set fold_entries 90 90)

abbrev pub z_unfolded : Server
z_unfolded = with_reader read_unfolded_z

-- [, behind Z, becomes {
abbrev pub read_folded_bracket : List ℕ → ℕ → Question
read_folded_bracket = read_through (set fold_entries 91 123)

abbrev pub bracket_folded : Server
bracket_folded = with_reader read_folded_bracket

-- 0xC1, a letter of Latin-1, becomes 0xE1
abbrev pub read_folded_latin : List ℕ → ℕ → Question
read_folded_latin = read_through (set fold_entries 0xC1 0xE1)

abbrev pub latin_folded : Server
latin_folded = with_reader read_folded_latin

-- THE TWO WIDTHS OF THE WEEK

-- moves every clock over the ten-bit cycle
abbrev pub ten_bit_cycle : Server
ten_bit_cycle = with_clock_move (λ c. advance (cycle_of ten_bit))

-- takes a step of 2^31 seconds or more for one back, as a number of 32 bits with a sign is
abbrev pub with_sign : ℤ → ℤ
with_sign (pos n) = cond (ltb n 2147483648) (pos n) (negsuc (4294967295 - n))
with_sign (negsuc n) = negsuc n

abbrev pub move_signed : ℕ → Clock → ℕ → Clock
move_signed c k to = moved k to (with_sign (step c k.place to))

abbrev pub signed_step : Server
signed_step = with_clock_move move_signed

-- a tick takes every week of thirteen bits, week 1,024 on a ten-bit table too
abbrev pub takes_wide_week : Server
takes_wide_week =
    with_tick model (λ c b. ticked_by (refusal ((1, not (sound_bytes b)) ∷ (2, not (valid_reading thirteen_bit c.week c.second)) ∷ [])) c b)

-- makes the ten-bit layout in every buffer, so a record of kind 1 in one of 317 + 320n bytes; the bytes behind it stay
abbrev pub in_ten_bits : Table → Table
in_ten_bits t = record { layout = record { weeks = ten_bit }; clock = t.clock; roster = t.roster; slots = t.slots }

abbrev pub make_in_ten_bits : ℕ → MakeCall → List ℕ → Made
make_in_ten_bits zero c b = let x = table_bytes (in_ten_bits (fresh_table c (length b))) in with_made_table (made_by 0 c b) (x ++ drop (length x) b)
make_in_ten_bits (suc k) c b = made_by (suc k) c b

abbrev pub makes_ten_bit : Server
makes_ten_bit = with_make model (λ c b. make_in_ten_bits (make_refusal c (length b)) c b)

-- EACH BREAKS A CLAIM
pub record Refuted : Type 0 where
  pub refuses_all : Refusals refuses_all → ⊥
  pub constant_reply : ReplyClaim constant_reply → ⊥
  pub says_full : Demand3 says_full → ⊥
  pub leaves_table : Demand3 leaves_table → ⊥
  pub copies_first : Demand3 copies_first → ⊥
  pub invents_freed : Ticking invents_freed → ⊥
  pub grants_unstored : Demand3 grants_unstored → ⊥
  pub compares_sum : Ticking compares_sum → ⊥
  pub drops_pending : Ticking drops_pending → ⊥
  pub grants_if_free : Demand3 grants_if_free → ⊥
  pub counts_by_port : Demand3 counts_by_port → ⊥
  pub finds_by_number : EstablishedExactly finds_by_number → ⊥
  pub repeats_granted : Demand3 repeats_granted → ⊥
  pub restamps_on_repeat : Demand3 restamps_on_repeat → ⊥
  pub granted_only : EstablishedExactly granted_only → ⊥
  pub any_up_to_granted : EstablishedExactly any_up_to_granted → ⊥
  pub open_below : EstablishedExactly open_below → ⊥
  pub sent_less_age : Demand3 sent_less_age → ⊥
  pub freezes : Demand3 freezes → ⊥
  pub keeps_always : (Summed keeps_always → ⊥) × (Demand3 keeps_always → ⊥)
  pub waits_for61 : Demand3 waits_for61 → ⊥
  pub counts_back : (Ticking counts_back → ⊥) × (ToldLeases counts_back → ⊥)
  pub ends_on_set_back : Ticking ends_on_set_back → ⊥
  pub z_unfolded : Demand3 z_unfolded → ⊥
  pub bracket_folded : Demand3 bracket_folded → ⊥
  pub latin_folded : Demand3 latin_folded → ⊥
  -- by the count and, from 0 to 619,315,170, by the place
  pub ten_bit_cycle : (Demand3 ten_bit_cycle → ⊥) × (Ticking ten_bit_cycle → ⊥)
  pub signed_step : Demand3 signed_step → ⊥
  pub takes_wide_week : Refusals takes_wide_week → ⊥
  pub makes_ten_bit : (Demand3 makes_ten_bit → ⊥) × (Pinned makes_ten_bit → ⊥)
  -- the claims of the clock alone, by the clocks of `freezes` and `keeps_always`
  pub resumes : (Resumes (move_back stands) → ⊥) × (Resumes (move_back set_to) → ⊥)
  pub clock_samples : (ClockSamples (move_back stands (cycle_of ten_bit)) → ⊥) × (ClockSamples (move_back set_to (cycle_of ten_bit)) → ⊥)
  -- by those of `ten_bit_cycle` and `signed_step`
  pub wide_samples : (WideSamples (step (cycle_of ten_bit)) (advance (cycle_of ten_bit)) → ⊥)
      × (WideSamples (λ from to. with_sign (step (cycle_of thirteen_bit) from to)) (move_signed (cycle_of thirteen_bit)) → ⊥)
  -- the claim of the reader alone, by the readers of the three
  pub name_samples : (NameSamples read_unfolded_z → ⊥) × (NameSamples read_folded_bracket → ⊥) × (NameSamples read_folded_latin → ⊥)
