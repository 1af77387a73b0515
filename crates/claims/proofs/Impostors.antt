-- Each wrong server breaks a claim, by a computed list of calls. Assumes nothing.
use Prim.Native.Nat.{ℕ, zero, suc, ◌+◌, ◌-◌, ◌^◌, ◌≤◌, ◌<◌}
use native.Mathlib.Omega.{arith}
use mathlib.Core.Path.{◌≡◌, refl, sym, ap, ◌∙◌, fun_ext, subst}
use mathlib.Core.Bool.{Bool, true, false, cond}
use mathlib.Core.List.{List, [], ◌∷◌, ◌++◌, map}
use mathlib.Core.Logic.{inl, inr, ⊎_elim}
use lib.ListN.{length, get_or, drop, length-append}
use lib.IntN.{ℤ, pos, negsuc}
use lib.Dec.{eqb, leb, lit<}
use borrow.Author.Tests.{lt-ltb}
use Rattle.model.specs.Lists.{any, every, up_to, count, same}
use Rattle.model.specs.Numbers.{Bytes, part}
use Rattle.model.specs.Names.{fold}
use Rattle.model.specs.Clock.{Clock, ten_bit, thirteen_bit, cycle_of, step, slack, moved, advance}
use Rattle.model.specs.Query.{Question, LlqOption, name_at, question_at, question_start, question, llq_option, qdcount, matched}
use Rattle.model.specs.Table.{Entry, Slot, free, held, Table, cycle_in, table_bytes, read_table}
use Rattle.model.specs.Rules.{Holding, holdings}
use Rattle.model.specs.Serve.{Sender, Kind, bad_version, bad_format, setup, response, refresh, with_clock, free_run_out, moved_on, find_entry, slot_of, establish, answers, on_setup, on_response, serve_response, serve_kind, serve_option}
use Rattle.model.specs.Reply.{reply_bytes, reply_length, mismatch}
use Rattle.model.specs.Calls.{TickCall, ServeCall, Made, served_by, serve_refusal, table_before, outcome_of, table_after, outcomes, make, serve}
use Rattle.model.specs.Sound.{sound_bytes}
use Rattle.model.proofs.Meaning.{read-stored, means-sound}
use Rattle.model.proofs.ListLaws.{never, get_or-up_to}
use Rattle.model.proofs.NumberLaws.{bytes-part}
use Rattle.model.proofs.HoldingLaws.{not-held}
use Rattle.model.specs.Meets.{Server}
use Rattle.claims.specs.Tally.{Tally, Call, ticking, serving, begin_tally, tally_after}
use Rattle.claims.specs.Events.{Event, ticked, call_of, ServeInRange}
use Rattle.claims.specs.Demand3.{Demand3, Agrees}
use Rattle.claims.specs.Refusals.{Refusals, ReadingFault, week_too_large, second_too_large}
use Rattle.claims.specs.Established.{FirstResponse, PendingAfter, EstablishedExactly}
use Rattle.claims.specs.Tick.{TickDone, Ticking}
use Rattle.claims.specs.Reply.{ReplyClaim}
use Rattle.claims.specs.LiveAge.{AnsweredDatagram, added_along, tally_along, Summed}
use Rattle.claims.specs.Repeats.{ToldLeases}
use Rattle.claims.specs.Resumes.{Resumes}
use Rattle.claims.specs.Samples.{ClockSamples, WideSamples, NameSamples}
use Rattle.claims.specs.Pins.{Pinned}
use Rattle.claims.specs.CallBuilders.{make_at, tick_at}
use Rattle.claims.specs.Impostors.{right, server_of, serve_with, table_with, by_kind, on_found, refuses_all, constant_reply, says_full, leaves_table, copies_first, invents_freed, grants_unstored, compares_sum, drops_pending, grants_if_free, counts_by_port, finds_by_number, repeats_granted, restamps_on_repeat, granted_only, any_up_to_granted, open_below, sent_less_age, on_back, move_back, stands, set_to, freezes, keeps_always, waits_for61, counts_back, ends_on_set_back, fold_entries, read_through, read_unfolded_z, z_unfolded, read_folded_bracket, bracket_folded, read_folded_latin, latin_folded, ten_bit_cycle, with_sign, move_signed, signed_step, takes_wide_week, makes_ten_bit, Refuted}
use Rattle.claims.proofs.Demand3.Permutations.{perm-alike}
use Rattle.claims.proofs.Definitions.{all-definitions}
use Rattle.claims.proofs.CallBuilders.{are_bytes, bytes-by-test, sound-by-test, asking_byte, asking, asking_two, roster_of, from_at, from, make-in-range, tick-at-in-range, tick-in-range, from-at-in-range, from-in-range, table_buffer, wide_buffer, reply_buffer, fresh_bytes, from-making, along-calls, since-stamp}
use Rattle.claims.proofs.LiveAge.SlotSteps.{same_self}

-- of the entries that agree with a tally as many pass a test
as-many-by : (p : Holding → Bool) (b : List ℕ) (y : _) (g : Agrees b y) → count (holdings (read_table b)) p ≡ count y.holdings p
as-many-by p b y g = ap (λ (t : Table). count (holdings t) p) (read-stored b g.stored) ∙ perm-alike g.entries p

as_many : (b : List ℕ) (y : _) (g : Agrees b y) → count (holdings (read_table b)) any ≡ count y.holdings any
as_many = as-many-by any

-- a setup from address 9, port 1, for a name of one byte; and for a.
abbrev strangers_setup : ℕ → ServeCall
strangers_setup byte = from 9 1 (asking_byte byte 0 3600)

abbrev stranger : ServeCall
stranger = strangers_setup 97

stranger-in-range : ServeInRange stranger
unfolding every
stranger-in-range = from-in-range 9 1 (asking 0 3600) (lit< tt) (lit< tt) refl

-- ---- DOCUMENT 01'S IMPOSTORS

-- a call that is right in all is refused
refuses-all : Refusals refuses_all → ⊥
unfolding every
refuses-all r =
    ⊎_elim
    (λ h. (h.0 1 (omega arith) (omega arith)).0 refl)
    (λ h.
    ⊎_elim
    (λ g. reading g.0)
    (λ g. ⊎_elim (λ f. absurd (omega (arith, f.1))) (λ f. absurd (omega (arith, f.1))) g.1)
    h.1)
    (r.make_number (make_at 0 0 []) (table_buffer 1) (make-in-range [] refl) (bytes-by-test (table_buffer 1) refl))
  where
    reading : ReadingFault 1023 0 0 → ⊥
    reading (week_too_large h) = omega arith
    reading (second_too_large h) = omega arith

-- another message number is not repeated
constant-reply : ReplyClaim constant_reply → ⊥
unfolding all-definitions
constant-reply r =
    let b = fresh_bytes constant_reply (table_buffer 1) [] in
    let z : ◌≡◌ {A = ℕ} 0x12 0 = (r b (reply_buffer stranger) stranger (sound-by-test b refl refl) stranger-in-range refl refl).number0 in
    absurd (omega arith)

-- the first setup on an empty table is not full
says-full : Demand3 says_full → ⊥
unfolding all-definitions
says-full d =
    let h = (along-calls says_full (table_buffer 1) [] d refl refl (serving stranger ∷ []) (stranger-in-range, tt)).0 in
    let o = (h.replied refl).options refl 0 (lit< tt) in
    ⊎_elim (λ h. absurd (omega (arith, h))) (λ h. absurd (omega (arith, h.1))) (o.full_exactly.0 refl).1

-- a setup granted leaves no entry
leaves_table_lem : Demand3 leaves_table → ⊥
unfolding all-definitions
leaves_table_lem d =
    let h = (along-calls leaves_table (table_buffer 1) [] d refl refl (serving stranger ∷ []) (stranger-in-range, tt)).0 in
    let z : ◌≡◌ {A = ℕ} 0 1 = as_many _ _ h.agrees in
    absurd (omega arith)

grants-unstored : Demand3 grants_unstored → ⊥
unfolding all-definitions
grants-unstored d =
    let h = (along-calls grants_unstored (table_buffer 1) [] d refl refl (serving stranger ∷ []) (stranger-in-range, tt)).0 in
    let z : ◌≡◌ {A = ℕ} 0 1 = as_many _ _ h.agrees in
    absurd (omega arith)

-- the second option has version 2, error 5
copies-first : Demand3 copies_first → ⊥
unfolding all-definitions
copies-first d =
    let h = (along-calls copies_first (table_buffer 1) [] d refl refl (serving (from 9 1 asking_two) ∷ []) (from-in-range 9 1 asking_two (lit< tt) (lit< tt) refl, tt)).0 in
    let z : ◌≡◌ {A = ℕ} 0 5 = ((h.replied refl).options refl 1 (lit< tt)).error in
    absurd (omega arith)

-- the only slot is reserved to address 7
grants-if-free : Demand3 grants_if_free → ⊥
unfolding all-definitions
grants-if-free d =
    let h = (along-calls grants_if_free (table_buffer 1) (roster_of 7 1 1) d refl refl (serving stranger ∷ []) (stranger-in-range, tt)).0 in
    let o = (h.replied refl).options refl 0 (lit< tt) in
    let z : ◌≡◌ {A = ℕ} 0 1 = o.full_exactly.1 (record { setup = refl; unheld = refl }, inr (omega arith, omega arith)) in
    absurd (omega arith)

-- address 7 has limit 1 and asks from a second port
counts-by-port : Demand3 counts_by_port → ⊥
unfolding all-definitions
counts-by-port d =
    let q = asking 0 3600 in
    let h = (along-calls counts_by_port (table_buffer 2) (roster_of 7 0 1) d refl refl (serving (from 7 1 q) ∷ serving (from 7 2 q) ∷ [])
    (from-in-range 7 1 q (lit< tt) (lit< tt) refl, (from-in-range 7 2 q (lit< tt) (lit< tt) refl, tt))).1.0 in
    let o = (h.replied refl).options refl 0 (lit< tt) in
    let z : ◌≡◌ {A = ℕ} 0 1 = o.full_exactly.1 (record { setup = refl; unheld = refl }, inl (omega arith)) in
    absurd (omega arith)

-- ---- ON ONE TABLE

-- an entry of address 5 in the only slot
abbrev only_entry : Bool → ℕ → ℕ → Entry
only_entry established lease stamp =
    record { established = established; address = 5; port = 1; number = 7; lease = lease; stamp = stamp; qtype = 12; qclass = 1; name = 1 ∷ 97 ∷ 0 ∷ [] }

abbrev only_table : ℕ → Entry → Table
only_table running e = record { layout = record { weeks = ten_bit }; clock = record { place = 0; running = running }; roster = []; slots = held e ∷ [] }

-- a pending entry is not itself established
slot_state : Slot → Bool
slot_state free = false
slot_state (held x) = x.established

not-established : (e : Entry) → e.established ≡ false → held (establish e) ≡ held e → ⊥
unfolding slot_state
not-established e b g = never {b = true} refl (ap slot_state g ∙ b)

-- it reports one entry freed of none
invents-freed : Ticking invents_freed → ⊥
unfolding all-definitions
invents-freed k =
    let b = fresh_bytes invents_freed (table_buffer 1) [] in
    let z : 1 + 0 + 0 ≡ 0 = (k (tick_at 0 0) b tick-in-range (sound-by-test b refl refl) refl).count in
    absurd (omega arith)

-- near the wrap of the running count a live entry is freed
compares-sum : Ticking compares_sum → ⊥
unfolding all-definitions
compares-sum k =
    let e = only_entry true 60 4294967290 in
    let b = table_bytes (only_table 4294967290 e) in
    not-held e ((k (tick_at 0 0) b tick-in-range (sound-by-test b refl refl) refl).moved.kept 0 e refl (λ h. omega arith))

-- a pending entry of age 20 is freed
drops-pending : Ticking drops_pending → ⊥
unfolding all-definitions
drops-pending k =
    let e = only_entry false 60 0 in
    let b = table_bytes (only_table 20 e) in
    not-held e ((k (tick_at 0 0) b tick-in-range (sound-by-test b refl refl) refl).moved.kept 0 e refl (λ h. omega arith))

-- another address quotes the number and the lease of a pending entry
finds-by-number : EstablishedExactly finds_by_number → ⊥
unfolding all-definitions
finds-by-number k =
    let e = only_entry false 3600 0 in
    let b = table_bytes (only_table 20 e) in
    let c = from 6 1 (asking 7 3600) in
    let g : held (establish e) ≡ held e =
    (k c b (reply_buffer c) (from-in-range 6 1 (asking 7 3600) (lit< tt) (lit< tt) refl) (sound-by-test b refl refl) refl refl 0 e
    (record { here = refl; pending = refl; live = λ h. omega arith })).untouched (λ i l a. omega (arith, a.own.address)) in
    absurd (not-established e refl g)

-- ---- LEASES TOLD AND TAKEN WRONGLY

-- setup and setup again 40 seconds later: 3,560 remain
again : ServeCall
again = from_at 40 9 1 (asking 0 3600)

again-in-range : ServeInRange again
unfolding every again
again-in-range = from-at-in-range 40 9 1 (asking 0 3600) (lit< tt) (lit< tt) (lit< tt) refl

repeats-granted : Demand3 repeats_granted → ⊥
unfolding all-definitions again
repeats-granted d =
    let h = (along-calls repeats_granted (table_buffer 1) [] d refl refl (serving stranger ∷ serving again ∷ []) (stranger-in-range, (again-in-range, tt))).1.0 in
    let z : ◌≡◌ {A = ℕ} 3600 3560 = ((h.replied refl).options refl 0 (lit< tt)).lease in
    absurd (omega arith)

-- the entry's age is 40 and not 0
restamps-on-repeat : Demand3 restamps_on_repeat → ⊥
unfolding all-definitions again
restamps-on-repeat d =
    let h = (along-calls restamps_on_repeat (table_buffer 1) [] d refl refl (serving stranger ∷ serving again ∷ []) (stranger-in-range, (again-in-range, tt))).1.0 in
    let z : ◌≡◌ {A = ℕ} 0 1 = as-many-by (λ h. eqb h.age 40) _ _ h.agrees in
    absurd (omega arith)

-- a response with 3,560 at age 45: 3,555 remain, and not 3,515
sent-less-age : Demand3 sent_less_age → ⊥
unfolding all-definitions
sent-less-age d =
    let c = from_at 45 9 1 (asking 7 3560) in
    let h = (along-calls sent_less_age (table_buffer 1) [] d refl refl (serving stranger ∷ serving c ∷ [])
    (stranger-in-range, (from-at-in-range 45 9 1 (asking 7 3560) (lit< tt) (lit< tt) (lit< tt) refl, tt))).1.0 in
    let z : ◌≡◌ {A = ℕ} 3515 3555 = ((h.replied refl).options refl 0 (lit< tt)).lease in
    absurd (omega arith)

-- a pending entry of lease 3,600 at age 40, and its sender's response with a lease
abbrev pending_entry : Entry
pending_entry = only_entry false 3600 0

abbrev pending_bytes : List ℕ
pending_bytes = table_bytes (only_table 40 pending_entry)

abbrev sending : ℕ → ServeCall
sending lease = from 5 1 (asking 7 lease)

-- what the claim says of it
taking : (s : Server) → EstablishedExactly s → (lease : ℕ) → are_bytes (asking 7 lease) → (s.serve (sending lease) pending_bytes (reply_buffer (sending lease))).number ≡ 0
    → PendingAfter 40 (sending lease) (read_table (s.serve (sending lease) pending_bytes (reply_buffer (sending lease))).table) 0 pending_entry
unfolding all-definitions
taking s k lease bytes answered =
    k (sending lease) pending_bytes (reply_buffer (sending lease)) (from-in-range 5 1 (asking 7 lease) (lit< tt) (lit< tt) bytes)
    (sound-by-test pending_bytes refl refl) refl answered 0 pending_entry (record { here = refl; pending = refl; live = λ h. omega arith })

-- with what remains, 3,560, it is right
right-late : FirstResponse 40 (sending 3560) 0 pending_entry
unfolding all-definitions
right-late =
    record {
      within = lit< tt;
      response = record {
        response = record { version = refl; opcode = refl; error = refl; number = λ h. omega arith };
        own = record { address = refl; port = refl; name = refl; qtype = refl; qclass = refl };
        number = refl;
        least = omega arith;
        most = omega arith;
      };
      first = λ i l r. omega arith;
    }

-- and these two do not establish it
granted-only : EstablishedExactly granted_only → ⊥
unfolding all-definitions
granted-only k = not-established pending_entry refl (sym ((taking granted_only k 3560 refl refl).established 0 right-late (λ i l m r. omega arith)))

open-below : EstablishedExactly open_below → ⊥
unfolding all-definitions
open-below k = not-established pending_entry refl (sym ((taking open_below k 3560 refl refl).established 0 right-late (λ i l m r. omega arith)))

-- with 3,559, less than what remains, it is established
any-up-to-granted : EstablishedExactly any_up_to_granted → ⊥
unfolding all-definitions
any-up-to-granted k =
    not-established pending_entry refl ((taking any_up_to_granted k 3559 refl refl).untouched (λ i l r. least i l r.least))
  where
    least : (i : ℕ) → i < 1 → 3600 ≤ (llq_option (asking 7 3559) i).lease + 40 → ⊥
    least zero l h = omega (arith, h)
    least (suc i) l h = omega arith

-- ---- THE CLOCK

-- a table made at the first second in a buffer, and a tick: what it leaves agrees with the tally
ticked-after : (s : Server) (buffer : List ℕ) → Demand3 s → (week second : ℕ) → week < 2 ^ 32 → second < 2 ^ 32
    → 0 ≡ (s.make (make_at 0 0 []) buffer).number
    → Agrees (s.tick (tick_at week second) (fresh_bytes s buffer [])).table
    (tally_after (length buffer) (begin_tally (length buffer) (make_at 0 0 [])) (ticking (tick_at week second)))
unfolding every
ticked-after s buffer d week second hw hs made =
    (along-calls s buffer [] d refl made (ticking (tick_at week second) ∷ []) (tick-at-in-range week second hw hs, tt)).0.agrees

-- k seconds before the first, around the end of the cycle: the place that the tick leaves is the tally's
placed-after : (s : Server) → Demand3 s → (k : ℕ) → 604800 - k < 2 ^ 32 → 0 ≡ (s.make (make_at 0 0 []) (table_buffer 1)).number
    → Agrees (s.tick (tick_at 1023 (604800 - k)) (fresh_bytes s (table_buffer 1) [])).table
    (tally_after (length (table_buffer 1)) (begin_tally (length (table_buffer 1)) (make_at 0 0 [])) (ticking (tick_at 1023 (604800 - k))))
placed-after s d k h made = ticked-after s (table_buffer 1) d 1023 (604800 - k) (lit< tt) h made

place_read : (b : List ℕ) (y : Tally) → Agrees b y → (read_table b).clock.place ≡ y.place
place_read b y g = ap (λ (t : Table). t.clock.place) (read-stored b g.stored) ∙ g.place

-- 61 seconds back: the tally's place is the new one
freezes-place : Demand3 freezes → ⊥
unfolding all-definitions
freezes-place d =
    let z : ◌≡◌ {A = ℕ} 0 619315139 = place_read _ _ (placed-after freezes d 61 (lit< tt) refl) in
    absurd (omega arith)

waits-for-61 : Demand3 waits_for61 → ⊥
unfolding all-definitions
waits-for-61 d =
    let z : ◌≡◌ {A = ℕ} 0 619315139 = place_read _ _ (placed-after waits_for61 d 61 (lit< tt) refl) in
    absurd (omega arith)

-- 60 seconds back: it is the old one
keeps-always-place : Demand3 keeps_always → ⊥
unfolding all-definitions
keeps-always-place d =
    let z : ◌≡◌ {A = ℕ} 619315140 0 = place_read _ _ (placed-after keeps_always d 60 (lit< tt) refl) in
    absurd (omega arith)

-- a setup, 60 seconds back and 60 on: the entry's age is 60, and the calls since its stamp add 0
back_and_forth : List Call
back_and_forth = serving stranger ∷ ticking (tick_at 1023 604740) ∷ ticking (tick_at 0 0) ∷ []

strangers_entry : Entry
strangers_entry =
    record { established = false; address = 9; port = 1; number = 7; lease = 3600; stamp = 0; qtype = 12; qclass = 1; name = 1 ∷ 97 ∷ 0 ∷ [] }

-- of a call and two ticks the call alone can be the datagram
tail_of : List Event → List Event
tail_of [] = []
tail_of (x ∷ xs) = xs

head_or : Event → List Event → Event
head_or e [] = e
head_or e (x ∷ xs) = x

only-first : (e : Event) (c c2 : TickCall) (k k2 f f2 : ℕ) (b b2 : List ℕ) (earlier rest : List Event) (g : Event)
    → earlier ++ (g ∷ rest) ≡ e ∷ ticked c k f b ∷ ticked c2 k2 f2 b2 ∷ [] → AnsweredDatagram g
    → (earlier ++ (g ∷ []) ≡ e ∷ []) × (rest ≡ ticked c k f b ∷ ticked c2 k2 f2 b2 ∷ [])
unfolding tail_of head_or
only-first e c c2 k k2 f f2 b b2 [] rest g p a = (ap (λ (x : List Event). head_or g x ∷ []) p, ap tail_of p)
only-first e c c2 k k2 f f2 b b2 (x ∷ []) rest g p a = absurd (subst AnsweredDatagram (ap (λ (l : List Event). head_or g (tail_of l)) p) a)
only-first e c c2 k k2 f f2 b b2 (x ∷ x2 ∷ []) rest g p a =
    absurd (subst AnsweredDatagram (ap (λ (l : List Event). head_or g (tail_of (tail_of l))) p) a)
only-first e c c2 k k2 f f2 b b2 (x ∷ x2 ∷ x3 ∷ xs) rest g p a =
    absurd (omega (arith, length-append xs (g ∷ rest), ap (λ (l : List Event). length (tail_of (tail_of (tail_of l)))) p))

keeps-always-age : Summed keeps_always → ⊥
unfolding all-definitions back_and_forth strangers_entry
keeps-always-age k =
    let size = length (table_buffer 1) in
    let y = begin_tally size (make_at 0 0 []) in
    let since = since-stamp keeps_always (table_buffer 1) [] k refl refl back_and_forth
    (stranger-in-range, (tick-at-in-range 1023 604740 (lit< tt) (lit< tt), (tick-in-range, tt))) 0 strangers_entry refl in
    let only = only-first _ _ _ _ _ _ _ _ _ since.earlier since.rest since.stamping since.split since.answered in
    let z : ◌≡◌ {A = ℕ} 60 0 =
    since.age
    ∙ ap (λ (l : List Event). added_along size (tally_along size y (map call_of l)) (map call_of since.rest)) only.0
    ∙ ap (λ (l : List Event). added_along size (tally_along size y (serving stranger ∷ [])) (map call_of l)) only.1 in
    absurd (omega arith)

-- an entry of age 140, and a tick 70 seconds back
abbrev aged_entry : Entry
aged_entry = only_entry false 3600 0

abbrev aged_bytes : List ℕ
aged_bytes = table_bytes (record { layout = record { weeks = ten_bit }; clock = record { place = 100; running = 140 }; roster = []; slots = held aged_entry ∷ [] })

-- what the claim says of it
ticked-back : (s : Server) → Ticking s → (s.tick (tick_at 0 30) aged_bytes).number ≡ 0
    → TickDone (tick_at 0 30) aged_bytes (s.tick (tick_at 0 30) aged_bytes).table (s.tick (tick_at 0 30) aged_bytes).freed
unfolding all-definitions
ticked-back s k answered = k (tick_at 0 30) aged_bytes (tick-at-in-range 0 30 (lit< tt) (lit< tt)) (sound-by-test aged_bytes refl refl) answered

-- the count stays at 140
counts-back : Ticking counts_back → ⊥
unfolding all-definitions
counts-back k =
    let z : ◌≡◌ {A = ℕ} 70 140 = ap (λ (c : Clock). c.running) (ticked-back counts_back k refl).moved.clock in
    absurd (omega arith)

-- and the entry stays
ends-on-set-back : Ticking ends_on_set_back → ⊥
unfolding all-definitions
ends-on-set-back k = not-held aged_entry ((ticked-back ends_on_set_back k refl).moved.kept 0 aged_entry refl (λ h. omega arith))

-- 3,460 was told, and 3,530 would remain
counts-back-told : ToldLeases counts_back → ⊥
unfolding all-definitions
counts-back-told k =
    let e = aged_entry in
    let a = counts_back.tick (tick_at 0 30) aged_bytes in
    let r = k.right aged_bytes (ticked (tick_at 0 30) a.number a.freed a.table ∷ []) 0 e e (sound-by-test aged_bytes refl refl)
    (tick-at-in-range 0 30 (lit< tt) (lit< tt), tt) (record { number = refl; freed = refl; table = refl }, tt) refl
    (record { kept = same_self 0 e (read_table a.table) refl; lease = refl }, tt)
    refl (record { address = 5; port = 1 }) (record { name = 1 ∷ 97 ∷ 0 ∷ []; qtype = 12; qclass = 1 })
    (record { version = 1; opcode = 1; error = 0; number = 7; lease = 3460 })
    (record { version = refl; opcode = refl; error = refl; number = λ h. omega arith })
    (record { address = refl; port = refl; name = refl; qtype = refl; qclass = refl }) refl refl in
    absurd (omega (arith, r.least))

-- THE CLOCK ALONE, from place 100 and count 7

-- set back by 100 seconds and 10 on: the count is 17
stands-still : Resumes (move_back stands) → ⊥
unfolding all-definitions
stands-still r =
    let z : ◌≡◌ {A = ℕ} 7 17 =
    ap (λ (c : Clock). c.running) (r.set_back (cycle_of ten_bit) (record { place = 100; running = 7 }) 0 10 refl (lit< tt) (lit< tt) (lit< tt) (omega arith) (omega arith)) in
    absurd (omega arith)

-- back by 60 seconds and on: the count is 7 still
keeps-little : Resumes (move_back set_to) → ⊥
unfolding all-definitions
keeps-little r =
    let z : ◌≡◌ {A = ℕ} 67 7 =
    ap (λ (c : Clock). c.running) (r.went_back (cycle_of ten_bit) (record { place = 100; running = 7 }) 40 60 60 refl (lit< tt) (lit< tt) (lit< tt) refl (omega arith) (omega arith) (omega arith)) in
    absurd (omega arith)

-- the samples of 61 seconds back, and of 1
stands-sample : ClockSamples (move_back stands (cycle_of ten_bit)) → ⊥
unfolding all-definitions
stands-sample r = let z : ◌≡◌ {A = ℕ} 1000 939 = ap (λ (c : Clock). c.place) r.1.1.1.0 in absurd (omega arith)

keeps-sample : ClockSamples (move_back set_to (cycle_of ten_bit)) → ⊥
unfolding all-definitions
keeps-sample r = let z : ◌≡◌ {A = ℕ} 999 1000 = ap (λ (c : Clock). c.place) r.1.0 in absurd (omega arith)

-- ---- THE FOLD

-- after a stranger's setup as many of the table's entries have a name as of the tally's
names-after : (s : Server) → Demand3 s → (byte : ℕ) → are_bytes (asking_byte byte 0 3600) → 0 ≡ (s.make (make_at 0 0 []) (table_buffer 1)).number
    → (name : List ℕ)
    → count (holdings (read_table (s.serve (strangers_setup byte) (fresh_bytes s (table_buffer 1) []) (reply_buffer (strangers_setup byte))).table)) (λ h. same h.name name)
    ≡ count (tally_after (length (table_buffer 1)) (begin_tally (length (table_buffer 1)) (make_at 0 0 [])) (serving (strangers_setup byte))).holdings (λ h. same h.name name)
unfolding every
names-after s d byte bytes made name =
    as-many-by (λ h. same h.name name) _ _
    (along-calls s (table_buffer 1) [] d refl made (serving (strangers_setup byte) ∷ []) (from-in-range 9 1 (asking_byte byte 0 3600) (lit< tt) (lit< tt) bytes, tt)).0.agrees

-- the tally has z for Z
z-unfolded : Demand3 z_unfolded → ⊥
unfolding all-definitions
z-unfolded d = let z : ◌≡◌ {A = ℕ} 0 1 = names-after z_unfolded d 90 refl refl (1 ∷ 122 ∷ 0 ∷ []) in absurd (omega arith)

-- and these two as they were sent
bracket-folded : Demand3 bracket_folded → ⊥
unfolding all-definitions
bracket-folded d = let z : ◌≡◌ {A = ℕ} 0 1 = names-after bracket_folded d 91 refl refl (1 ∷ 91 ∷ 0 ∷ []) in absurd (omega arith)

latin-folded : Demand3 latin_folded → ⊥
unfolding all-definitions
latin-folded d = let z : ◌≡◌ {A = ℕ} 0 1 = names-after latin_folded d 0xC1 refl refl (1 ∷ 0xC1 ∷ 0 ∷ []) in absurd (omega arith)

-- the samples of z against Z, of @az[ against @AZ[, and of 0xE1 against 0xC1
z-sample : NameSamples read_unfolded_z → ⊥
unfolding all-definitions
z-sample r = never {b = true} refl (sym r.2.2.2.2.0)

bracket-sample : NameSamples read_folded_bracket → ⊥
unfolding all-definitions
bracket-sample r = never {b = true} refl (sym r.0)

latin-sample : NameSamples read_folded_latin → ⊥
unfolding all-definitions
latin-sample r = never {b = true} refl r.2.2.0

-- ---- THE TWO WIDTHS OF THE WEEK

running-read : (b : List ℕ) (y : Tally) → Agrees b y → (read_table b).clock.running ≡ y.running
running-read b y g = ap (λ (t : Table). t.clock.running) (read-stored b g.stored) ∙ g.running

-- half a ten-bit cycle on, which is no step back around the thirteen-bit one, the tally's count has gone on; 30 seconds less than a ten-bit cycle
-- on, which is no small step back, its place is the new one
ten-bit-apart : Demand3 ten_bit_cycle → ◌≡◌ {A = ℕ} 0 309657600 × ◌≡◌ {A = ℕ} 0 619315170
unfolding all-definitions
ten-bit-apart d = (
  running-read _ _ (ticked-after ten_bit_cycle (wide_buffer 1) d 512 0 (lit< tt) (lit< tt) refl),
  place_read _ _ (ticked-after ten_bit_cycle (wide_buffer 1) d 1023 604770 (lit< tt) (lit< tt) refl),
)

ten-bit-cycle : Demand3 ten_bit_cycle → ⊥
ten-bit-cycle d = let z = (ten-bit-apart d).0 in absurd (omega arith)

ten-bit-place : Ticking ten_bit_cycle → ⊥
unfolding all-definitions
ten-bit-place k =
    let b = fresh_bytes ten_bit_cycle (wide_buffer 1) [] in
    let z : ◌≡◌ {A = ℕ} 0 619315170 =
    ap (λ (c : Clock). c.place)
    (k (tick_at 1023 604770) b (tick-at-in-range 1023 604770 (lit< tt) (lit< tt)) (sound-by-test b refl refl) refl).moved.clock in
    absurd (omega arith)

-- a setup and a tick 2^31 seconds later: the entry has run out, and it is still there
signed-step : Demand3 signed_step → ⊥
unfolding all-definitions
signed-step d =
    let h = (along-calls signed_step (wide_buffer 1) [] d refl refl (serving stranger ∷ ticking (tick_at 3550 443648) ∷ [])
    (stranger-in-range, (tick-at-in-range 3550 443648 (lit< tt) (lit< tt), tt))).1.0 in
    let z : ◌≡◌ {A = ℕ} 1 0 = as_many _ _ h.agrees in
    absurd (omega arith)

-- week 1,024 on a ten-bit table is refusal 2, and it is done
takes-wide-week : Refusals takes_wide_week → ⊥
unfolding all-definitions
takes-wide-week r =
    let b = fresh_bytes takes_wide_week (table_buffer 1) [] in
    ⊎_elim
    (λ h. h.0 (sound-by-test b refl refl))
    (λ h. ⊎_elim (λ g. absurd (omega (arith, g.1))) (λ g. g.0 (week_too_large (lit< tt))) h.1)
    (r.tick_number (tick_at 1024 0) b (tick-at-in-range 1024 0 (lit< tt) (lit< tt)) (bytes-by-test b refl))

-- a record of kind 1 in 637 bytes is no sound table's
makes-ten-bit : Demand3 makes_ten_bit → ⊥
unfolding all-definitions
makes-ten-bit d =
    let b = fresh_bytes makes_ten_bit (wide_buffer 1) [] in
    never {b = sound_bytes b} (means-sound b (from-making makes_ten_bit (wide_buffer 1) [] d refl refl [] tt).0.stored) refl

-- nor the one written out
makes-ten-bit-pin : Pinned makes_ten_bit → ⊥
unfolding all-definitions
makes-ten-bit-pin p = let z : ◌≡◌ {A = ℕ} 1 9 = ap (λ (m : Made). get_or m.table 0 0) p.wide_made in absurd (omega arith)

-- the samples around the end of the cycle, and of 2^31
ten-bit-sample : WideSamples (step (cycle_of ten_bit)) (advance (cycle_of ten_bit)) → ⊥
unfolding all-definitions
ten-bit-sample r = let z : ◌≡◌ {A = ℕ} 7 8 = ap (λ (c : Clock). c.running) r.1 in absurd (omega arith)

signed-sample : WideSamples (λ from to. with_sign (step (cycle_of thirteen_bit) from to)) (move_signed (cycle_of thirteen_bit)) → ⊥
unfolding all-definitions
signed-sample r = let z : ◌≡◌ {A = ℕ} 7 2147483655 = ap (λ (c : Clock). c.running) r.2.2.2.1 in absurd (omega arith)

-- ---- ALL THIRTY

pub refuted : Refuted
refuted =
    record {
      refuses_all = refuses-all;
      constant_reply = constant-reply;
      says_full = says-full;
      leaves_table = leaves_table_lem;
      copies_first = copies-first;
      invents_freed = invents-freed;
      grants_unstored = grants-unstored;
      compares_sum = compares-sum;
      drops_pending = drops-pending;
      grants_if_free = grants-if-free;
      counts_by_port = counts-by-port;
      finds_by_number = finds-by-number;
      repeats_granted = repeats-granted;
      restamps_on_repeat = restamps-on-repeat;
      granted_only = granted-only;
      any_up_to_granted = any-up-to-granted;
      open_below = open-below;
      sent_less_age = sent-less-age;
      freezes = freezes-place;
      keeps_always = (keeps-always-age, keeps-always-place);
      waits_for61 = waits-for-61;
      counts_back = (counts-back, counts-back-told);
      ends_on_set_back = ends-on-set-back;
      z_unfolded = z-unfolded;
      bracket_folded = bracket-folded;
      latin_folded = latin-folded;
      ten_bit_cycle = (ten-bit-cycle, ten-bit-place);
      signed_step = signed-step;
      takes_wide_week = takes-wide-week;
      makes_ten_bit = (makes-ten-bit, makes-ten-bit-pin);
      resumes = (stands-still, keeps-little);
      clock_samples = (stands-sample, keeps-sample);
      wide_samples = (ten-bit-sample, signed-sample);
      name_samples = (z-sample, bracket-sample, latin-sample);
    }

-- ---- THE WRONG SERVERS' COMMON PARTS ARE THE MODEL'S

table-right : (c : ServeCall) (t : Table) (i : ℕ) → table_with right c t i ≡ table_before c t i
unfolding table_with table_before
table-right c t zero = refl
table-right c t (suc i) =
    ap (λ (u : Table). (serve_option c.sender c.random (question c.datagram i) (llq_option c.datagram i) u).table) (table-right c t i)

serve-by : (k : ℕ) (c : ServeCall) (b given : List ℕ) → serve_with right k c b given ≡ served_by k c b given
unfolding table_after outcomes outcome_of
serve-by zero c b given =
    ap
    (λ (f : ℕ → Table).
    record {
      number = 0;
      length = reply_length c.datagram;
      table = table_bytes (f (cond (matched c.datagram) (qdcount c.datagram) 0));
      reply =
          reply_bytes c.datagram
          (cond (matched c.datagram)
          (up_to (qdcount c.datagram) (λ i. (serve_option c.sender c.random (question c.datagram i) (llq_option c.datagram i) (f i)).outcome))
          (mismatch ∷ []))
          ++ drop (reply_length c.datagram) given;
    })
    (fun_ext (λ (i : ℕ). table-right c (read_table b) i))
serve-by (suc k) c b given = refl

-- with the model's move, the model's reader and the model's option, serving is the model's
pub serve-right : (c : ServeCall) (b given : List ℕ) → (server_of right).serve c b given ≡ serve c b given
unfolding serve
serve-right c b given = serve-by (serve_refusal c b) c b given

through : (s : List ℕ) → Bytes s → map (λ b. get_or fold_entries b 0) s ≡ map fold s
through [] h = refl
through (x ∷ s) h =
    ap (λ (y : ℕ). y ∷ map (λ b. get_or fold_entries b 0) s) (get_or-up_to 256 fold x 0 (h 0)) ∙ ap (λ (l : List ℕ). fold x ∷ l) (through s (λ i. h (suc i)))

-- through the table that the rule gives, a question of a datagram of bytes is read as the model's
pub through-right : (d : List ℕ) (i : ℕ) → Bytes d → read_through fold_entries d i ≡ question d i
unfolding question_at
through-right d i h =
    let at = question_start d i in
    ap (λ (l : List ℕ). record { name = l; qtype = (question d i).qtype; qclass = (question d i).qclass })
    (through (part at (name_at d at) d) (bytes-part at (name_at d at) d h))

-- with the model's way to move the clock, a table is moved on as the model's
pub move-right : (t : Table) (place : ℕ) → free_run_out (with_clock t (advance (cycle_in t) t.clock place)) ≡ moved_on t place
unfolding moved_on
move-right t place = refl

-- with the model's rule for a step back, the clock moves as the model's
pub back-right : (c : Clock) (to : ℕ) (z : ℤ) → on_back (λ c to k. cond (leb k slack) (stands c to k) (set_to c to k)) c to z ≡ moved c to z
back-right c to (pos n) = refl
back-right c to (negsuc n) = refl

-- a step under 2^31 seconds has its sign
pub sign-right : (n : ℕ) → n < 2147483648 → with_sign (pos n) ≡ pos n
sign-right n h = rw (lt-ltb n 2147483648 h)

-- in a ten-bit buffer the ten-bit layout is the model's
pub ten-bit-right : makes_ten_bit.make (make_at 0 0 []) (table_buffer 1) ≡ make (make_at 0 0 []) (table_buffer 1)
unfolding all-definitions
ten-bit-right = refl

-- with the model's test and the model's answer, a response is the model's, and a setup is with the model's challenge of an entry that is there
pub response-right : (k : Kind) (s : Sender) (r : ℕ) (q : Question) (o : LlqOption) (t : Table)
    → by_kind (serve_kind setup) (λ s r q o t. let i = find_entry (answers s q o) t in on_response o t i (slot_of t i)) k s r q o t ≡ serve_kind k s r q o t
unfolding serve_kind serve_response
response-right bad_version s r q o t = refl
response-right bad_format s r q o t = refl
response-right setup s r q o t = refl
response-right response s r q o t = refl
response-right refresh s r q o t = refl

pub found_right : (s : Sender) (r : ℕ) (q : Question) (o : LlqOption) (t : Table) (i : ℕ) (x : Slot)
    → on_found (λ o t i e. on_setup s r q o t (held e)) s r q o t i x ≡ on_setup s r q o t x
found_right s r q o t i free = refl
found_right s r q o t i (held e) = refl
