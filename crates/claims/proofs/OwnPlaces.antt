-- By the places that it holds itself `keeps_always`, which keeps the new place of every step back, adds up: each of its calls leaves the model's table
-- but for the place. Assumes nothing.
use Prim.Native.Nat.{ℕ, zero, suc, ◌+◌, ◌<◌}
use native.Mathlib.Nat.{add_assoc}
use native.Mathlib.Omega.{arith}
use mathlib.Core.Path.{◌≡◌, refl, sym, ap, ◌∙◌, subst}
use mathlib.Core.Bool.{Bool, true, false, cond}
use mathlib.Core.List.{List, [], ◌∷◌, map}
use lib.ListN.{length}
use lib.IntN.{ℤ, pos, negsuc}
use lib.Dec.{eqb, leb}
use Rattle.model.specs.Lists.{count}
use Rattle.model.specs.Clock.{Clock, slack, step, moved, advance, age_at, place_of}
use Rattle.model.specs.Query.{Question, LlqOption, question, llq_option}
use Rattle.model.specs.Table.{Slot, free, held, Table, cycle_in, read_table, table_bytes, size_of}
use Rattle.model.specs.Rules.{holdings, granted_lease, full}
use Rattle.model.specs.Sound.{Sound, Fits, SoundBytes}
use Rattle.model.specs.Serve.{Sender, Served, Kind, with_clock, with_slots, with_slot, ended, renew, retry_later, granted, free_run_out, bad_version, bad_format, setup, response, refresh, slot_of, moved_on, free_if_run_out, find_entry, kind_of_option, on_setup, serve_setup, on_response, serve_response, on_refresh, serve_refresh, serve_kind, serve_option}
use Rattle.model.specs.Calls.{TickCall, ServeCall, Ticked, Answered, tick_refusal, serve_refusal, table_before, table_after, tick, serve}
use Rattle.model.specs.Meets.{model}
use Rattle.model.proofs.ListLaws.{either}
use Rattle.model.proofs.RoundTrip.{table-back}
use Rattle.model.proofs.ClockLaws.{placed}
use Rattle.model.proofs.StepLaws.{cycle-fits, moved-layout}
use Rattle.model.proofs.CallLaws.{tick-number, tick-answered, serve-number, serve-answered}
use Rattle.claims.specs.Lengths.{cycle_for}
use Rattle.claims.specs.Tally.{tally_before, move_tally}
use Rattle.claims.specs.Events.{Event, made, ticked, served, call_of, table_of, Happens, InRange, TickInRange, ServeInRange}
use Rattle.claims.specs.Changes.{done_options}
use Rattle.claims.specs.LiveAge.{step_in, steps_along, Stamped, age_in, Grows}
use Rattle.claims.specs.AnySound.{tally_of}
use Rattle.claims.specs.Impostors.{Parts, moves_by, table_with, tick_with, serve_with, on_back, move_back, set_to, keeps_always, OwnPlaces}
use Rattle.claims.proofs.AcceptedCalls.{tick-accepted, serve-accepted}
use Rattle.claims.proofs.Refusals.{refusals}
use Rattle.claims.proofs.Demand3.TallyLaws.{before-cycle}
use Rattle.claims.proofs.Demand3.CallSteps.{kept-stored, kept_step}
use Rattle.claims.proofs.Relation.MoveKeeps.{move-keeps}
use Rattle.claims.proofs.Relation.DatagramKeeps.{done-le, datagram-keeps}
use Rattle.claims.proofs.Relation.TableTally.{related-read, same_layout, read_back}
use Rattle.claims.proofs.LiveAge.AgeSteps.{kept_self, age-step, since-stamped}

-- ANOTHER PLACE in a table's clock
abbrev with_place : ℕ → Table → Table
with_place p t = with_clock t (record { place = p; running = t.clock.running })

abbrev placed_in : ℕ → Served → Served
placed_in p x = record { table = with_place p x.table; outcome = x.outcome }

-- an option does not look at it
module _ (p : ℕ) (t : Table) (s : Sender) (r : ℕ) (q : Question) (o : LlqOption) where
  by-test : (v : Bool) (x y : Served) → cond v (placed_in p x) (placed_in p y) ≡ placed_in p (cond v x y)
  by-test true x y = refl
  by-test false x y = refl

  on-setup : (z : Slot) → on_setup s r q o (with_place p t) z ≡ placed_in p (on_setup s r q o t z)
  unfolding on_setup
  on-setup (held e) = refl
  on-setup free =
      by-test (full (length t.slots) t.roster (count (holdings t)) s.address) (record { table = t; outcome = retry_later o }) (granted s r q o t)

  on-response : (i : ℕ) (z : Slot) → on_response o (with_place p t) i z ≡ placed_in p (on_response o t i z)
  unfolding on_response
  on-response i (held e) = refl
  on-response i free = refl

  on-refresh : (i : ℕ) (z : Slot) → on_refresh o (with_place p t) i z ≡ placed_in p (on_refresh o t i z)
  unfolding on_refresh
  on-refresh i (held e) =
      by-test (eqb o.lease 0)
      (record { table = with_slot t i ended; outcome = record { opcode = o.opcode; error = 0; number = e.number; lease = 0 } })
      (record {
        table = with_slot t i (held (renew t.clock.running o.lease e));
        outcome = record { opcode = o.opcode; error = 0; number = e.number; lease = granted_lease o.lease };
      })
  on-refresh i free = refl

  on-kind : (k : Kind) → serve_kind k s r q o (with_place p t) ≡ placed_in p (serve_kind k s r q o t)
  unfolding serve_kind serve_setup serve_response serve_refresh find_entry
  on-kind bad_version = refl
  on-kind bad_format = refl
  on-kind setup = on-setup _
  on-kind response = on-response _ _
  on-kind refresh = on-refresh _ _

-- a sound table with another place on the cycle is sound
module _ (p : ℕ) (t : Table) (h : p < cycle_in t) (s : Sound t) (f : Fits t) where
  sound-placed : Sound (with_place p t)
  sound-placed =
      record {
        place = h;
        slots_min = s.slots_min;
        slots_max = s.slots_max;
        lines = s.lines;
        listed_once = s.listed_once;
        valid_lines = s.valid_lines;
        share_sum = s.share_sum;
        non_zero = s.non_zero;
        numbers = s.numbers;
        leases = s.leases;
        ages = s.ages;
        names = s.names;
        questions = s.questions;
        limits = s.limits;
        reserved = s.reserved;
      }

  fits-placed : Fits (with_place p t)
  fits-placed = record { place = omega (arith, h, cycle-fits t.layout.weeks); running = f.running; lines = f.lines; slots = f.slots }

  read-placed : read_table (table_bytes (with_place p t)) ≡ with_place p t
  read-placed = table-back (with_place p t) s.lines fits-placed

  stored-placed : SoundBytes (table_bytes (with_place p t))
  stored-placed = record { table = with_place p t; sound = sound-placed; fits = fits-placed; bytes = refl }

-- THE CLOCK OF keeps_always: the model's count, at a place of its own
same_count : (c : ℕ) (k : Clock) (to : ℕ) → (move_back set_to c k to).running ≡ (advance c k to).running
unfolding advance
same_count c k to = go (step c k.place to)
  where
    go : (z : ℤ) → (on_back set_to k to z).running ≡ (moved k to z).running
    go (pos n) = refl
    go (negsuc n) = either (λ (x : Clock). k.running ≡ x.running) (leb (n + 1) slack) refl refl

own-place : (c : ℕ) (k : Clock) (to : ℕ) → to < c → (move_back set_to c k to).place < c
own-place c k to h = go (step c k.place to)
  where
    go : (z : ℤ) → (on_back set_to k to z).place < c
    go (pos n) = h
    go (negsuc n) = h

abbrev parts : Parts
parts = moves_by (λ t place. free_run_out (with_clock t (move_back set_to (cycle_in t) t.clock place)))

moves-placed : (t : Table) (to : ℕ) → parts.moves t to ≡ with_place (move_back set_to (cycle_in t) t.clock to).place (moved_on t to)
unfolding moved_on
moves-placed t to =
    ap
    (λ (r : ℕ).
    with_slots (with_clock t (record { place = (move_back set_to (cycle_in t) t.clock to).place; running = r })) (map (free_if_run_out r) t.slots))
    (same_count (cycle_in t) t.clock to)

table-placed : (c : ServeCall) (t : Table) (i : ℕ)
    → table_with parts c t i ≡ with_place (move_back set_to (cycle_in t) t.clock (place_of c.week c.second)).place (table_before c t i)
unfolding table_with table_before
table-placed c t zero = moves-placed t (place_of c.week c.second)
table-placed c t (suc i) =
    let p = (move_back set_to (cycle_in t) t.clock (place_of c.week c.second)).place in
    ap (λ (u : Table). (serve_option c.sender c.random (question c.datagram i) (llq_option c.datagram i) u).table) (table-placed c t i)
    ∙ ap (λ (x : Served). x.table) (on-kind p (table_before c t i) c.sender c.random (question c.datagram i) (llq_option c.datagram i) (kind_of_option (llq_option c.datagram i)))

-- ONE CALL beside the model's on the same bytes: the table that it leaves is the model's but for the place, and sound
record Beside (b : List ℕ) (e : Event) : Type 0 where
  other : Event
  happens : Happens model b other
  range : InRange (call_of other)
  steps : (cycle place : ℕ) → step_in cycle place other ≡ step_in cycle place e
  place : ℕ
  read : read_table (table_of e) ≡ with_place place (read_table (table_of other))
  sound : SoundBytes (table_of e)

module _ (b : List ℕ) (e other : Event) (happens : Happens model b other) (range : InRange (call_of other)) (steps : (cycle place : ℕ) → step_in cycle place other ≡ step_in cycle place e) where
  -- answered: it leaves the bytes of the model's table u, but for the place
  answered : (p : ℕ) (u : Table) → p < cycle_in u → Sound u → Fits u → read_table (table_of other) ≡ u → table_of e ≡ table_bytes (with_place p u) → Beside b e
  answered p u h s f back left =
      record {
        other = other;
        happens = happens;
        range = range;
        steps = steps;
        place = p;
        read = ap read_table left ∙ read-placed p u h s f ∙ ap (with_place p) (sym back);
        sound = subst SoundBytes (sym left) (stored-placed p u h s f);
      }

  -- refused: both leave the bytes as they were
  refused : SoundBytes b → table_of other ≡ b → table_of e ≡ b → Beside b e
  refused s kept left =
      record {
        other = other;
        happens = happens;
        range = range;
        steps = steps;
        place = (read_table b).clock.place;
        read = ap read_table (left ∙ sym kept) ∙ ap (λ (l : List ℕ). with_place (read_table l).clock.place (read_table (table_of other))) kept;
        sound = subst SoundBytes (sym left) s;
      }

tick-beside : (b : List ℕ) (c : TickCall) (k freed : ℕ) (after : List ℕ) → SoundBytes b → TickInRange c → Happens keeps_always b (ticked c k freed after)
    → Beside b (ticked c k freed after)
tick-beside b c k freed after s range h = go (tick_refusal c b) refl
  where
    t : Table
    t = read_table b

    at : ℕ
    at = place_of c.week c.second

    -- the model's tick of this number, and as many steps
    other : ℕ → Event
    other n = ticked c n (tick c b).freed (tick c b).table

    happens : (n : ℕ) → tick_refusal c b ≡ n → Happens model b (other n)
    happens n e = record { number = sym (tick-number c b ∙ e); freed = refl; table = refl }

    steps : (n : ℕ) → k ≡ n → (cycle place : ℕ) → step_in cycle place (other n) ≡ step_in cycle place (ticked c k freed after)
    steps n m cycle place = ap (λ (n : ℕ). step_in cycle place (ticked c n 0 [])) (sym m)

    go : (n : ℕ) → tick_refusal c b ≡ n → Beside b (ticked c k freed after)
    go zero e =
        let in-cycle = placed t.layout.weeks c.week c.second (tick-accepted c b e) in
        let r = move-keeps t (tally_of t) at in-cycle (related-read b s) in
        answered b (ticked c k freed after) (other 0) (happens 0 e) range (steps 0 (h.number ∙ ap (λ (n : ℕ). (tick_with parts n c b).number) e))
        (move_back set_to (cycle_in t) t.clock at).place (moved_on t at) (rw (moved-layout t at) (own-place (cycle_in t) t.clock at in-cycle)) r.sound r.fits
        (ap (λ (x : Ticked). read_table x.table) (tick-answered c b e) ∙ read_back (moved_on t at) (move_tally (tally_of t) at) r)
        (h.table ∙ ap (λ (n : ℕ). (tick_with parts n c b).table) e ∙ ap table_bytes (moves-placed t at))
    go (suc n) e =
        refused b (ticked c k freed after) (other (suc n)) (happens (suc n) e) range (steps (suc n) (h.number ∙ ap (λ (n : ℕ). (tick_with parts n c b).number) e)) s
        (refusals.tick_refused c b (λ z. omega (arith, z, tick-number c b, e))).0 (h.table ∙ ap (λ (n : ℕ). (tick_with parts n c b).table) e)

serve-beside : (b : List ℕ) (c : ServeCall) (lent : List ℕ) (k n : ℕ) (after left : List ℕ) → SoundBytes b → ServeInRange c
    → Happens keeps_always b (served c lent k n after left) → Beside b (served c lent k n after left)
unfolding table_after
serve-beside b c lent k n after left s range h = go (serve_refusal c b) refl
  where
    t : Table
    t = read_table b

    u : Table
    u = table_before c t (done_options c)

    at : ℕ
    at = place_of c.week c.second

    other : ℕ → Event
    other m = served c lent m (serve c b lent).length (serve c b lent).table (serve c b lent).reply

    happens : (m : ℕ) → serve_refusal c b ≡ m → Happens model b (other m)
    happens m e = (h.0, record { number = sym (serve-number c b lent ∙ e); length = refl; table = refl; reply = refl })

    steps : (m : ℕ) → k ≡ m → (cycle place : ℕ) → step_in cycle place (other m) ≡ step_in cycle place (served c lent k n after left)
    steps m e cycle place = ap (λ (x : ℕ). step_in cycle place (served c [] x 0 [] [])) (sym e)

    go : (m : ℕ) → serve_refusal c b ≡ m → Beside b (served c lent k n after left)
    go zero e =
        let q = serve-accepted c b e in
        let r = datagram-keeps c t (tally_of t) range q.reading q.questions (related-read b s) (done_options c) (done-le c) in
        let layout-left = same_layout t u (tally_of t) (tally_before c (tally_of t) (done_options c)) (related-read b s) r (before-cycle c (tally_of t) (done_options c)) in
        answered b (served c lent k n after left) (other 0) (happens 0 e) range (steps 0 (h.1.number ∙ ap (λ (x : ℕ). (serve_with parts x c b lent).number) e))
        (move_back set_to (cycle_in t) t.clock at).place u (rw layout-left (own-place (cycle_in t) t.clock at (placed t.layout.weeks c.week c.second q.reading))) r.sound r.fits
        (ap (λ (x : Answered). read_table x.table) (serve-answered c b lent e) ∙ read_back u (tally_before c (tally_of t) (done_options c)) r)
        (h.1.table ∙ ap (λ (x : ℕ). (serve_with parts x c b lent).table) e ∙ ap table_bytes (table-placed c t (done_options c)))
    go (suc m) e =
        refused b (served c lent k n after left) (other (suc m)) (happens (suc m) e) range
        (steps (suc m) (h.1.number ∙ ap (λ (x : ℕ). (serve_with parts x c b lent).number) e)) s
        (refusals.serve_refused c b lent (λ z. omega (arith, z, serve-number c b lent, e))).0 (h.1.table ∙ ap (λ (x : ℕ). (serve_with parts x c b lent).table) e)

-- a making is the model's
beside : (b : List ℕ) (e : Event) → SoundBytes b → InRange (call_of e) → Happens keeps_always b e → Beside b e
beside b (made c k after) s range h =
    record {
      other = made c k after;
      happens = record { number = h.number; table = h.table };
      range = range;
      steps = λ cycle place. refl;
      place = (read_table after).clock.place;
      read = refl;
      sound = kept-stored (kept_step (size_of (read_table b).layout (length (read_table b).slots)) b (tally_of (read_table b)) (made c k after) range (kept_self b s) (record { number = h.number; table = h.table }));
    }
beside b (ticked c k freed after) s range h = tick-beside b c k freed after s range h
beside b (served c lent k n after left) s range h = serve-beside b c lent k n after left s range h

-- so an entry grows older by one call as the model's does
own-step : (b : List ℕ) (e : Event) (j stamp : ℕ) → SoundBytes b → Beside b e → Stamped j stamp b → Stamped j stamp (table_of e)
    → age_in (table_of e) stamp ≡ age_in b stamp + step_in (cycle_for (length b)) (read_table b).clock.place e
own-step b e j stamp s x here there =
    let still : Stamped j stamp (table_of x.other) =
    record { entry = there.entry; here = ap (λ (t : Table). slot_of t j) (sym x.read) ∙ there.here; stamped = there.stamped } in
    ap (λ (t : Table). age_at t.clock.running stamp) x.read
    ∙ age-step (size_of (read_table b).layout (length (read_table b).slots)) b (tally_of (read_table b)) x.other j stamp x.range (kept_self b s) x.happens here still
    ∙ ap (λ (d : ℕ). age_in b stamp + d) (x.steps (cycle_for (length b)) (read_table b).clock.place)

keeps-always-grows : Grows keeps_always
keeps-always-grows b [] j stamp s ranges h here all = omega arith
keeps-always-grows b (e ∷ es) j stamp s ranges h here all =
    let x = beside b e s ranges.0 h.0 in
    keeps-always-grows (table_of e) es j stamp x.sound ranges.1 h.1 all.0 all.1
    ∙ ap (λ (a : ℕ). a + steps_along (table_of e) es) (own-step b e j stamp s x here all.0)
    ∙ add_assoc (age_in b stamp) (step_in (cycle_for (length b)) (read_table b).clock.place e) (steps_along (table_of e) es)

pub own-places : OwnPlaces
own-places = (keeps-always-grows, since-stamped keeps_always keeps-always-grows)
