-- What one call of the model leaves in a slot was there before it with that stamp, or it is a datagram that stamped it. Assumes nothing.
use Prim.Native.Nat.{ℕ, zero, suc, ◌+◌, ◌*◌, ◌≤◌}
use native.Mathlib.Omega.{arith}
use mathlib.Core.Path.{◌≡◌, refl, sym, ap, ◌∙◌, subst}
use mathlib.Core.Bool.{Bool, true, false}
use mathlib.Core.List.{List}
use mathlib.Core.Logic.{◌⊎◌, inl, inr}
use lib.Dec.{leb}
use borrow.Author.Tests.{leb-true, leb-false}
use Rattle.model.specs.Clock.{Clock, advance, age_at}
use Rattle.model.specs.Query.{Question, LlqOption, question, llq_option}
use Rattle.model.specs.Table.{Entry, Slot, free, held, Table, cycle_in, read_table}
use Rattle.model.specs.Lists.{count, any}
use Rattle.model.specs.Serve.{Sender, slot_of}
use Rattle.model.specs.Calls.{MakeCall, TickCall, ServeCall, serve}
use Rattle.model.specs.Meets.{model}
use Rattle.model.proofs.HoldingLaws.{not-held, held-inj}
use Rattle.claims.specs.Tally.{Tally, making}
use Rattle.claims.specs.Events.{Event, made, ticked, served, call_of, table_of, Happens, MakeInRange, TickInRange, ServeInRange, InRange}
use Rattle.claims.specs.Changes.{Moved, Change, Datagram, done_options}
use Rattle.claims.specs.LiveAge.{SameStamp, AnsweredDatagram}
use Rattle.claims.proofs.Changes.EntryAfter.{EntryAfter, stays, confirmed, renewed, ended, entry-after, free-after, clock-at}
use Rattle.claims.proofs.Changes.{datagram-done, read_left}
use Rattle.claims.proofs.Refusals.{refusals}
use Rattle.claims.proofs.Tick.{ticking as ticking-claim}
use Rattle.claims.proofs.Demand3.CallSteps.{Invariant, kept-stored, after_is, kept_step, number_step}
use Rattle.claims.proofs.LiveAge.AgeSteps.{some-held}

-- THE SAME ENTRY, as it is and along two tables
module _ (j : ℕ) where
  abbrev pub same_self : (e : Entry) (t : Table) → slot_of t j ≡ held e → SameStamp j e t
  same_self e t h =
      record { entry = e; here = h; number = refl; address = refl; port = refl; name = refl; qtype = refl; qclass = refl; stamp = refl }

  pub same-through : (e : Entry) (u t : Table) (k : SameStamp j e u) → SameStamp j k.entry t → SameStamp j e t
  same-through e u t k m =
      record {
        entry = m.entry;
        here = m.here;
        number = m.number ∙ k.number;
        address = m.address ∙ k.address;
        port = m.port ∙ k.port;
        name = m.name ∙ k.name;
        qtype = m.qtype ∙ k.qtype;
        qclass = m.qclass ∙ k.qclass;
        stamp = m.stamp ∙ k.stamp;
      }

-- ONE OPTION
option-step : (s : Sender) (q : Question) (o : LlqOption) (t u : Table) → Change s q o t u → (j : ℕ) (x : Entry) → slot_of u j ≡ held x
    → SameStamp j x t ⊎ (x.stamp ≡ t.clock.running)
option-step s q o t u c j x w = go (slot_of t j) refl
  where
    on : (e : Entry) → slot_of t j ≡ held e → EntryAfter s q o t u j e → SameStamp j x t ⊎ (x.stamp ≡ t.clock.running)
    on e h (stays z) = inl (subst (λ (y : Entry). SameStamp j y t) (held-inj e x (sym z ∙ w)) (same_self j e t h))
    on e h (confirmed p right z) =
        inl (subst (λ (y : Entry). SameStamp j y t) (held-inj _ x (sym z ∙ w))
        (record { entry = e; here = h; number = refl; address = refl; port = refl; name = refl; qtype = refl; qclass = refl; stamp = refl }))
    on e h (renewed right n z) = inr (ap (λ (y : Entry). y.stamp) (sym (held-inj _ x (sym z ∙ w))))
    on e h (ended right n z) = not-held x (sym z ∙ w)

    go : (z : Slot) → slot_of t j ≡ z → SameStamp j x t ⊎ (x.stamp ≡ t.clock.running)
    go free h = inr (free-after s q o t u c j x h w).stamp
    go (held e) h = on e h (entry-after s q o t u c j e h)

-- THE CLOCK MOVED: what is held was held
moved-step : (place : ℕ) (t u : Table) → Moved place t u → (j : ℕ) (x : Entry) → slot_of u j ≡ held x → slot_of t j ≡ held x
moved-step place t u m j x w = go (slot_of t j) refl
  where
    run : ℕ
    run = u.clock.running

    on : (e : Entry) → slot_of t j ≡ held e → (v : Bool) → leb e.lease (age_at run e.stamp) ≡ v → slot_of t j ≡ held x
    on e h true b = not-held x (sym (m.freed j e h (leb-true e.lease (age_at run e.stamp) b)) ∙ w)
    on e h false b =
        h ∙ sym (m.kept j e h (λ r. omega (arith, leb-false e.lease (age_at run e.stamp) b))) ∙ w

    go : (z : Slot) → slot_of t j ≡ z → slot_of t j ≡ held x
    go free h = not-held x (sym (m.was_free j h) ∙ w)
    go (held e) h = on e h (leb e.lease (age_at run e.stamp)) refl

-- ALL OPTIONS of an answered datagram, one after the other
module _ (c : ServeCall) (before after : List ℕ) (d : Datagram c before after) where
  -- the count as the reading moved it
  abbrev running : ℕ
  running = (advance (cycle_in (read_table before)) (read_table before).clock (c.week * 604800 + c.second)).running

  running-at : (m : ℕ) → m ≤ done_options c → (d.tables m).clock.running ≡ running
  running-at m h = ap (λ (k : Clock). k.running) (clock-at c before after d m h)

  options-step : (m : ℕ) → m ≤ done_options c → (j : ℕ) (x : Entry) → slot_of (d.tables m) j ≡ held x → SameStamp j x (read_table before) ⊎ (x.stamp ≡ running)
  options-step zero h j x w = inl (same_self j x (read_table before) (moved-step _ (read_table before) (d.tables 0) d.moved j x w))
  options-step (suc m) h j x w =
      go (options-step m (omega arith) j)
      (option-step c.sender (question c.datagram m) (llq_option c.datagram m) (d.tables m) (d.tables (suc m)) (d.options m (omega arith)).change j x w)
    where
      back : (k : SameStamp j x (d.tables m)) → SameStamp j k.entry (read_table before) ⊎ (k.entry.stamp ≡ running)
          → SameStamp j x (read_table before) ⊎ (x.stamp ≡ running)
      back k (inl e) = inl (same-through j x (d.tables m) (read_table before) k e)
      back k (inr e) = inr (sym k.stamp ∙ e)

      go : ((z : Entry) → slot_of (d.tables m) j ≡ held z → SameStamp j z (read_table before) ⊎ (z.stamp ≡ running))
          → SameStamp j x (d.tables m) ⊎ (x.stamp ≡ (d.tables m).clock.running) → SameStamp j x (read_table before) ⊎ (x.stamp ≡ running)
      go earlier (inl k) = back k (earlier k.entry k.here)
      go earlier (inr e) = inr (e ∙ running-at m (omega arith))

  datagram-step : (j : ℕ) (x : Entry) → slot_of (d.tables (done_options c)) j ≡ held x
      → SameStamp j x (read_table before) ⊎ (x.stamp ≡ (d.tables (done_options c)).clock.running)
  datagram-step j x w = go (options-step (done_options c) (omega arith) j x w)
    where
      go : SameStamp j x (read_table before) ⊎ (x.stamp ≡ running) → SameStamp j x (read_table before) ⊎ (x.stamp ≡ (d.tables (done_options c)).clock.running)
      go (inl k) = inl k
      go (inr e) = inr (e ∙ sym (running-at (done_options c) (omega arith)))

-- ONE CALL: what is in slot j after it was there with this stamp, or the call is a datagram that stamped it with the count that it left
abbrev StampStep : List ℕ → Event → ℕ → Entry → Type 0
StampStep b e j x = SameStamp j x (read_table b) ⊎ (AnsweredDatagram e × (x.stamp ≡ (read_table (table_of e)).clock.running))

module _ (size : ℕ) (b : List ℕ) (y : Tally) (v : Invariant size b y) (j : ℕ) (x : Entry) where
  -- the table is as it was
  unchanged : (after : List ℕ) → after ≡ b → slot_of (read_table after) j ≡ held x → SameStamp j x (read_table b)
  unchanged after p w = same_self j x (read_table b) (ap (λ (l : List ℕ). slot_of (read_table l) j) (sym p) ∙ w)

  -- an answered making leaves no entry
  made-step : (c : MakeCall) (k : ℕ) (after : List ℕ) → MakeInRange c → Happens model b (made c k after) → slot_of (read_table after) j ≡ held x
      → StampStep b (made c k after) j x
  made-step c zero after range h w =
      let i = kept_step size b y (made c 0 after) range v h in
      let some = some-held i j x.stamp (record { entry = x; here = w; stamped = refl }) in
      let e = after_is size y (making c) 0 (sym (number_step size b y (made c 0 after) v h)) in
      let none = subst (λ (z : Tally). 1 ≤ count z.holdings any) e some in
      absurd (omega (arith, none))
  made-step c (suc k) after range h w =
      inl (unchanged after (h.table ∙ refusals.make_refused c b (λ z. omega (arith, h.number, z))) w)

  ticked-step : (c : TickCall) (k freed : ℕ) (after : List ℕ) → TickInRange c → Happens model b (ticked c k freed after) → slot_of (read_table after) j ≡ held x
      → StampStep b (ticked c k freed after) j x
  ticked-step c zero freed after range h w =
      let d = ticking-claim c b range (kept-stored v) (sym h.number) in
      inl (same_self j x (read_table b)
      (moved-step _ (read_table b) (read_table (model.tick c b).table) d.moved j x (ap (λ (l : List ℕ). slot_of (read_table l) j) (sym h.table) ∙ w)))
  ticked-step c (suc k) freed after range h w =
      inl (unchanged after (h.table ∙ (refusals.tick_refused c b (λ z. omega (arith, h.number, z))).0) w)

  served-step : (c : ServeCall) (lent : List ℕ) (k n : ℕ) (after left : List ℕ) → ServeInRange c → Happens model b (served c lent k n after left)
      → slot_of (read_table after) j ≡ held x → StampStep b (served c lent k n after left) j x
  served-step c lent zero n after left range h w = go (datagram-step c b (model.serve c b lent).table d j x (ap (λ (t : Table). slot_of t j) (sym read) ∙ w))
    where
      e : (serve c b lent).number ≡ 0
      e = sym h.1.number

      d : Datagram c b (serve c b lent).table
      d = datagram-done c b lent range (kept-stored v) e

      read : read_table after ≡ d.tables (done_options c)
      read = ap read_table h.1.table ∙ read_left c b lent range (kept-stored v) e

      go : SameStamp j x (read_table b) ⊎ (x.stamp ≡ (d.tables (done_options c)).clock.running) → StampStep b (served c lent 0 n after left) j x
      go (inl k) = inl k
      go (inr z) = inr (refl, z ∙ ap (λ (t : Table). t.clock.running) (sym read))
  served-step c lent (suc k) n after left range h w =
      inl (unchanged after (h.1.table ∙ (refusals.serve_refused c b lent (λ z. omega (arith, h.1.number, z))).0) w)

  pub call_step : (e : Event) → InRange (call_of e) → Happens model b e → slot_of (read_table (table_of e)) j ≡ held x → StampStep b e j x
  call_step (made c k after) range h w = made-step c k after range h w
  call_step (ticked c k freed after) range h w = ticked-step c k freed after range h w
  call_step (served c lent k n after left) range h w = served-step c lent k n after left range h w
