-- Claim 2 of the model for a whole datagram: what is not the sender's stays. Assumes nothing.
use Prim.Native.Nat.{ℕ, zero, suc, ◌+◌, ◌*◌, ◌≤◌, ◌<◌}
use native.Mathlib.Omega.{arith}
use mathlib.Core.Path.{◌≡◌, refl, sym, ap, ◌∙◌, subst}
use mathlib.Core.Bool.{Bool, true, false}
use mathlib.Core.List.{List}
use mathlib.Core.Logic.{◌⊎◌, inl, inr}
use lib.ListN.{length, length-set}
use lib.Dec.{eqb, leb}
use borrow.Author.Tests.{eqb-true, eqb-false, leb-true, leb-false}
use Rattle.model.specs.Clock.{Clock, advance, age_at}
use Rattle.model.specs.Query.{Question, LlqOption, question, llq_option}
use Rattle.model.specs.Table.{Entry, Slot, free, held, Table, cycle_in, read_table}
use Rattle.model.specs.Serve.{Sender, slot_of, establish, with_slot}
use Rattle.model.specs.Calls.{ServeCall, serve}
use Rattle.model.specs.Meets.{model}
use Rattle.model.proofs.HoldingLaws.{not-held, held-inj}
use Rattle.claims.specs.Changes.{RunOut, Own, renewed_entry, Change, nothing, grant, confirm, renew, end, Datagram, done_options}
use Rattle.claims.specs.Others.{OfSender, HasRunOut, OnlyOwn, OthersKept, KeepsOthers}
use Rattle.claims.proofs.Changes.EntryAfter.{slot-written, slot-other, clock-at}
use Rattle.claims.proofs.Changes.{datagram-done, read_left}

-- ONE OPTION: roster and size stay, and a slot is as before, or free or the sender's before and after
record Step (s : Sender) (t u : Table) : Type 0 where
  layout : u.layout ≡ t.layout
  roster : u.roster ≡ t.roster
  size : length u.slots ≡ length t.slots
  slots : (j : ℕ) → (slot_of u j ≡ slot_of t j) ⊎ (((slot_of t j ≡ free) ⊎ OfSender s (slot_of t j)) × ((slot_of u j ≡ free) ⊎ OfSender s (slot_of u j)))

-- an entry of the sender
of-sender : (s : Sender) (q : Question) (e : Entry) (z : Slot) → z ≡ held e → Own s q e → OfSender s z
of-sender s q e z h own = record { entry = e; here = h; address = own.address; port = own.port }

-- slot k is written
written_step : (s : Sender) (t u : Table) (k : ℕ) (z : Slot) → k < length t.slots → u ≡ with_slot t k z → ((slot_of t k ≡ free) ⊎ OfSender s (slot_of t k))
    → (z ≡ free) ⊎ OfSender s z → Step s t u
written_step s t u k z i hu was is =
    record {
      layout = ap (λ (w : Table). w.layout) hu;
      roster = ap (λ (w : Table). w.roster) hu;
      size = ap (λ (w : Table). length w.slots) hu ∙ length-set t.slots k z;
      slots = λ j. go j (eqb j k) refl;
    }
  where
    go : (j : ℕ) (v : Bool) → eqb j k ≡ v
        → (slot_of u j ≡ slot_of t j) ⊎ (((slot_of t j ≡ free) ⊎ OfSender s (slot_of t j)) × ((slot_of u j ≡ free) ⊎ OfSender s (slot_of u j)))
    go j true m =
        let p : j ≡ k = eqb-true j k m in
        let w : slot_of u k ≡ z = ap (λ (v : Table). slot_of v k) hu ∙ slot-written t k z i in
        subst (λ (n : ℕ). (slot_of u n ≡ slot_of t n) ⊎ (((slot_of t n ≡ free) ⊎ OfSender s (slot_of t n)) × ((slot_of u n ≡ free) ⊎ OfSender s (slot_of u n)))) (sym p)
        (inr (was, subst (λ (v : Slot). (v ≡ free) ⊎ OfSender s v) (sym w) is))
    go j false m = inl (ap (λ (v : Table). slot_of v j) hu ∙ slot-other t k z j (eqb-false j k m))

change-step : (s : Sender) (q : Question) (o : LlqOption) (t u : Table) → Change s q o t u → Step s t u
change-step s q o t u (nothing hu) =
    record {
      layout = ap (λ (w : Table). w.layout) hu;
      roster = ap (λ (w : Table). w.roster) hu;
      size = ap (λ (w : Table). length w.slots) hu;
      slots = λ j. inl (ap (λ (w : Table). slot_of w j) hu);
    }
change-step s q o t u (grant k e i h low g hu) =
    written_step s t u k (held e) i hu (inl h) (inr (of-sender s q e (held e) refl g.own))
change-step s q o t u (confirm k e i h b r hu) =
    written_step s t u k (held (establish e)) i hu (inr (of-sender s q e (slot_of t k) h r.own))
    (inr (record { entry = establish e; here = refl; address = r.own.address; port = r.own.port }))
change-step s q o t u (renew k e i h r n hu) =
    written_step s t u k (held (renewed_entry t o e)) i hu (inr (of-sender s q e (slot_of t k) h r.own))
    (inr (record { entry = renewed_entry t o e; here = refl; address = r.own.address; port = r.own.port }))
change-step s q o t u (end k e i h r n hu) = written_step s t u k free i hu (inr (of-sender s q e (slot_of t k) h r.own)) (inl refl)

-- ALL OPTIONS of an answered datagram, one after the other
module _ (c : ServeCall) (before after : List ℕ) (d : Datagram c before after) where
  step-at : (m : ℕ) → m < done_options c → Step c.sender (d.tables m) (d.tables (suc m))
  step-at m h =
      change-step c.sender (question c.datagram m) (llq_option c.datagram m) (d.tables m) (d.tables (suc m)) (d.options m h).change

  -- clock, roster, size and layout stay
  same_at : (m : ℕ) → m ≤ done_options c
      → ((d.tables m).clock ≡ advance (cycle_in (read_table before)) (read_table before).clock (c.week * 604800 + c.second))
      × ((d.tables m).roster ≡ (read_table before).roster)
      × (length (d.tables m).slots ≡ length (read_table before).slots)
      × ((d.tables m).layout ≡ (read_table before).layout)
  same_at zero h = (clock-at c before after d 0 h, d.moved.roster, d.moved.size, d.moved.layout)
  same_at (suc m) h =
      let x = step-at m (omega arith) in
      let y = same_at m (omega arith) in
      (clock-at c before after d (suc m) h, x.roster ∙ y.1, x.size ∙ y.2, x.layout ∙ y.3)

  -- one slot, at the count after the clock moved
  slot-moved : (j : ℕ) → OnlyOwn c.sender (d.tables 0).clock.running (slot_of (read_table before) j) (slot_of (d.tables 0) j)
  slot-moved j = go (slot_of (read_table before) j) refl
    where
      run : ℕ
      run = (d.tables 0).clock.running

      on : (e : Entry) → slot_of (read_table before) j ≡ held e → (v : Bool) → leb e.lease (age_at run e.stamp) ≡ v
          → OnlyOwn c.sender run (slot_of (read_table before) j) (slot_of (d.tables 0) j)
      on e h true b =
          let r : RunOut run e = leb-true e.lease (age_at run e.stamp) b in
          inr (inr (inl (record { entry = e; here = h; run_out = r })), inl (d.moved.freed j e h r))
      on e h false b =
          inl (d.moved.kept j e h (λ r. omega (arith, leb-false e.lease (age_at run e.stamp) b)) ∙ sym h)

      go : (z : Slot) → slot_of (read_table before) j ≡ z → OnlyOwn c.sender run (slot_of (read_table before) j) (slot_of (d.tables 0) j)
      go free h = inl (d.moved.was_free j h ∙ sym h)
      go (held e) h = on e h (leb e.lease (age_at run e.stamp)) refl

  slot-at : (j m : ℕ) → m ≤ done_options c
      → OnlyOwn c.sender (d.tables 0).clock.running (slot_of (read_table before) j) (slot_of (d.tables m) j)
  slot-at j zero h = slot-moved j
  slot-at j (suc m) h = go (slot-at j m (omega arith)) ((step-at m (omega arith)).slots j)
    where
      x : Slot
      x = slot_of (read_table before) j

      y : Slot
      y = slot_of (d.tables m) j

      z : Slot
      z = slot_of (d.tables (suc m)) j

      own : Sender
      own = c.sender

      run : ℕ
      run = (d.tables 0).clock.running

      Open : Slot → Type 0
      Open v = (v ≡ free) ⊎ (HasRunOut run v ⊎ OfSender own v)

      wide : (v : Slot) → (v ≡ free) ⊎ OfSender own v → Open v
      wide v (inl f) = inl f
      wide v (inr f) = inr (inr f)

      go : OnlyOwn own run x y → (z ≡ y) ⊎ (((y ≡ free) ⊎ OfSender own y) × ((z ≡ free) ⊎ OfSender own z)) → OnlyOwn own run x z
      go (inl e) (inl f) = inl (f ∙ e)
      go (inl e) (inr f) = inr (subst Open e (wide y f.0), f.1)
      go (inr e) (inl f) = inr (e.0, subst (λ (v : Slot). (v ≡ free) ⊎ OfSender own v) (sym f) e.1)
      go (inr e) (inr f) = inr (e.0, f.1)

  others-kept : OthersKept c (read_table before) (d.tables (done_options c))
  others-kept =
      record {
        layout = (same_at (done_options c) (omega arith)).3;
        clock = (same_at (done_options c) (omega arith)).0;
        roster = (same_at (done_options c) (omega arith)).1;
        size = (same_at (done_options c) (omega arith)).2;
        slots = λ j. slot-end j;
        others = λ j e h live other. go j e h live other (slot-end j);
      }
    where
      u : Table
      u = d.tables (done_options c)

      t : Table
      t = read_table before

      slot-end : (j : ℕ) → OnlyOwn c.sender u.clock.running (slot_of t j) (slot_of u j)
      slot-end j =
          subst (λ (k : Clock). OnlyOwn c.sender k.running (slot_of t j) (slot_of u j))
          ((same_at 0 (omega arith)).0 ∙ sym (same_at (done_options c) (omega arith)).0) (slot-at j (done_options c) (omega arith))

      go : (j : ℕ) (e : Entry) → slot_of t j ≡ held e → (RunOut u.clock.running e → ⊥)
          → (e.address ≡ c.sender.address → e.port ≡ c.sender.port → ⊥) → OnlyOwn c.sender u.clock.running (slot_of t j) (slot_of u j)
          → slot_of u j ≡ held e
      go j e h live other (inl k) = k ∙ h
      go j e h live other (inr (inl k, after)) = not-held e (sym k ∙ h)
      go j e h live other (inr (inr (inl k), after)) =
          let q : k.entry ≡ e = held-inj k.entry e (sym k.here ∙ h) in
          absurd (live (subst (RunOut u.clock.running) q k.run_out))
      go j e h live other (inr (inr (inr k), after)) =
          let q : k.entry ≡ e = held-inj k.entry e (sym k.here ∙ h) in
          absurd (other (ap (λ (v : Entry). v.address) (sym q) ∙ k.address) (ap (λ (v : Entry). v.port) (sym q) ∙ k.port))

pub keeps-others : KeepsOthers model
keeps-others c b lent range stored room h =
    rw (read_left c b lent range stored h) (others-kept c b (serve c b lent).table (datagram-done c b lent range stored h))
