-- What a change by one option leaves of each slot and of the clock; so one option of the model is done as stated. Assumes nothing.
use Prim.Native.Nat.{ℕ, zero, suc, ◌+◌, ◌*◌, ◌≤◌, ◌<◌}
use native.Mathlib.Omega.{arith}
use mathlib.Core.Path.{◌≡◌, refl, sym, ap, ◌∙◌, subst}
use mathlib.Core.Bool.{Bool, true, false}
use mathlib.Core.List.{List}
use mathlib.Core.Logic.{◌≢◌, ◌⊎◌, inl, inr}
use lib.ListN.{length}
use lib.Seq.{get_or-set_same, get_or-set_other}
use lib.Dec.{eqb}
use borrow.Author.Tests.{eqb-true, eqb-false}
use Rattle.model.specs.Clock.{advance}
use Rattle.model.specs.Query.{Question, LlqOption, question, llq_option}
use Rattle.model.specs.Table.{Entry, Slot, free, held, Table, cycle_in, read_table}
use Rattle.model.specs.Sound.{Sound}
use Rattle.model.specs.Serve.{Sender, serve_option, with_slot, slot_of, establish}
use Rattle.model.specs.Calls.{ServeCall}
use Rattle.model.proofs.ListLaws.{never}
use Rattle.model.proofs.HoldingLaws.{not-held, held-inj}
use Rattle.claims.specs.Changes.{RightResponse, RightRefresh, Granted, renewed_entry, Change, nothing, grant, confirm, renew, end, OptionDone, Datagram, done_options}
use Rattle.claims.proofs.Changes.OptionChange.{option-change, response-establishes}

-- ONE SLOT of a table where slot k is written
module _ (t : Table) (k : ℕ) (z : Slot) where
  pub slot-written : k < length t.slots → slot_of (with_slot t k z) k ≡ z
  slot-written h = get_or-set_same t.slots k z free h

  pub slot-other : (j : ℕ) → j ≢ k → slot_of (with_slot t k z) j ≡ slot_of t j
  slot-other j h = get_or-set_other t.slots k j z free h

-- AN ENTRY e HELD IN SLOT j BEFORE: it stays, or the option is right for it
pub data EntryAfter (s : Sender) (q : Question) (o : LlqOption) (t u : Table) (j : ℕ) (e : Entry) : Type 0 where
  stays : slot_of u j ≡ held e → EntryAfter s q o t u j e
  confirmed : e.established ≡ false → RightResponse t.clock.running s q o e → slot_of u j ≡ held (establish e) → EntryAfter s q o t u j e
  renewed : RightRefresh s q o e → o.lease ≢ 0 → slot_of u j ≡ held (renewed_entry t o e) → EntryAfter s q o t u j e
  ended : RightRefresh s q o e → o.lease ≡ 0 → slot_of u j ≡ free → EntryAfter s q o t u j e

module _ (s : Sender) (q : Question) (o : LlqOption) (t u : Table) where
  -- slot k, with entry f, is written: another slot stays, and slot k has what the rule says of f
  written_after : (k : ℕ) (f : Entry) (z : Slot) → slot_of t k ≡ held f → u ≡ with_slot t k z → (slot_of u k ≡ z → EntryAfter s q o t u k f)
      → k < length t.slots → (j : ℕ) (e : Entry) → slot_of t j ≡ held e → EntryAfter s q o t u j e
  written_after k f z hk hu rule i j e h = go (eqb j k) refl
    where
      go : (v : Bool) → eqb j k ≡ v → EntryAfter s q o t u j e
      go true m =
          let p : j ≡ k = eqb-true j k m in
          let p2 : f ≡ e = held-inj f e (sym hk ∙ ap (slot_of t) (sym p) ∙ h) in
          let d : EntryAfter s q o t u k f = rule (ap (λ (w : Table). slot_of w k) hu ∙ slot-written t k z i) in
          subst (λ (n : ℕ). EntryAfter s q o t u n e) (sym p) (subst (λ (y : Entry). EntryAfter s q o t u k y) p2 d)
      go false m = stays (ap (λ (w : Table). slot_of w j) hu ∙ slot-other t k z j (eqb-false j k m) ∙ h)

  -- the clock stays
  pub clock-after : Change s q o t u → u.clock ≡ t.clock
  clock-after (nothing hu) = ap (λ (w : Table). w.clock) hu
  clock-after (grant k f i hk low g hu) = ap (λ (w : Table). w.clock) hu
  clock-after (confirm k f i hk b right hu) = ap (λ (w : Table). w.clock) hu
  clock-after (renew k f i hk right n hu) = ap (λ (w : Table). w.clock) hu
  clock-after (end k f i hk right n hu) = ap (λ (w : Table). w.clock) hu

  pub entry-after : Change s q o t u → (j : ℕ) (e : Entry) → slot_of t j ≡ held e → EntryAfter s q o t u j e
  entry-after (nothing hu) j e h = stays (ap (λ (w : Table). slot_of w j) hu ∙ h)
  entry-after (grant k f i hk low g hu) j e h =
      stays (ap (λ (w : Table). slot_of w j) hu ∙ slot-other t k (held f) j (λ p. not-held e (sym hk ∙ ap (slot_of t) (sym p) ∙ h)) ∙ h)
  entry-after (confirm k f i hk b right hu) j e h = written_after k f (held (establish f)) hk hu (λ w. confirmed b right w) i j e h
  entry-after (renew k f i hk right n hu) j e h = written_after k f (held (renewed_entry t o f)) hk hu (λ w. renewed right n w) i j e h
  entry-after (end k f i hk right n hu) j e h = written_after k f free hk hu (λ w. ended right n w) i j e h

  -- what a free slot gets is granted
  pub free-after : Change s q o t u → (j : ℕ) (x : Entry) → slot_of t j ≡ free → slot_of u j ≡ held x → Granted s q o t x
  free-after c j x h w = go c
    where
      same-slot : u ≡ t → Granted s q o t x
      same-slot hu = not-held x (sym h ∙ ap (λ (v : Table). slot_of v j) (sym hu) ∙ w)

      other : (k : ℕ) (f : Entry) (z : Slot) → slot_of t k ≡ held f → u ≡ with_slot t k z → Granted s q o t x
      other k f z hk hu =
          not-held x
          (sym h ∙ sym (slot-other t k z j (λ p. not-held f (sym h ∙ ap (slot_of t) p ∙ hk))) ∙ ap (λ (v : Table). slot_of v j) (sym hu) ∙ w)

      new : (k : ℕ) (f : Entry) → k < length t.slots → Granted s q o t f → u ≡ with_slot t k (held f) → (v : Bool) → eqb j k ≡ v → Granted s q o t x
      new k f i g hu true m =
          let p : j ≡ k = eqb-true j k m in
          let p2 : f ≡ x =
          held-inj f x (sym (slot-written t k (held f) i) ∙ ap (λ (v : Table). slot_of v k) (sym hu) ∙ ap (slot_of u) (sym p) ∙ w) in
          subst (Granted s q o t) p2 g
      new k f i g hu false m =
          not-held x (sym h ∙ sym (slot-other t k (held f) j (eqb-false j k m)) ∙ ap (λ (v : Table). slot_of v j) (sym hu) ∙ w)

      go : Change s q o t u → Granted s q o t x
      go (nothing hu) = same-slot hu
      go (grant k f i hk low g hu) = new k f i g hu (eqb j k) refl
      go (confirm k f i hk b right hu) = other k f (held (establish f)) hk hu
      go (renew k f i hk right n hu) = other k f (held (renewed_entry t o f)) hk hu
      go (end k f i hk right n hu) = other k f free hk hu

  -- established just after: the option was a right response to it
  pub confirmed-right : Change s q o t u → (j : ℕ) (e : Entry) → slot_of t j ≡ held e → e.established ≡ false → slot_of u j ≡ held (establish e)
      → RightResponse t.clock.running s q o e
  confirmed-right c j e h b w = go (entry-after c j e h)
    where
      go : EntryAfter s q o t u j e → RightResponse t.clock.running s q o e
      go (stays z) = never (ap (λ (y : Entry). y.established) (held-inj e (establish e) (sym z ∙ w))) b
      go (confirmed p right z) = right
      go (renewed right n z) = never right.established b
      go (ended right n z) = never right.established b

  -- nothing is established that was not held
  pub only-held : Change s q o t u → (j : ℕ) (x : Entry) → slot_of u j ≡ held x → x.established ≡ true
      → (e : Entry) × ((slot_of t j ≡ held e) × ((e.established ≡ true) ⊎ RightResponse t.clock.running s q o e))
  only-held c j x w b = go (slot_of t j) refl
    where
      on : (e : Entry) → EntryAfter s q o t u j e → (e.established ≡ true) ⊎ RightResponse t.clock.running s q o e
      on e (stays z) = inl (ap (λ (y : Entry). y.established) (held-inj e x (sym z ∙ w)) ∙ b)
      on e (confirmed p right z) = inr right
      on e (renewed right n z) = inl right.established
      on e (ended right n z) = inl right.established

      go : (z : Slot) → slot_of t j ≡ z → (e : Entry) × ((slot_of t j ≡ held e) × ((e.established ≡ true) ⊎ RightResponse t.clock.running s q o e))
      go free h = never b (free-after c j x h w).pending
      go (held e) h = (e, (h, on e (entry-after c j e h)))

-- ONE OPTION OF THE MODEL, in a sound table
pub option-done : (s : Sender) (r : ℕ) (q : Question) (o : LlqOption) (t : Table) → Sound t → OptionDone s q o t (serve_option s r q o t).table
option-done s r q o t x =
    let c = option-change s r q o t x in
    let u = (serve_option s r q o t).table in
    record {
      change = c;
      establishes = λ j e h b. (confirmed-right s q o t u c j e h b, response-establishes s r q o t x j e h);
      only_held = only-held s q o t u c;
    }

-- ALL OPTIONS of an answered datagram: the clock stays as its reading moved it
pub clock-at : (c : ServeCall) (before after : List ℕ) (d : Datagram c before after) (m : ℕ) → m ≤ done_options c
    → (d.tables m).clock ≡ advance (cycle_in (read_table before)) (read_table before).clock (c.week * 604800 + c.second)
clock-at c before after d zero h = d.moved.clock
clock-at c before after d (suc m) h =
    clock-after c.sender (question c.datagram m) (llq_option c.datagram m) (d.tables m) (d.tables (suc m)) (d.options m (omega arith)).change
    ∙ clock-at c before after d m (omega arith)
