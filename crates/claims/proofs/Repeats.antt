-- A setup sent again, of the model. Assumes nothing.
use Prim.Native.Nat.{ℕ, ◌+◌, ◌≤◌, ◌<◌}
use native.Mathlib.Omega.{arith}
use mathlib.Core.Path.{◌≡◌, refl, ap, ◌∙◌, subst}
use mathlib.Core.Bool.{Bool, true, false, cond}
use lib.ListN.{length}
use borrow.Author.Tests.{ltb-true}
use Rattle.model.specs.Lists.{bit, count, index_of}
use Rattle.model.specs.Clock.{age_at}
use Rattle.model.specs.Query.{Question, LlqOption}
use Rattle.model.specs.Table.{Entry, Slot, free, held, Table}
use Rattle.model.specs.Rules.{holding, holdings, asks, full}
use Rattle.model.specs.Sound.{live, Sound}
use Rattle.model.specs.Serve.{Sender, Served, serve_option, serve_kind, serve_setup, on_setup, retry_later, life_left, granted, new_entry, with_slot, is_free, find_entry, slot_of}
use Rattle.model.proofs.ListLaws.{bit_le}
use Rattle.model.proofs.HoldingLaws.{held-obeys, count-granted, found_at, found_none, free-slot, free_in, room-left}
use Rattle.model.proofs.ClockLaws.{fresh-age}
use Rattle.model.proofs.Facts.{one-asks}
use Rattle.claims.specs.Changes.{Setup, Own}
use Rattle.claims.specs.Repeats.{Repeated, SetupRepeats, SetupTwice}
use Rattle.claims.proofs.Changes.OptionTests.{setup-kind, own-asks}
use Rattle.claims.proofs.Changes.EntryAfter.{slot-written}

-- a setup's table and outcome, by the slot of the entry that asks the same
abbrev found : Sender → Question → Table → Slot
found s q t = slot_of t (find_entry (asks s.address s.port q) t)

-- one entry at most asks it: that one is found
found-held : (s : Sender) (q : Question) (t : Table) (j : ℕ) (e : Entry) → count (holdings t) (asks s.address s.port q) ≤ 1
    → slot_of t j ≡ held e → Own s q e → found s q t ≡ held e
found-held s q t j e one h own =
    ap (slot_of t) (found_at (asks s.address s.port q) t j e one h (own-asks s q t.clock.running e own)) ∙ h

-- where it is found, its challenge is repeated with the life that remains
repeats : (s : Sender) (r : ℕ) (q : Question) (o : LlqOption) (t : Table) (e : Entry) → Setup o → found s q t ≡ held e
    → Repeated t e.number (life_left e.lease (age_at t.clock.running e.stamp)) (serve_option s r q o t)
unfolding serve_kind serve_setup on_setup
repeats s r q o t e so h =
    let k = setup-kind o so in
    rw (k, h) (record { table = refl; opcode = so.opcode; error = refl; number = refl; lease = refl })

pub setup-repeats : SetupRepeats
setup-repeats s r q o t j e x so h own =
    let left = life_left e.lease (age_at t.clock.running e.stamp) in
    let young = ltb-true (age_at t.clock.running e.stamp) e.lease (held-obeys t.clock.running t.slots j e live h x.ages) in (
      left,
      (
        omega (arith, young),
        repeats s r q o t e so (found-held s q t j e (one-asks t x s.address s.port q (asks s.address s.port q) (λ h p. p)) h own),
      ),
    )

-- what a grant adds is found
granted-found : (s : Sender) (r : ℕ) (q : Question) (o : LlqOption) (t : Table) → Sound t → found s q t ≡ free
    → full (length t.slots) t.roster (count (holdings t)) s.address ≡ false → found s q (granted s r q o t).table ≡ held (new_entry s r q o t)
granted-found s r q o t x h f =
    let j = index_of is_free t.slots in
    let n = new_entry s r q o t in
    let by = asks s.address s.port q in
    let i : j < length t.slots = free_in t.clock.running t.slots (room-left t s.address x f) in
    let c : count (holdings (with_slot t j (held n))) by ≡ count (holdings t) by + bit (by (holding t.clock.running n)) =
    count-granted t.clock.running t.slots j n by i (free-slot t.slots i) in
    found-held s q (with_slot t j (held n)) j n (omega (arith, c, found_none by t h, bit_le (by (holding t.clock.running n))))
    (slot-written t j (held n) i) (record { address = refl; port = refl; name = refl; qtype = refl; qclass = refl })

-- the second setup, by what the first did
twice : (s : Sender) (r r2 : ℕ) (q : Question) (o o2 : LlqOption) (t : Table) → Sound t → Setup o2
    → (serve_setup s r q o t).outcome.error ≡ 0
    → Repeated (serve_setup s r q o t).table (serve_setup s r q o t).outcome.number (serve_setup s r q o t).outcome.lease
    (serve_option s r2 q o2 (serve_setup s r q o t).table)
unfolding serve_setup on_setup
twice s r r2 q o o2 t x so2 h = go (found s q t) refl h
  where
    on : found s q t ≡ free → (v : Bool) → full (length t.slots) t.roster (count (holdings t)) s.address ≡ v
        → (cond {A = Served} v (record { table = t; outcome = retry_later o }) (granted s r q o t)).outcome.error ≡ 0
        → let y = cond {A = Served} v (record { table = t; outcome = retry_later o }) (granted s r q o t) in
        Repeated y.table y.outcome.number y.outcome.lease (serve_option s r2 q o2 y.table)
    on p true f h = absurd (omega arith)
    on p false f h =
        let told : life_left (new_entry s r q o t).lease (age_at t.clock.running t.clock.running) ≡ (new_entry s r q o t).lease =
        omega (arith, fresh-age t.clock.running) in
        subst (λ (left : ℕ). Repeated (granted s r q o t).table (new_entry s r q o t).number left (serve_option s r2 q o2 (granted s r q o t).table)) told
        (repeats s r2 q o2 (granted s r q o t).table (new_entry s r q o t) so2 (granted-found s r q o t x p f))

    go : (z : Slot) → found s q t ≡ z → (on_setup s r q o t z).outcome.error ≡ 0
        → let y = on_setup s r q o t z in
        Repeated y.table y.outcome.number y.outcome.lease (serve_option s r2 q o2 y.table)
    go (held e) p h = repeats s r2 q o2 t e so2 p
    go free p h = on p (full (length t.slots) t.roster (count (holdings t)) s.address) refl h

pub setup-twice : SetupTwice
unfolding serve_kind
setup-twice s r r2 q o o2 t x so so2 = go (serve_option s r q o t) (served so)
  where
    served : Setup o → serve_option s r q o t ≡ serve_setup s r q o t
    served f = let k = setup-kind o f in rw k

    go : (y : Served) → y ≡ serve_setup s r q o t → y.outcome.error ≡ 0
        → Repeated y.table y.outcome.number y.outcome.lease (serve_option s r2 q o2 y.table)
    go y e h = rw e (twice s r r2 q o o2 t x so2 (rw e at h))
