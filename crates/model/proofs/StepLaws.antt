-- What each step of a call keeps: the roster, the number of slots, the clock, and that values fit their fields; and how entries age.
-- Assumes nothing.
use Prim.Native.Nat.{ℕ, zero, suc, ◌+◌, ◌%◌, ◌^◌, ◌≤◌, ◌<◌}
use native.Mathlib.Omega.{arith}
use mathlib.Core.Path.{◌≡◌, refl, ap}
use mathlib.Core.Bool.{Bool, true, false, not, cond}
use mathlib.Core.List.{List, [], ◌∷◌, map}
use mathlib.Core.Logic.{◌⊎◌, inl, inr}
use lib.ListN.{length, get_or, set, length-set}
use lib.Dec.{eqb, leb, ltb, lit≤}
use borrow.Author.Tests.{leb-true, ltb-true, ltb-false, not-true}
use Rattle.model.specs.Lists.{count, keep, every, index_of}
use Rattle.model.specs.Numbers.{Bytes}
use Rattle.model.specs.Clock.{Clock, Weeks, ten_bit, thirteen_bit, cycle_of, advance, age_at}
use Rattle.model.specs.Query.{Question, LlqOption, good_question, question_at}
use Rattle.model.specs.Table.{Entry, Slot, free, held, Table, place_width, place_bytes, cycle_in}
use Rattle.model.specs.Rules.{Holding, holding, entries_of, holdings, asks, full, granted_lease}
use Rattle.model.specs.Sound.{live, valid_lease, FitsEntry, FitsSlot, Fits, Sound}
use Rattle.model.specs.Serve.{with_clock, with_slots, with_slot, slot_run_out, free_if_run_out, free_run_out, moved_on, is_free, find_entry, slot_of, Sender, Kind, bad_version, bad_format, setup, response, refresh, Served, kind_of_option, new_entry, retry_later, granted, establish, renew, answers, refreshes, on_setup, serve_setup, on_response, serve_response, on_refresh, serve_refresh, serve_kind, serve_option}
use Rattle.model.proofs.ListLaws.{and_left, and_right, none-every, count-both, get_or-past, length-map}
use Rattle.model.proofs.ClockLaws.{advance-place, advance-running, ages}
use Rattle.model.proofs.NameLaws.{question-short, question-bytes, question-qtype, question-qclass}
use Rattle.model.proofs.FreshLaws.{fresh-lt}
use Rattle.model.proofs.HoldingLaws.{entries-freed}

-- THE GRANTED LEASE

pub granted-lease : (asked : ℕ) → (60 ≤ granted_lease asked) × (granted_lease asked ≤ 7200)
granted-lease asked = (omega arith, omega arith)

-- VALUES THAT FIT, of the arguments

pub record FitsSender (s : Sender) : Type 0 where
  pub address : s.address < 256 ^ 16
  pub port : s.port < 256 ^ 2

pub record FitsQuestion (q : Question) : Type 0 where
  pub qtype : q.qtype < 256 ^ 2
  pub qclass : q.qclass < 256 ^ 2
  pub size : length q.name ≤ 255
  pub bytes : Bytes q.name

pub fits-question : (d : List ℕ) (at : ℕ) → Bytes d → good_question d at ≡ true → FitsQuestion (question_at d at)
fits-question d at b g =
    record { qtype = question-qtype d at b; qclass = question-qclass d at b; size = question-short d at g; bytes = question-bytes d at b }

-- of entries

pub fits-new : (s : Sender) (r : ℕ) (q : Question) (o : LlqOption) (t : Table) → FitsSender s → FitsQuestion q → Fits t
    → FitsEntry (new_entry s r q o t)
fits-new s r q o t fs fq f =
    record {
      address = fs.address;
      port = fs.port;
      number = fresh-lt (length t.slots + 2) (count (holdings t)) r;
      lease = omega (arith, (granted-lease o.lease).1);
      stamp = f.running;
      qtype = fq.qtype;
      qclass = fq.qclass;
      size = fq.size;
      bytes = fq.bytes;
    }

pub fits-establish : (e : Entry) → FitsEntry e → FitsEntry (establish e)
fits-establish e f =
    record {
      address = f.address;
      port = f.port;
      number = f.number;
      lease = f.lease;
      stamp = f.stamp;
      qtype = f.qtype;
      qclass = f.qclass;
      size = f.size;
      bytes = f.bytes;
    }

pub fits-renew : (running asked : ℕ) (e : Entry) → running < 256 ^ 4 → FitsEntry e → FitsEntry (renew running asked e)
fits-renew running asked e h f =
    record {
      address = f.address;
      port = f.port;
      number = f.number;
      lease = omega (arith, (granted-lease asked).1);
      stamp = h;
      qtype = f.qtype;
      qclass = f.qclass;
      size = f.size;
      bytes = f.bytes;
    }

-- CHANGES OF THE TABLE

set-fits : (s : List Slot) (i : ℕ) (x : Slot) → FitsSlot x → ((j : ℕ) → j < length s → FitsSlot (get_or s j free)) → (j : ℕ) → j < length s
    → FitsSlot (get_or (set s i x) j free)
set-fits [] i x f h j l = absurd (omega arith)
set-fits (y ∷ s) zero x f h zero l = f
set-fits (y ∷ s) zero x f h (suc j) l = h (suc j) l
set-fits (y ∷ s) (suc i) x f h zero l = h 0 l
set-fits (y ∷ s) (suc i) x f h (suc j) l = set-fits s i x f (λ k m. h (suc k) (omega arith)) j (omega arith)

map-fits : (g : Slot → Slot) → ((x : Slot) → FitsSlot x → FitsSlot (g x)) → (s : List Slot) → ((j : ℕ) → j < length s → FitsSlot (get_or s j free))
    → (j : ℕ) → j < length s → FitsSlot (get_or (map g s) j free)
map-fits g ok [] h j l = absurd (omega arith)
map-fits g ok (y ∷ s) h zero l = ok y (h 0 l)
map-fits g ok (y ∷ s) h (suc j) l = map-fits g ok s (λ k m. h (suc k) (omega arith)) j (omega arith)

pub freed-fits : (r : ℕ) (x : Slot) → FitsSlot x → FitsSlot (free_if_run_out r x)
freed-fits r x f = go (slot_run_out r x)
  where
    go : (v : Bool) → FitsSlot (cond v free x)
    go true = tt
    go false = f

pub fits-with-slots : (t : Table) (s : List Slot) → Fits t → ((j : ℕ) → j < length s → FitsSlot (get_or s j free)) → Fits (with_slots t s)
fits-with-slots t s f g = record { place = f.place; running = f.running; lines = f.lines; slots = g }

pub fits-with-slot : (t : Table) (i : ℕ) (x : Slot) → Fits t → FitsSlot x → Fits (with_slot t i x)
fits-with-slot t i x f g =
    fits-with-slots t (set t.slots i x) f (λ j l. set-fits t.slots i x g f.slots j (rw (length-set t.slots i x) at l))

pub fits-with-clock : (t : Table) (c : Clock) → Fits t → c.place < 256 ^ place_bytes t.layout → c.running < 256 ^ 4 → Fits (with_clock t c)
fits-with-clock t c f p r = record { place = p; running = r; lines = f.lines; slots = f.slots }

pub fits-free : (t : Table) → Fits t → Fits (free_run_out t)
fits-free t f =
    let g = free_if_run_out t.clock.running in
    fits-with-slots t (map g t.slots) f
    (λ j l. map-fits g (freed-fits t.clock.running) t.slots f.slots j (rw (length-map g t.slots) at l))

pub fits-slot-of : (t : Table) (i : ℕ) → Fits t → FitsSlot (slot_of t i)
fits-slot-of t i f = go (ltb i (length t.slots)) refl
  where
    go : (v : Bool) → ltb i (length t.slots) ≡ v → FitsSlot (slot_of t i)
    go true h = f.slots i (ltb-true i (length t.slots) h)
    go false h = rw (get_or-past t.slots i free (ltb-false i (length t.slots) h)) tt

-- THE CLOCK MOVED AND RUN-OUT ENTRIES FREED

-- a place under the cycle fits its field
pub cycle-fits : (w : Weeks) → cycle_of w ≤ 256 ^ place_width w
cycle-fits ten_bit = lit≤ tt
cycle-fits thirteen_bit = lit≤ tt

module _ (t : Table) (to : ℕ) where
  pub moved-layout : (moved_on t to).layout ≡ t.layout
  unfolding moved_on
  moved-layout = refl

  pub moved-clock : (moved_on t to).clock ≡ advance (cycle_in t) t.clock to
  unfolding moved_on
  moved-clock = refl

  pub moved-roster : (moved_on t to).roster ≡ t.roster
  unfolding moved_on
  moved-roster = refl

  pub moved_length : length (moved_on t to).slots ≡ length t.slots
  unfolding moved_on
  moved_length = length-map (free_if_run_out (advance (cycle_in t) t.clock to).running) t.slots

  pub moved-fits : Fits t → t.clock.place < cycle_in t → to < cycle_in t → Fits (moved_on t to)
  unfolding moved_on
  moved-fits f h l =
      fits-free (with_clock t (advance (cycle_in t) t.clock to))
      (fits-with-clock t (advance (cycle_in t) t.clock to) f (omega (arith, advance-place (cycle_in t) t.clock to h l, cycle-fits t.layout.weeks))
      (advance-running (cycle_in t) t.clock to f.running))

  -- the entries that have not run out, at the moved count
  pub moved-holdings : holdings (moved_on t to) ≡ keep live (entries_of (advance (cycle_in t) t.clock to).running t.slots)
  unfolding moved_on
  moved-holdings = entries-freed (advance (cycle_in t) t.clock to).running t.slots

-- ONE OPTION

-- what it keeps
pub record Keeps (t u : Table) : Type 0 where
  pub layout : u.layout ≡ t.layout
  pub clock : u.clock ≡ t.clock
  pub roster : u.roster ≡ t.roster
  pub length : length u.slots ≡ length t.slots
  pub fits : Fits u

keeps-all : (t : Table) → Fits t → Keeps t t
keeps-all t f = record { layout = refl; clock = refl; roster = refl; length = refl; fits = f }

keeps-slot : (t : Table) (i : ℕ) (x : Slot) → Fits t → FitsSlot x → Keeps t (with_slot t i x)
keeps-slot t i x f g = record { layout = refl; clock = refl; roster = refl; length = length-set t.slots i x; fits = fits-with-slot t i x f g }

module _ (s : Sender) (r : ℕ) (q : Question) (o : LlqOption) (t : Table) (fs : FitsSender s) (fq : FitsQuestion q) (f : Fits t) where
  on-setup : (x : Slot) → Keeps t (on_setup s r q o t x).table
  unfolding on_setup
  on-setup (held e) = keeps-all t f
  on-setup free = go (full (length t.slots) t.roster (count (holdings t)) s.address)
    where
      go : (v : Bool) → Keeps t (cond v (record { table = t; outcome = retry_later o }) (granted s r q o t)).table
      go true = keeps-all t f
      go false = keeps-slot t (index_of is_free t.slots) (held (new_entry s r q o t)) f (fits-new s r q o t fs fq f)

  on-response : (i : ℕ) (x : Slot) → FitsSlot x → Keeps t (on_response o t i x).table
  unfolding on_response
  on-response i free g = keeps-all t f
  on-response i (held e) g = keeps-slot t i (held (establish e)) f (fits-establish e g)

  on-refresh : (i : ℕ) (x : Slot) → FitsSlot x → Keeps t (on_refresh o t i x).table
  unfolding on_refresh
  on-refresh i free g = keeps-all t f
  on-refresh i (held e) g = go (eqb o.lease 0)
    where
      go : (v : Bool)
          → Keeps t
          (cond {A = Served} v
          (record { table = with_slot t i free; outcome = record { opcode = o.opcode; error = 0; number = e.number; lease = 0 } })
          (record {
            table = with_slot t i (held (renew t.clock.running o.lease e));
            outcome = record { opcode = o.opcode; error = 0; number = e.number; lease = granted_lease o.lease };
          })
          ).table
      go true = keeps-slot t i free f tt
      go false = keeps-slot t i (held (renew t.clock.running o.lease e)) f (fits-renew t.clock.running o.lease e f.running g)

  on-kind : (k : Kind) → Keeps t (serve_kind k s r q o t).table
  unfolding serve_kind serve_setup serve_response serve_refresh
  on-kind bad_version = keeps-all t f
  on-kind bad_format = keeps-all t f
  on-kind setup = on-setup (slot_of t (find_entry (asks s.address s.port q) t))
  on-kind response =
      on-response (find_entry (answers s q o) t) (slot_of t (find_entry (answers s q o) t)) (fits-slot-of t (find_entry (answers s q o) t) f)
  on-kind refresh =
      on-refresh (find_entry (refreshes s q o) t) (slot_of t (find_entry (refreshes s q o) t)) (fits-slot-of t (find_entry (refreshes s q o) t) f)

  pub option-keeps : Keeps t (serve_option s r q o t).table
  option-keeps = on-kind (kind_of_option o)

-- AGES as the clock goes on

-- d seconds older
abbrev pub older : ℕ → Holding → Holding
older d h =
    record {
      established = h.established;
      address = h.address;
      port = h.port;
      number = h.number;
      lease = h.lease;
      age = h.age + d;
      qtype = h.qtype;
      qclass = h.qclass;
      name = h.name;
    }

holding-older : (r d : ℕ) (e : Entry) → r < 2 ^ 32 → e.stamp < 2 ^ 32 → age_at r e.stamp + d < 2 ^ 32
    → holding ((r + d) % 2 ^ 32) e ≡ older d (holding r e)
holding-older r d e hr hs h =
    ap
    (λ (a : ℕ).
    record {
      established = e.established;
      address = e.address;
      port = e.port;
      number = e.number;
      lease = e.lease;
      age = a;
      qtype = e.qtype;
      qclass = e.qclass;
      name = e.name;
    })
    (ages r e.stamp d hr hs h)

-- the count goes on by d: each entry is d seconds older
pub entries-older : (r d : ℕ) (s : List Slot) → r < 2 ^ 32 → ((i : ℕ) → i < length s → FitsSlot (get_or s i free))
    → every (λ h. ltb (h.age + d) (2 ^ 32)) (entries_of r s) ≡ true → entries_of ((r + d) % 2 ^ 32) s ≡ map (older d) (entries_of r s)
unfolding entries_of every
entries-older r d [] hr f v = refl
entries-older r d (free ∷ s) hr f v = entries-older r d s hr (λ i l. f (suc i) (omega arith)) v
entries-older r d (held e ∷ s) hr f v =
    let test = ltb (age_at r e.stamp + d) (2 ^ 32) in
    let others = every (λ h. ltb (h.age + d) (2 ^ 32)) (entries_of r s) in
    let first : holding ((r + d) % 2 ^ 32) e ≡ older d (holding r e) =
    holding-older r d e hr (f 0 (omega arith)).stamp (ltb-true (age_at r e.stamp + d) (2 ^ 32) (and_left test others v)) in
    let rest : entries_of ((r + d) % 2 ^ 32) s ≡ map (older d) (entries_of r s) =
    entries-older r d s hr (λ i l. f (suc i) (omega arith)) (and_right test others v) in
    cc

-- no age of a sound table passes the count's range in one step
pub young : (t : Table) (n : ℕ) → n + 7200 ≤ 2 ^ 32 → Sound t → every (λ h. ltb (h.age + n) (2 ^ 32)) (holdings t) ≡ true
young t n l s =
    none-every (λ h. ltb (h.age + n) (2 ^ 32)) (holdings t)
    (let m = count-both (holdings t) (λ h. not (live h)) (λ h. not (valid_lease h)) (λ h. not (ltb (h.age + n) (2 ^ 32))) (λ h p. old h p) in
    omega (arith, s.ages, s.leases))
  where
    old : (h : Holding) → not (ltb (h.age + n) (2 ^ 32)) ≡ true → (not (live h) ≡ true) ⊎ (not (valid_lease h) ≡ true)
    old h p = go (live h) (valid_lease h) refl refl
      where
        go : (a b : Bool) → live h ≡ a → valid_lease h ≡ b → (not a ≡ true) ⊎ (not b ≡ true)
        go false b e g = inl refl
        go true false e g = inr refl
        go true true e g =
            let u = ltb-true h.age h.lease e in
            let v = leb-true h.lease 7200 (and_right (leb 60 h.lease) (leb h.lease 7200) g) in
            let w = ltb-false (h.age + n) (2 ^ 32) (not-true (ltb (h.age + n) (2 ^ 32)) p) in
            absurd (omega arith)
