-- A live entry grows older by the steps forward, of the model's server. Assumes nothing.
use Prim.Native.Nat.{ℕ, zero, suc, ◌+◌, ◌*◌, ◌/◌, ◌%◌, ◌^◌, ◌≤◌, ◌<◌}
use native.Mathlib.Nat.{add_assoc}
use native.Mathlib.Omega.{arith}
use mathlib.Core.Path.{◌≡◌, refl, sym, ap, ◌∙◌, subst}
use mathlib.Core.Bool.{cond}
use mathlib.Core.List.{List, [], ◌∷◌}
use lib.ListN.{length}
use lib.Dec.{eqb, ltb, eqb-suc-zero}
use borrow.Author.Tests.{ltb-true}
use Rattle.model.specs.Lists.{count, any}
use Rattle.model.specs.Clock.{cycle_of, age_at}
use Rattle.model.specs.Query.{qdcount, matched}
use Rattle.model.specs.Table.{Entry, held, Layout, Table, cycle_in, table_bytes, read_table, size_of}
use Rattle.model.specs.Rules.{holdings}
use Rattle.model.specs.Sound.{live, Sound, FitsEntry, FitsSlot, SoundBytes}
use Rattle.model.specs.Serve.{slot_of}
use Rattle.model.specs.Calls.{MakeCall, TickCall, ServeCall}
use Rattle.model.specs.Meets.{Server, model}
use Rattle.model.proofs.ListLaws.{either, every-none}
use Rattle.model.proofs.ClockLaws.{cycle-of, ages, fresh-age}
use Rattle.model.proofs.StepLaws.{fits-slot-of, young}
use Rattle.model.proofs.Meaning.{layout-read, read-stored}
use Rattle.model.proofs.HoldingLaws.{count_held, held-obeys}
use Rattle.claims.specs.Lengths.{cycle_for}
use Rattle.claims.specs.Tally.{Tally, making, ticking, serving, passed, judged, move_tally, tally_after}
use Rattle.claims.specs.Events.{Event, made, ticked, served, call_of, number_of, table_of, Happens, Trace, InRange, AllInRange}
use Rattle.claims.specs.Changes.{age_of}
use Rattle.claims.specs.LiveAge.{step_in, steps_along, left_by, Stamped, StampedAlong, age_in, Grows, SinceStamp}
use Rattle.claims.specs.AnySound.{tally_of}
use Rattle.claims.proofs.LengthLaws.{cycle-for}
use Rattle.claims.proofs.CycleLaws.{passed-most}
use Rattle.claims.proofs.Demand3.TallyLaws.{before-running}
use Rattle.claims.proofs.Relation.TableTally.{related-read}
use Rattle.claims.proofs.Demand3.CallSteps.{Invariant, kept-stored, kept_back, next, after_is, kept_step, number_step}

-- an entry of a sound table may grow older by a step in one sum
not-wrapping : (t : Table) → Sound t → (j : ℕ) (e : Entry) → slot_of t j ≡ held e → (d : ℕ) → d + 7200 ≤ 2 ^ 32
    → age_at t.clock.running e.stamp + d < 2 ^ 32
not-wrapping t s j e h d l =
    ltb-true (age_at t.clock.running e.stamp + d) (2 ^ 32)
    (held-obeys t.clock.running t.slots j e (λ h. ltb (h.age + d) (2 ^ 32)) h
    (every-none (λ h. ltb (h.age + d) (2 ^ 32)) (holdings t) (young t d l s)))

-- THE BYTES AND THE TALLY

module _ {size : ℕ} {b : List ℕ} {y : Tally} (x : Invariant size b y) where
  pub read-place : (read_table b).clock.place ≡ y.place
  read-place = ap (λ (t : Table). t.clock.place) (kept_back x) ∙ x.related.place

  read-running : (read_table b).clock.running ≡ y.running
  read-running = ap (λ (t : Table). t.clock.running) (kept_back x) ∙ x.related.running

  -- the cycle that the bytes' length gives
  pub read-cycle : cycle_for (length b) ≡ y.cycle
  read-cycle =
      sym (cycle-for (length b)) ∙ ap (λ (l : Layout). cycle_of l.weeks) (sym (layout-read b)) ∙ ap cycle_in (kept_back x) ∙ x.related.cycle

  -- leaves room for the longest lease
  cycle-room : y.cycle / 2 + 7200 ≤ 2 ^ 32
  cycle-room = omega (arith, x.related.cycle, (cycle-of x.table.layout.weeks).room)

  running-less : y.running < 2 ^ 32
  running-less = omega (arith, x.related.running, x.related.fits.running)

  module _ (j stamp : ℕ) (h : Stamped j stamp b) where
    held-here : slot_of x.table j ≡ held h.entry
    held-here = ap (λ (t : Table). slot_of t j) (sym (kept_back x)) ∙ h.here

    stamp-less : stamp < 2 ^ 32
    stamp-less =
        let f : FitsEntry h.entry = subst FitsSlot held-here (fits-slot-of x.table j x.related.fits) in
        omega (arith, f.stamp, h.stamped)

    stamp-grows : (d : ℕ) → d + 7200 ≤ 2 ^ 32 → age_at y.running stamp + d < 2 ^ 32
    stamp-grows d l =
        subst (λ (r : ℕ). age_at r stamp + d < 2 ^ 32) x.related.running
        (subst (λ (z : ℕ). age_at x.table.clock.running z + d < 2 ^ 32) h.stamped
        (not-wrapping x.table x.related.sound j h.entry held-here d l))

    pub some-held : 1 ≤ count y.holdings any
    some-held =
        omega (arith, x.related.entries any, count_held x.table.clock.running x.table.slots j h.entry any held-here refl)

-- ONE CALL

-- the tally's running count after a tick or a datagram of number k
tick-running : (size : ℕ) (y : Tally) (c : TickCall) (k : ℕ) → y.running < 2 ^ 32
    → (next k size y (ticking c)).running ≡ (y.running + cond (eqb k 0) (passed y.cycle y.place (c.week * 604800 + c.second)) 0) % 4294967296
unfolding move_tally
tick-running size y c zero h = refl
tick-running size y c (suc k) h = rw (eqb-suc-zero k) (omega arith)

serve-running : (size : ℕ) (y : Tally) (c : ServeCall) (k : ℕ) → y.running < 2 ^ 32
    → (next k size y (serving c)).running ≡ (y.running + cond (eqb k 0) (passed y.cycle y.place (c.week * 604800 + c.second)) 0) % 4294967296
serve-running size y c zero h = before-running c y (cond (matched c.datagram) (qdcount c.datagram) 0)
serve-running size y c (suc k) h = rw (eqb-suc-zero k) (omega arith)

step-most : (k cycle from to : ℕ) → cond (eqb k 0) (passed cycle from to) 0 ≤ cycle / 2
step-most k cycle from to = either (λ (d : ℕ). d ≤ cycle / 2) (eqb k 0) (passed-most cycle from to) (omega arith)

-- an answered making leaves no entry
made-stays : (size : ℕ) (y : Tally) (c : MakeCall) (k : ℕ) → 1 ≤ count (next k size y (making c)).holdings any → (next k size y (making c)).running ≡ y.running
made-stays size y c zero h = absurd (omega arith)
made-stays size y c (suc k) h = rw (eqb-suc-zero k)

-- the count that a call leaves
running-step : (size : ℕ) (y : Tally) (e : Event) → y.running < 2 ^ 32 → number_of e ≡ judged size (call_of e)
    → 1 ≤ count (tally_after size y (call_of e)).holdings any
    → (tally_after size y (call_of e)).running ≡ (y.running + step_in y.cycle y.place e) % 4294967296
running-step size y (made c k after) h n some =
    let e = after_is size y (making c) k (sym n) in
    ap (λ (z : Tally). z.running) e ∙ made-stays size y c k (subst (λ (z : Tally). 1 ≤ count z.holdings any) e some) ∙ omega arith
running-step size y (ticked c k freed after) h n some =
    ap (λ (z : Tally). z.running) (after_is size y (ticking c) k (sym n)) ∙ tick-running size y c k h
running-step size y (served c lent k m after left) h n some =
    ap (λ (z : Tally). z.running) (after_is size y (serving c) k (sym n)) ∙ serve-running size y c k h

step_in-most : (cycle place : ℕ) (e : Event) → step_in cycle place e ≤ cycle / 2
step_in-most cycle place (made c k after) = omega arith
step_in-most cycle place (ticked c k freed after) = step-most k cycle place (c.week * 604800 + c.second)
step_in-most cycle place (served c lent k m after left) = step-most k cycle place (c.week * 604800 + c.second)

pub age-step : (size : ℕ) (b : List ℕ) (y : Tally) (e : Event) (j stamp : ℕ) → InRange (call_of e) → Invariant size b y → Happens model b e
    → Stamped j stamp b → Stamped j stamp (table_of e)
    → age_in (table_of e) stamp ≡ age_in b stamp + step_in (cycle_for (length b)) (read_table b).clock.place e
age-step size b y e j stamp range x h here there =
    let w = kept_step size b y e range x h in
    let r = running-step size y e (running-less x) (number_step size b y e x h) (some-held w j stamp there) in
    let d = step_in y.cycle y.place e in
    let grown = ages y.running stamp d (running-less x) (stamp-less x j stamp here) (stamp-grows x j stamp here d (omega (arith, step_in-most y.cycle y.place e, cycle-room x))) in
    ap (λ (z : ℕ). age_at z stamp) (read-running w ∙ r)
    ∙ grown
    ∙ ap (λ (z : ℕ). age_at z stamp + step_in y.cycle y.place e) (sym (read-running x))
    ∙ ap (λ (z : ℕ). age_in b stamp + step_in y.cycle z e) (sym (read-place x))
    ∙ ap (λ (z : ℕ). age_in b stamp + step_in z (read_table b).clock.place e) (sym (read-cycle x))

-- ALONG THE LIST

pub ages-along : (size : ℕ) (b : List ℕ) (y : Tally) (es : List Event) (j stamp : ℕ) → AllInRange es → Invariant size b y → Trace model b es
    → Stamped j stamp b → StampedAlong j stamp es
    → age_in (left_by b es) stamp ≡ age_in b stamp + steps_along b es
ages-along size b y [] j stamp ranges x h here all = omega arith
ages-along size b y (e ∷ es) j stamp ranges x h here all =
    let one = age-step size b y e j stamp ranges.0 x h.0 here all.0 in
    let more = ages-along size (table_of e) (tally_after size y (call_of e)) es j stamp ranges.1 (kept_step size b y e ranges.0 x h.0) h.1 all.0 all.1 in
    more ∙ ap (λ (a : ℕ). a + steps_along (table_of e) es) one ∙ add_assoc (age_in b stamp) (step_in (cycle_for (length b)) (read_table b).clock.place e) (steps_along (table_of e) es)

-- a sound table is kept with itself as the tally
pub kept_self : (b : List ℕ) → SoundBytes b → Invariant (size_of (read_table b).layout (length (read_table b).slots)) b (tally_of (read_table b))
kept_self b s =
    record {
      table = read_table b;
      bytes = ap table_bytes (read-stored b s) ∙ s.bytes;
      related = related-read b s;
      room = refl;
    }

pub grows : Grows model
grows b es j stamp s ranges h here all =
    ages-along (size_of (read_table b).layout (length (read_table b).slots)) b (tally_of (read_table b)) es j stamp ranges (kept_self b s) h here all

-- of a stamp of now, by any server
pub since-stamped : (s : Server) → Grows s → SinceStamp s
since-stamped s g b es j stamp sound ranges h here all e =
    let start : age_in b stamp ≡ 0 = ap (λ (z : ℕ). age_at (read_table b).clock.running z) e ∙ fresh-age (read_table b).clock.running in
    g b es j stamp sound ranges h here all ∙ omega arith

-- STILL LIVE AT THE END

-- an entry of a sound table's bytes is younger than its lease
pub younger : (b : List ℕ) → SoundBytes b → (j : ℕ) (x : Entry) → slot_of (read_table b) j ≡ held x → age_of (read_table b).clock.running x < x.lease
younger b s j x h =
    let t = read_table b in
    let ages = rw (← read-stored b s) at s.sound.ages in
    ltb-true (age_of t.clock.running x) x.lease (held-obeys t.clock.running t.slots j x live h ages)

-- the bytes that a list of calls leaves are a sound table's
pub sound-along : (size : ℕ) (b : List ℕ) (y : Tally) (es : List Event) → AllInRange es → Invariant size b y → Trace model b es → SoundBytes (left_by b es)
sound-along size b y [] ranges x h = kept-stored x
sound-along size b y (e ∷ es) ranges x h =
    sound-along size (table_of e) (tally_after size y (call_of e)) es ranges.1 (kept_step size b y e ranges.0 x h.0) h.1
