-- A live entry's age, of the model's server. Assumes nothing.
pub mod AgeSteps
pub mod SlotSteps
use Prim.Native.Nat.{ℕ, ◌+◌, ◌*◌}
use native.Mathlib.Omega.{arith}
use mathlib.Core.Path.{◌≡◌, refl, sym, ap, ◌∙◌, subst}
use mathlib.Core.Bool.{cond}
use mathlib.Core.List.{List, [], ◌∷◌, map}
use mathlib.Core.Logic.{◌⊎◌, inl, inr}
use lib.ListN.{length}
use lib.Dec.{eqb}
use Rattle.model.specs.Clock.{age_at}
use Rattle.model.specs.Table.{Entry, held, read_table}
use Rattle.model.specs.Serve.{slot_of}
use Rattle.model.specs.Calls.{Made, make_refusal, made_by}
use Rattle.model.specs.Meets.{model}
use Rattle.model.proofs.ClockLaws.{fresh-age}
use Rattle.model.proofs.CallLaws.{make-number, make-answered}
use Rattle.claims.specs.Lengths.{cycle_for}
use Rattle.claims.specs.Tally.{Tally, passed, judged, begin_tally, tally_after}
use Rattle.claims.specs.Events.{Event, made, ticked, served, call_of, number_of, table_of, Trace, AllInRange}
use Rattle.claims.specs.LiveAge.{step_in, steps_along, left_by, Stamped, StampedAlong, age_in, added_by, added_along, SameStamp, SameStampAlong, AnsweredDatagram, Since, Summed, LiveAge}
use Rattle.claims.proofs.Demand3.CallSteps.{Invariant, make-kept, kept_step, number_step}
use Rattle.claims.proofs.LiveAge.AgeSteps.{read-place, read-cycle, some-held, ages-along, grows, since-stamped, younger, sound-along}
use Rattle.claims.proofs.LiveAge.SlotSteps.{same_self, same-through, call_step}

-- BY THE CALLS ALONE: a call adds what the places of the table say
added_is : (size : ℕ) (y : Tally) (e : Event) → number_of e ≡ judged size (call_of e) → step_in y.cycle y.place e ≡ added_by size y (call_of e)
added_is size y (made c k after) n = refl
added_is size y (ticked c k freed after) n = ap (λ (z : ℕ). cond (eqb z 0) (passed y.cycle y.place (c.week * 604800 + c.second)) 0) n
added_is size y (served c lent k m after left) n = ap (λ (z : ℕ). cond (eqb z 0) (passed y.cycle y.place (c.week * 604800 + c.second)) 0) n

steps-added : (size : ℕ) (b : List ℕ) (y : Tally) (es : List Event) → AllInRange es → Invariant size b y → Trace model b es
    → steps_along b es ≡ added_along size y (map call_of es)
steps-added size b y [] ranges x h = refl
steps-added size b y (e ∷ es) ranges x h =
    let one : step_in (cycle_for (length b)) (read_table b).clock.place e ≡ added_by size y (call_of e) =
    ap (λ (z : ℕ). step_in z (read_table b).clock.place e) (read-cycle x) ∙ ap (λ (z : ℕ). step_in y.cycle z e) (read-place x) ∙ added_is size y e (number_step size b y e x h.0) in
    let more = steps-added size (table_of e) (tally_after size y (call_of e)) es ranges.1 (kept_step size b y e ranges.0 x h.0) h.1 in
    omega (arith, one, more)

-- the same entry has the same stamp
pub stamped : (j : ℕ) (e : Entry) (b : List ℕ) → SameStamp j e (read_table b) → Stamped j e.stamp b
stamped j e b k = record { entry = k.entry; here = k.here; stamped = k.stamp }

pub stamped-along : (j : ℕ) (e : Entry) (es : List Event) → SameStampAlong j e es → StampedAlong j e.stamp es
stamped-along j e [] all = tt
stamped-along j e (x ∷ xs) all = (stamped j e (table_of x) all.0, stamped-along j e xs all.1)

-- AN ENTRY AT THE END: it was there at the start, with its stamp, or a datagram of the list stamped it
module _ (size j : ℕ) (e : Entry) where
  abbrev There : List ℕ → List Event → Type 0
  There b es = SameStamp j e (read_table b) × SameStampAlong j e es

  -- the first call stamped it
  stamped-by : (b : List ℕ) (y : Tally) (x : Event) (es : List Event) → AllInRange (x ∷ es) → Invariant size b y → Trace model b (x ∷ es)
      → There (table_of x) es → AnsweredDatagram x → e.stamp ≡ (read_table (table_of x)).clock.running → slot_of (read_table (left_by (table_of x) es)) j ≡ held e
      → Since size y b (x ∷ es) j e
  stamped-by b y x es ranges v h there answered z w =
      let v2 = kept_step size b y x ranges.0 v h.0 in
      let y2 = tally_after size y (call_of x) in
      let aged = ages-along size (table_of x) y2 es j e.stamp ranges.1 v2 h.1 (stamped j e (table_of x) there.0) (stamped-along j e es there.1) in
      let start : age_in (table_of x) e.stamp ≡ 0 = ap (λ (r : ℕ). age_at (read_table (table_of x)).clock.running r) z ∙ fresh-age (read_table (table_of x)).clock.running in
      let sum : age_in (left_by (table_of x) es) e.stamp ≡ added_along size y2 (map call_of es) =
      aged ∙ ap (λ (a : ℕ). a + steps_along (table_of x) es) start ∙ omega (arith, steps-added size (table_of x) y2 es ranges.1 v2 h.1) in
      let live = younger (left_by (table_of x) es) (sound-along size (table_of x) y2 es ranges.1 v2 h.1) j e w in
      record {
        earlier = [];
        stamping = x;
        rest = es;
        split = refl;
        answered = answered;
        here = there.0;
        stamp = z;
        kept = there.1;
        age = sum;
        live = omega (arith, sum, live);
      }

  -- one more call before them
  behind-one : (b : List ℕ) (y : Tally) (x : Event) (es : List Event) → Since size (tally_after size y (call_of x)) (table_of x) es j e → Since size y b (x ∷ es) j e
  behind-one b y x es s =
      record {
        earlier = x ∷ s.earlier;
        stamping = s.stamping;
        rest = s.rest;
        split = ap (λ (l : List Event). x ∷ l) s.split;
        answered = s.answered;
        here = s.here;
        stamp = s.stamp;
        kept = s.kept;
        age = s.age;
        live = s.live;
      }

  at-end : (b : List ℕ) (y : Tally) (es : List Event) → AllInRange es → Invariant size b y → Trace model b es → slot_of (read_table (left_by b es)) j ≡ held e
      → There b es ⊎ Since size y b es j e
  at-end b y [] ranges v h w = inl (same_self j e (read_table b) w, tt)
  at-end b y (x ∷ es) ranges v h w =
      go (at-end (table_of x) (tally_after size y (call_of x)) es ranges.1 (kept_step size b y x ranges.0 v h.0) h.1 w)
    where
      on : (t : There (table_of x) es) → SameStamp j t.0.entry (read_table b) ⊎ (AnsweredDatagram x × (t.0.entry.stamp ≡ (read_table (table_of x)).clock.running))
          → There b (x ∷ es) ⊎ Since size y b (x ∷ es) j e
      on t (inl k) = inl (same-through j e (read_table (table_of x)) (read_table b) t.0 k, t)
      on t (inr k) = inr (stamped-by b y x es ranges v h t k.0 (sym t.0.stamp ∙ k.1) w)

      go : There (table_of x) es ⊎ Since size (tally_after size y (call_of x)) (table_of x) es j e → There b (x ∷ es) ⊎ Since size y b (x ∷ es) j e
      go (inl t) = on t (call_step size b y v j t.0.entry x ranges.0 h.0 t.0.here)
      go (inr s) = inr (behind-one b y x es s)

-- from a fresh table on there was none at the start
summed : Summed model
summed before after c es range ranges h trace j e w = go (at-end (length before) j e after (begin_tally (length before) c) es ranges x trace w)
  where
    z : make_refusal c (length before) ≡ 0
    z = sym (h.number ∙ make-number c before)

    m : after ≡ (made_by 0 c before).table
    m = h.table ∙ ap (λ (a : Made). a.table) (make-answered c before z)

    x : Invariant (length before) after (begin_tally (length before) c)
    x = subst (λ (a : List ℕ). Invariant (length before) a (begin_tally (length before) c)) (sym m) (make-kept c before range z)

    go : There (length before) j e after es ⊎ Since (length before) (begin_tally (length before) c) after es j e → Since (length before) (begin_tally (length before) c) after es j e
    go (inl t) = absurd (omega (arith, some-held x j e.stamp (stamped j e after t.0)))
    go (inr s) = s

pub live-age : LiveAge model
live-age = record { grows = grows; since_stamp = since-stamped model grows; summed = summed }
