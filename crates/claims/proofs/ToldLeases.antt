-- A lease that was told stays a right response's, of the model's server. Assumes nothing.
use Prim.Native.Nat.{ℕ, ◌+◌, ◌-◌, ◌<◌}
use native.Mathlib.Omega.{arith}
use mathlib.Core.Path.{◌≡◌, refl, sym, ◌∙◌, subst}
use mathlib.Core.List.{List, [], ◌∷◌}
use lib.ListN.{length}
use Rattle.model.specs.Query.{Question, LlqOption}
use Rattle.model.specs.Table.{Entry, held, read_table, size_of}
use Rattle.model.specs.Sound.{SoundBytes}
use Rattle.model.specs.Serve.{Sender, slot_of}
use Rattle.model.specs.Meets.{model}
use Rattle.model.proofs.HoldingLaws.{held-inj}
use Rattle.claims.specs.Events.{Event, table_of, Trace, AllInRange}
use Rattle.claims.specs.Changes.{Response, Own, age_of, RightResponse}
use Rattle.claims.specs.LiveAge.{steps_along, left_by, SameStampAlong}
use Rattle.claims.specs.AnySound.{tally_of}
use Rattle.claims.specs.Repeats.{Remains, SameLease, SameLeaseAlong, ToldLeases}
use Rattle.claims.proofs.LiveAge.AgeSteps.{kept_self, younger, sound-along}
use Rattle.claims.proofs.LiveAge.SlotSteps.{same_self}
use Rattle.claims.proofs.LiveAge.{stamped, stamped-along, live-age}

-- THE ENTRY, from the start to the end
module _ (j : ℕ) (e : Entry) where
  at-start : (b : List ℕ) → slot_of (read_table b) j ≡ held e → SameLease j e b
  at-start b h =
      record { kept = same_self j e (read_table b) h; lease = refl }

  at-end : (b : List ℕ) (es : List Event) → SameLease j e b → SameLeaseAlong j e es → SameLease j e (left_by b es)
  at-end b [] k all = k
  at-end b (x ∷ xs) k all = at-end (table_of x) xs all.0 all.1

  same-along : (es : List Event) → SameLeaseAlong j e es → SameStampAlong j e es
  same-along [] all = tt
  same-along (x ∷ xs) all = (all.0.kept, same-along xs all.1)

module _ (b : List ℕ) (es : List Event) (j : ℕ) (e : Entry) (s : SoundBytes b) (ranges : AllInRange es) (h : Trace model b es)
    (here : slot_of (read_table b) j ≡ held e) (all : SameLeaseAlong j e es) where
  abbrev start : ℕ
  start = (read_table b).clock.running

  abbrev finish : ℕ
  finish = (read_table (left_by b es)).clock.running

  kept : SameLease j e (left_by b es)
  kept = at-end j e b es (at-start j e b here) all

  -- it has grown older by the steps
  older : age_of finish e ≡ age_of start e + steps_along b es
  older = live-age.grows b es j e.stamp s ranges h (stamped j e b (same_self j e (read_table b) here)) (stamped-along j e es (same-along j e es all))

  -- and is younger than its lease still
  live-still : age_of finish e < e.lease
  live-still =
      let k = kept.kept in
      let y = younger (left_by b es) (sound-along (size_of (read_table b).layout (length (read_table b).slots)) b (tally_of (read_table b)) es ranges (kept_self b s) h) j k.entry k.here in
      let z = rw (k.stamp, kept.lease) at y in
      z

  told-left : (seconds : ℕ) → Remains (read_table b) e seconds → (steps_along b es < seconds) × Remains (read_table (left_by b es)) e (seconds - steps_along b es)
  told-left seconds r = (omega (arith, older, live-still, r), omega (arith, older, live-still, r))

  told-right : (x : Entry) → slot_of (read_table (left_by b es)) j ≡ held x → (from : Sender) (q : Question) (o : LlqOption) → Response o → Own from q e → e.number ≡ o.number
      → Remains (read_table b) e o.lease → RightResponse finish from q o x
  told-right x there from q o so own n r =
      let k = kept.kept in
      subst (RightResponse finish from q o) (held-inj k.entry x (sym k.here ∙ there))
      (record {
        response = so;
        own = record {
          address = k.address ∙ own.address;
          port = k.port ∙ own.port;
          name = k.name ∙ own.name;
          qtype = k.qtype ∙ own.qtype;
          qclass = k.qclass ∙ own.qclass;
        };
        number = k.number ∙ n;
        least = rw (k.stamp, kept.lease) (omega (arith, older, r));
        most = rw kept.lease (omega (arith, r));
      })

pub told-leases : ToldLeases model
told-leases =
    record {
      right = λ b es j e x s ranges h here all there from q o so own n r. told-right b es j e s ranges h here all x there from q o so own n r;
      remains = λ b es j e s ranges h here all seconds r. told-left b es j e s ranges h here all seconds r;
    }
