-- What a reply says of an option: the opcode sent, and values that fit their fields. Assumes nothing.
use Prim.Native.Nat.{ℕ, ◌+◌, ◌^◌, ◌≤◌, ◌<◌}
use native.Mathlib.Omega.{arith}
use mathlib.Core.Path.{◌≡◌, refl}
use lib.ListN.{length}
use lib.Dec.{eqb, lit<}
use Rattle.model.specs.Lists.{count}
use Rattle.model.specs.Query.{Question, LlqOption}
use Rattle.model.specs.Table.{Slot, free, held, Table}
use Rattle.model.specs.Rules.{holdings, asks, full}
use Rattle.model.specs.Sound.{FitsSlot, Fits}
use Rattle.model.specs.Serve.{Sender, Outcome, Served, malformed, Kind, bad_version, bad_format, setup, response, refresh, kind_of_option, serve_kind, serve_option, serve_setup, on_setup, serve_response, on_response, serve_refresh, on_refresh, find_entry, slot_of, answers, refreshes, format_err, bad_vers}
use Rattle.model.proofs.ListLaws.{either}
use Rattle.model.proofs.FreshLaws.{fresh-lt}
use Rattle.model.proofs.StepLaws.{fits-slot-of}
use Rattle.claims.proofs.Reply.ReplyBytes.{FitsOutcome}

-- of an option, what a reply may say
pub record OutcomeRange (o : LlqOption) (x : Outcome) : Type 0 where
  -- the opcode sent
  pub opcode : x.opcode ≡ o.opcode
  pub error : x.error ≤ 5
  pub number : x.number < 256 ^ 8
  pub lease : x.lease < 256 ^ 4

module _ (s : Sender) (r : ℕ) (q : Question) (o : LlqOption) (t : Table) (fits : Fits t) (sent : o.number < 256 ^ 8) where
  malformed-range : (error : ℕ) → error ≤ 5 → OutcomeRange o (malformed o error t).outcome
  malformed-range error h =
      record {
        opcode = refl;
        error = h;
        number = either (λ (x : ℕ). x < 256 ^ 8) (eqb o.opcode 2) sent (lit< tt);
        lease = lit< tt;
      }

  setup-range : (x : Slot) → FitsSlot x → OutcomeRange o (on_setup s r q o t x).outcome
  unfolding on_setup
  setup-range (held e) f = record { opcode = refl; error = omega arith; number = f.number; lease = omega (arith, f.lease) }
  setup-range free f =
      either (λ (x : Served). OutcomeRange o x.outcome) (full (length t.slots) t.roster (count (holdings t)) s.address)
      (record { opcode = refl; error = omega arith; number = lit< tt; lease = lit< tt })
      (record { opcode = refl; error = omega arith; number = fresh-lt (length t.slots + 2) (count (holdings t)) r; lease = omega arith })

  response-range : (i : ℕ) (x : Slot) → FitsSlot x → OutcomeRange o (on_response o t i x).outcome
  unfolding on_response
  response-range i (held e) f = record { opcode = refl; error = omega arith; number = f.number; lease = omega (arith, f.lease) }
  response-range i free f = record { opcode = refl; error = omega arith; number = lit< tt; lease = lit< tt }

  refresh-range : (i : ℕ) (x : Slot) → FitsSlot x → OutcomeRange o (on_refresh o t i x).outcome
  unfolding on_refresh
  refresh-range i (held e) f =
      either (λ (x : Served). OutcomeRange o x.outcome) (eqb o.lease 0)
      (record { opcode = refl; error = omega arith; number = f.number; lease = lit< tt })
      (record { opcode = refl; error = omega arith; number = f.number; lease = omega arith })
  refresh-range i free f = record { opcode = refl; error = omega arith; number = sent; lease = lit< tt }

  kind-range : (k : Kind) → OutcomeRange o (serve_kind k s r q o t).outcome
  unfolding serve_kind serve_setup serve_response serve_refresh
  kind-range bad_version = malformed-range bad_vers (omega arith)
  kind-range bad_format = malformed-range format_err (omega arith)
  kind-range setup = setup-range (slot_of t (find_entry (asks s.address s.port q) t)) (fits-slot-of t (find_entry (asks s.address s.port q) t) fits)
  kind-range response = response-range (find_entry (answers s q o) t) (slot_of t (find_entry (answers s q o) t)) (fits-slot-of t (find_entry (answers s q o) t) fits)
  kind-range refresh = refresh-range (find_entry (refreshes s q o) t) (slot_of t (find_entry (refreshes s q o) t)) (fits-slot-of t (find_entry (refreshes s q o) t) fits)

  pub option-range : OutcomeRange o (serve_option s r q o t).outcome
  option-range = kind-range (kind_of_option o)

pub range-fits : (o : LlqOption) (x : Outcome) → o.opcode < 256 ^ 2 → OutcomeRange o x → FitsOutcome x
range-fits o x h t = record { opcode = omega arith; error = omega (arith, t.error); number = t.number; lease = t.lease }
