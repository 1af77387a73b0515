-- What one option of the model changes in a sound table: nothing, or one slot in one of four ways. Assumes nothing.
use Prim.Native.Nat.{ℕ, ◌+◌, ◌≤◌, ◌<◌}
use native.Mathlib.Omega.{arith}
use mathlib.Core.Path.{◌≡◌, refl, sym, ap, ◌∙◌}
use mathlib.Core.Bool.{Bool, true, false, cond}
use mathlib.Core.List.{List}
use lib.ListN.{length, set}
use lib.Seq.{get_or-set_same, set-get_or}
use lib.Dec.{eqb}
use borrow.Author.Tests.{eqb-true, eqb-false, eq-eqb}
use Rattle.model.specs.Lists.{count, index_of}
use Rattle.model.specs.Query.{Question, LlqOption}
use Rattle.model.specs.Table.{Entry, Slot, free, held, Table}
use Rattle.model.specs.Rules.{holdings, numbered, asks, full, granted_lease, fresh_number}
use Rattle.model.specs.Sound.{Sound}
use Rattle.model.specs.Serve.{Sender, Kind, bad_version, bad_format, setup, response, refresh, kind_of_option, serve_kind, serve_option, serve_setup, on_setup, serve_response, on_response, serve_refresh, on_refresh, granted, retry_later, Served, Outcome, new_entry, with_slot, with_slots, slot_of, establish, renew as renew_entry, is_free, find_entry, answers, refreshes}
use Rattle.model.proofs.ListLaws.{never, index-before}
use Rattle.model.proofs.HoldingLaws.{held_in_lem, entries-le, count_held, found-passes, found_none, found_at, free-slot, free_in, room-left}
use Rattle.model.proofs.FreshLaws.{Fresh, fresh-number}
use Rattle.claims.specs.Changes.{Setup, Response, Refresh, RightResponse, Granted, renewed_entry, Change, nothing, grant, confirm, renew, end}
use Rattle.claims.proofs.Relation.TallyRules.{lease-for}
use Rattle.claims.proofs.Changes.OptionTests.{OfKind, of-kind, response-kind, own-asks, answers-right, right-answers, refreshes-right, one-answers}

-- what the reply says of a refresh
abbrev refreshed : LlqOption → ℕ → ℕ → Outcome
refreshed o number lease = record { opcode = o.opcode; error = 0; number = number; lease = lease }

module _ (s : Sender) (r : ℕ) (q : Question) (o : LlqOption) (t : Table) (x : Sound t) where
  -- SETUP

  granted-facts : Setup o → slot_of t (find_entry (asks s.address s.port q) t) ≡ free → Granted s q o t (new_entry s r q o t)
  granted-facts so h =
      let hs = holdings t in
      let run = t.clock.running in
      let le : length hs ≤ length t.slots = entries-le run t.slots in
      let fr : Fresh hs (fresh_number (length t.slots + 2) (count hs) r) =
      fresh-number (length t.slots + 2) hs r (omega (arith, x.slots_max)) (omega arith) in
      record {
        setup = so;
        pending = refl;
        own = record { address = refl; port = refl; name = refl; qtype = refl; qclass = refl };
        lease = sym (lease-for o.lease);
        stamp = refl;
        non_zero = fr.non_zero;
        fresh = λ j e p z.
            let m : 1 ≤ count hs (numbered (fresh_number (length t.slots + 2) (count hs) r)) =
            count_held run t.slots j e (numbered (fresh_number (length t.slots + 2) (count hs) r)) p (eq-eqb e.number _ z) in
            omega (arith, fr.unused);
        unheld = λ j e p z.
            let m : 1 ≤ count hs (asks s.address s.port q) =
            count_held run t.slots j e (asks s.address s.port q) p (own-asks s q run e z) in
            omega (arith, found_none (asks s.address s.port q) t h);
      }

  setup-change : Setup o → Change s q o t (serve_setup s r q o t).table
  unfolding serve_setup on_setup
  setup-change so = go (slot_of t (find_entry (asks s.address s.port q) t)) refl
    where
      j : ℕ
      j = index_of is_free t.slots

      add : slot_of t (find_entry (asks s.address s.port q) t) ≡ free → full (length t.slots) t.roster (count (holdings t)) s.address ≡ false
          → Change s q o t (granted s r q o t).table
      add h f =
          let i : index_of is_free t.slots < length t.slots = free_in t.clock.running t.slots (room-left t s.address x f) in
          grant (index_of is_free t.slots) (new_entry s r q o t) i (free-slot t.slots i)
          (λ k m z. never {b = is_free (slot_of t k)} (ap is_free z) (index-before is_free t.slots k free m)) (granted-facts so h) refl

      on : slot_of t (find_entry (asks s.address s.port q) t) ≡ free → (v : Bool)
          → full (length t.slots) t.roster (count (holdings t)) s.address ≡ v
          → Change s q o t (cond v (record { table = t; outcome = retry_later o }) (granted s r q o t)).table
      on h true f = nothing refl
      on h false f = add h f

      go : (z : Slot) → slot_of t (find_entry (asks s.address s.port q) t) ≡ z → Change s q o t (on_setup s r q o t z).table
      go (held e) h = nothing refl
      go free h = on h (full (length t.slots) t.roster (count (holdings t)) s.address) refl

  -- RESPONSE

  established-already : (j : ℕ) (e : Entry) → slot_of t j ≡ held e → e.established ≡ true → with_slot t j (held (establish e)) ≡ t
  established-already j e h b =
      let z : establish e ≡ e =
      ap (λ (v : Bool). record { established = v; address = e.address; port = e.port; number = e.number; lease = e.lease; stamp = e.stamp; qtype = e.qtype; qclass = e.qclass; name = e.name })
      (sym b) in
      ap (λ (l : List Slot). with_slots t l) (ap (λ (v : Slot). set t.slots j v) (ap held z ∙ sym h) ∙ set-get_or t.slots j free)

  response-change : Response o → Change s q o t (serve_response s q o t).table
  unfolding serve_response on_response
  response-change so = go (slot_of t (find_entry (answers s q o) t)) refl
    where
      j : ℕ
      j = find_entry (answers s q o) t

      on : (e : Entry) → slot_of t j ≡ held e → (v : Bool) → e.established ≡ v → Change s q o t (with_slot t j (held (establish e)))
      on e h true b = nothing (established-already j e h b)
      on e h false b =
          confirm j e (held_in_lem t.slots j e h) h b (answers-right s q t.clock.running e o so (found-passes (answers s q o) t e h)) refl

      go : (z : Slot) → slot_of t j ≡ z → Change s q o t (on_response o t j z).table
      go (held e) h = on e h e.established refl
      go free h = nothing refl

  -- REFRESH

  renewed-is : (e : Entry) → renew_entry t.clock.running o.lease e ≡ renewed_entry t o e
  renewed-is e =
      ap (λ (v : ℕ). record { established = e.established; address = e.address; port = e.port; number = e.number; lease = v; stamp = t.clock.running; qtype = e.qtype; qclass = e.qclass; name = e.name })
      (sym (lease-for o.lease))

  refresh-change : Refresh o → Change s q o t (serve_refresh s q o t).table
  unfolding serve_refresh on_refresh
  refresh-change so = go (slot_of t (find_entry (refreshes s q o) t)) refl
    where
      j : ℕ
      j = find_entry (refreshes s q o) t

      on : (e : Entry) → slot_of t j ≡ held e → (v : Bool) → eqb o.lease 0 ≡ v
          → Change s q o t
          (cond {A = Served} v
          (record { table = with_slot t j free; outcome = refreshed o e.number 0 })
          (record { table = with_slot t j (held (renew_entry t.clock.running o.lease e)); outcome = refreshed o e.number (granted_lease o.lease) })
          ).table
      on e h true b =
          end j e (held_in_lem t.slots j e h) h (refreshes-right s q t.clock.running e o so (found-passes (refreshes s q o) t e h))
          (eqb-true o.lease 0 b) refl
      on e h false b =
          renew j e (held_in_lem t.slots j e h) h (refreshes-right s q t.clock.running e o so (found-passes (refreshes s q o) t e h))
          (eqb-false o.lease 0 b) (ap (λ (w : Entry). with_slot t j (held w)) (renewed-is e))

      go : (z : Slot) → slot_of t j ≡ z → Change s q o t (on_refresh o t j z).table
      go (held e) h = on e h (eqb o.lease 0) refl
      go free h = nothing refl

  -- ONE OPTION, by its kind
  pub option-change : Change s q o t (serve_option s r q o t).table
  unfolding serve_kind
  option-change = go (kind_of_option o) (of-kind o)
    where
      go : (k : Kind) → OfKind o k → Change s q o t (serve_kind k s r q o t).table
      go bad_version f = nothing refl
      go bad_format f = nothing refl
      go setup f = setup-change f
      go response f = response-change f
      go refresh f = refresh-change f

  -- a right response to a held entry establishes it
  pub response-establishes : (j : ℕ) (e : Entry) → slot_of t j ≡ held e → RightResponse t.clock.running s q o e → slot_of (serve_option s r q o t).table j ≡ held (establish e)
  unfolding serve_kind serve_response on_response
  response-establishes j e h right =
      let k : kind_of_option o ≡ response = response-kind o right.response in
      let i : find_entry (answers s q o) t ≡ j =
      found_at (answers s q o) t j e (one-answers s q o t x) h (right-answers s q t.clock.running e o right) in
      rw (k, i, h) (get_or-set_same t.slots j (held (establish e)) free (held_in_lem t.slots j e h))
