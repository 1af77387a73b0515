-- A refresh keeps the table and the tally related, and both say the same of it. Assumes nothing.
use Prim.Native.Nat.{ℕ, ◌≤◌}
use native.Mathlib.Omega.{arith}
use mathlib.Core.Path.{◌≡◌, refl, sym, ap, ◌∙◌}
use mathlib.Core.Bool.{Bool, true, false, not, cond}
use mathlib.Core.List.{map}
use mathlib.Core.Logic.{⊎_elim}
use lib.Dec.{eqb}
use borrow.Author.Tests.{le-leb, lt-ltb}
use Rattle.model.specs.Lists.{count, keep}
use Rattle.model.specs.Query.{Question, LlqOption}
use Rattle.model.specs.Table.{Entry, Slot, free, held, Table}
use Rattle.model.specs.Rules.{Holding, holding, holdings, granted_lease}
use Rattle.model.specs.Sound.{valid_lease, live}
use Rattle.model.specs.Serve.{Sender, refreshes, renew, on_refresh, serve_refresh, find_entry, slot_of, with_slot}
use Rattle.model.proofs.ListLaws.{and_left}
use Rattle.model.proofs.StepLaws.{granted-lease, fits-renew}
use Rattle.model.proofs.ClockLaws.{fresh-age}
use Rattle.claims.specs.Tally.{Tally, with_holdings, outcome_to, lease_for, is_of, is_refreshed, renewed_holding, refresh_tally, refresh_outcome}
use Rattle.claims.proofs.Relation.{Related}
use Rattle.claims.proofs.Relation.TallyRules.{is-refreshed, lease-for}
use Rattle.claims.proofs.Relation.OneMatch.{Missing, Found, find_cases, keep-none}
use Rattle.claims.proofs.Relation.ChangeKeeps.{none-changed, none-struck, one-question, one-changed, one-struck, kept, match-fits}
use Rattle.claims.proofs.Relation.OptionArguments.{same_outcome, Keeps}

-- the granted lease is 60 to 7,200
pub lease-least : (asked : ℕ) → 60 ≤ lease_for asked
lease-least asked = rw (lease-for asked) (granted-lease asked).0

pub lease-most : (asked : ℕ) → lease_for asked ≤ 7200
lease-most asked = rw (lease-for asked) (granted-lease asked).1

module _ (s : Sender) (q : Question) (o : LlqOption) (t : Table) (y : Tally) (r : Related t y) where
  abbrev m : Holding → Bool
  m = is_refreshed s q o

  abbrev at : ℕ
  at = find_entry (refreshes s q o) t

  refreshed : (x : Slot) → slot_of t at ≡ x → serve_refresh s q o t ≡ on_refresh o t at x
  unfolding serve_refresh
  refreshed x e = ap (on_refresh o t at) e

  one : count (holdings t) m ≤ 1
  one = one-question t r.sound s q m (λ h k. and_left (is_of s q h) _ (and_left _ _ k))

  marks : (h : Holding) (b : Bool)
      → cond b (renewed_holding (lease_for o.lease) h) h
      ≡ record {
        established = h.established;
        address = h.address;
        port = h.port;
        number = h.number;
        lease = cond b (lease_for o.lease) h.lease;
        age = cond b 0 h.age;
        qtype = h.qtype;
        qclass = h.qclass;
        name = h.name;
      }
  marks h true = refl
  marks h false = refl

  -- the renewed entry is the renewed holding
  seen : (e : Entry) → holding t.clock.running (renew t.clock.running o.lease e) ≡ renewed_holding (lease_for o.lease) (holding t.clock.running e)
  seen e = λ i.
      record {
        established = e.established;
        address = e.address;
        port = e.port;
        number = e.number;
        lease = sym (lease-for o.lease) i;
        age = fresh-age t.clock.running i;
        qtype = e.qtype;
        qclass = e.qclass;
        name = e.name;
      }

  valid-renewed : (h : Holding) → valid_lease (renewed_holding (lease_for o.lease) h) ≡ true
  valid-renewed h = rw (le-leb 60 (lease_for o.lease) (lease-least o.lease), le-leb (lease_for o.lease) 7200 (lease-most o.lease))

  live-renewed : (h : Holding) → live (renewed_holding (lease_for o.lease) h) ≡ true
  live-renewed h = lt-ltb 0 (lease_for o.lease) (omega (arith, lease-least o.lease))

  pub refresh-keeps : Keeps (serve_refresh s q o t) (refresh_tally s q o y) (refresh_outcome o (keep m y.holdings))
  unfolding on_refresh
  refresh-keeps = ⊎_elim missing found (find_cases (refreshes s q o) m t (is-refreshed s q o))
    where
      missing : Missing m t at → Keeps (serve_refresh s q o t) (refresh_tally s q o y) (refresh_outcome o (keep m y.holdings))
      missing f =
          rw (refreshed free f.slot, keep-none m y.holdings (sym (r.entries m) ∙ f.none)) (go (eqb o.lease 0), refl)
        where
          go : (b : Bool)
              → Related t (cond b (with_holdings y (keep (λ h. not (m h)) y.holdings))
              (with_holdings y (map (λ h. cond (m h) (renewed_holding (lease_for o.lease) h) h) y.holdings)))
          go true = none-struck m t y r f.none
          go false = none-changed m (renewed_holding (lease_for o.lease)) t y r f.none

      found : Found m t at → Keeps (serve_refresh s q o t) (refresh_tally s q o y) (refresh_outcome o (keep m y.holdings))
      found f =
          let k = kept m t y r at f one in
          rw (refreshed (held f.entry) f.slot, k.1.1.0) (go k.0 (k.1.1.1 (λ z. z.number)) (eqb o.lease 0))
        where
          go : (h : Holding) → h.number ≡ f.entry.number → (b : Bool)
              → Keeps
              (cond b
              (record { table = with_slot t at free; outcome = record { opcode = o.opcode; error = 0; number = f.entry.number; lease = 0 } })
              (record {
                table = with_slot t at (held (renew t.clock.running o.lease f.entry));
                outcome = record { opcode = o.opcode; error = 0; number = f.entry.number; lease = granted_lease o.lease };
              }))
              (cond b (with_holdings y (keep (λ h. not (m h)) y.holdings))
              (with_holdings y (map (λ h. cond (m h) (renewed_holding (lease_for o.lease) h) h) y.holdings)))
              (outcome_to o 0 h.number (cond b 0 (lease_for o.lease)))
          go h e true = (one-struck m t y r at f one, ap (λ (z : ℕ). outcome_to o 0 z 0) (sym e))
          go h e false = (
            one-changed m t y r at f one (renewed_holding (lease_for o.lease)) (λ h. h.established)
                (λ h. cond (m h) (lease_for o.lease) h.lease) (λ h. cond (m h) 0 h.age) (λ h. marks h (m h))
                (renew t.clock.running o.lease f.entry) (seen f.entry) (fits-renew t.clock.running o.lease f.entry r.fits.running (match-fits m t y r at f one))
                (valid-renewed (holding t.clock.running f.entry)) (live-renewed (holding t.clock.running f.entry)),
            same_outcome o 0 (sym e) (sym (lease-for o.lease)),
          )
