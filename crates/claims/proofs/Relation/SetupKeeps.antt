-- A setup keeps the table and the tally related, and both say the same of it. Assumes nothing.
use Prim.Native.Nat.{ℕ, ◌+◌, ◌-◌, ◌≤◌, ◌<◌}
use native.Mathlib.Omega.{arith}
use mathlib.Core.Path.{◌≡◌, refl, sym, ap, ◌∙◌, fun_ext}
use mathlib.Core.Bool.{Bool, true, false, cond}
use mathlib.Core.List.{List, [], ◌∷◌, ◌++◌}
use mathlib.Core.Logic.{⊎_elim}
use lib.ListN.{length, set, length-set}
use borrow.Author.Tests.{le-leb, lt-ltb}
use Rattle.model.specs.Lists.{bit, count, any, keep, index_of}
use Rattle.model.specs.Query.{Question, LlqOption}
use Rattle.model.specs.Table.{Entry, Slot, free, held, Table}
use Rattle.model.specs.Rules.{Holding, holding, holdings, asks, full, fresh_number, entries_of}
use Rattle.model.specs.Sound.{same_question}
use Rattle.model.specs.Serve.{Sender, new_entry, retry_later, granted, on_setup, serve_setup, find_entry, slot_of, with_slot, is_free}
use Rattle.model.proofs.ListLaws.{count-any, count-append, count-ext}
use Rattle.model.proofs.ClockLaws.{fresh-age}
use Rattle.model.proofs.Facts.{same-question-sym}
use Rattle.model.proofs.HoldingLaws.{entries-le, count-granted, free-slot, free_in, room-left}
use Rattle.model.specs.Rules.{FirstFree}
use Rattle.model.proofs.StepLaws.{fits-with-slot, fits-new}
use Rattle.claims.specs.Tally.{Tally, with_holdings, outcome_to, lease_for, number_for, is_of, is_full, new_holding, setup_tally, setup_outcome}
use Rattle.claims.proofs.Relation.{Related}
use Rattle.claims.proofs.Relation.TallyRules.{is-of, is-full, lease-for}
use Rattle.claims.proofs.Relation.NumberSearch.{number-first, number_same}
use Rattle.claims.proofs.Relation.HoldingFacts.{HoldingFacts, tally-facts, related-next, grant-facts}
use Rattle.claims.proofs.Relation.OneMatch.{Missing, Found, find_cases, keep-none}
use Rattle.claims.proofs.Relation.ChangeKeeps.{one-question, kept}
use Rattle.claims.proofs.Relation.RefreshKeeps.{lease-least, lease-most}
use Rattle.claims.proofs.Relation.OptionArguments.{Arguments, Keeps, same_outcome}

module _ (s : Sender) (r : ℕ) (q : Question) (o : LlqOption) (t : Table) (y : Tally) (a : Arguments s r q) (rel : Related t y) where
  abbrev m : Holding → Bool
  m = is_of s q

  abbrev at : ℕ
  at = find_entry (asks s.address s.port q) t

  abbrev result : Type 0
  result = Keeps (serve_setup s r q o t) (setup_tally s r q o y (keep m y.holdings)) (setup_outcome s r q o y (keep m y.holdings))

  set-up : (x : Slot) → slot_of t at ≡ x → serve_setup s r q o t ≡ on_setup s r q o t x
  unfolding serve_setup
  set-up x e = ap (on_setup s r q o t) e

  -- FULL is the same
  full-same : full (length t.slots) t.roster (count (holdings t)) s.address ≡ is_full y s.address
  full-same = rw (rel.n, rel.roster, fun_ext rel.entries) (sym (is-full y s.address))

  -- THE NUMBER is the same
  entries-most : length (holdings t) ≤ length t.slots
  entries-most = entries-le t.clock.running t.slots

  tally-most : length y.holdings ≤ 64
  tally-most = omega (arith, rel.sound.slots_max, entries-most, rel.entries any, count-any (holdings t), count-any y.holdings)

  same_number : fresh_number (length t.slots + 2) (count (holdings t)) r ≡ number_for y.holdings r
  same_number =
      let n = rel.sound.slots_max in
      let l = entries-most in
      number_same (length t.slots + 2) (holdings t) y.holdings r a.random (omega arith) (omega arith) tally-most rel.entries

  first : FirstFree (count y.holdings) r (number_for y.holdings r)
  first = number-first y.holdings r a.random tally-most

  -- THE NEW ENTRY is the new holding
  abbrev x : Holding
  x = new_holding s r q o y

  abbrev e : Entry
  e = new_entry s r q o t

  seen : holding t.clock.running e ≡ x
  seen = λ i.
      record {
        established = false;
        address = s.address;
        port = s.port;
        number = same_number i;
        lease = sym (lease-for o.lease) i;
        age = fresh-age t.clock.running i;
        qtype = q.qtype;
        qclass = q.qclass;
        name = q.name;
      }

  -- GRANTED
  module _ (none : count (holdings t) m ≡ 0) (room : is_full y s.address ≡ false) where
    abbrev after : List Holding
    after = y.holdings ++ (x ∷ [])

    more : (p : Holding → Bool) → count after p ≡ count y.holdings p + bit (p x)
    more p = omega (arith, count-append y.holdings (x ∷ []) p)

    new-question : count y.holdings (same_question x) ≡ 0
    new-question =
        count-ext y.holdings (same_question x) m (λ h. same-question-sym x h ∙ sym (is-of s q h)) ∙ sym (rel.entries m) ∙ none

    facts-granted : HoldingFacts y.n y.roster (count after)
    facts-granted =
        grant-facts y.n y.roster y.holdings after x more (tally-facts t y rel) first.non_zero first.unused new-question
        (sym (is-full y s.address) ∙ room)
        (rw (le-leb 60 (lease_for o.lease) (lease-least o.lease), le-leb (lease_for o.lease) 7200 (lease-most o.lease)))
        (lt-ltb 0 (lease_for o.lease) (omega (arith, lease-least o.lease))) a.name

    -- there is a free slot
    some-free : index_of is_free t.slots < length t.slots
    some-free = free_in t.clock.running t.slots (room-left t s.address rel.sound (full-same ∙ room))

    entries-granted : (p : Holding → Bool)
        → count (entries_of t.clock.running (set t.slots (index_of is_free t.slots) (held e))) p ≡ count after p
    entries-granted p =
        omega (
          arith,
          count-granted t.clock.running t.slots (index_of is_free t.slots) e p some-free (free-slot t.slots some-free),
          ap (λ (h : Holding). bit (p h)) seen,
          rel.entries p,
          more p,
        )

    grant-keeps : Related (with_slot t (index_of is_free t.slots) (held e)) (with_holdings y after)
    grant-keeps =
        related-next t (with_slot t (index_of is_free t.slots) (held e)) y (with_holdings y after) rel
        (length-set t.slots (index_of is_free t.slots) (held e)) refl
        (record {
          cycle = rel.cycle;
          place = rel.place;
          running = rel.running;
          place_less = rel.sound.place;
          n = refl;
          roster = refl;
          entries = entries-granted;
          facts = facts-granted;
          fits = fits-with-slot t (index_of is_free t.slots) (held e) rel.fits (fits-new s r q o t a.sender a.question rel.fits);
        })

  -- A NEW QUESTION
  missing : Missing m t at → result
  unfolding on_setup
  missing f =
      rw (set-up free f.slot, keep-none m y.holdings (sym (rel.entries m) ∙ f.none), full-same) (go (is_full y s.address) refl)
    where
      go : (b : Bool) → is_full y s.address ≡ b
          → Keeps (cond b (record { table = t; outcome = retry_later o }) (granted s r q o t))
          (cond b y (with_holdings y (y.holdings ++ (x ∷ []))))
          (cond b (outcome_to o 1 0 60) (outcome_to o 0 (number_for y.holdings r) (lease_for o.lease)))
      go true b = (rel, refl)
      go false b = (grant-keeps f.none b, same_outcome o 0 same_number (sym (lease-for o.lease)))

  -- A QUESTION THAT IS HELD
  found : Found m t at → result
  unfolding on_setup
  found f =
      let k = kept m t y rel at f (one-question t rel.sound s q m (λ h z. z)) in
      rw (set-up (held f.entry) f.slot, k.1.1.0)
      (rel, same_outcome o 0 (sym (k.1.1.1 (λ z. z.number))) (sym (k.1.1.1 (λ z. z.lease - z.age))))

  pub setup-keeps : Keeps (serve_setup s r q o t) (setup_tally s r q o y (keep m y.holdings)) (setup_outcome s r q o y (keep m y.holdings))
  setup-keeps = ⊎_elim missing found (find_cases (asks s.address s.port q) m t (is-of s q))
