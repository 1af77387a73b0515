-- A response keeps the table and the tally related, and both say the same of it. Assumes nothing.
use Prim.Native.Nat.{ℕ, ◌-◌, ◌≤◌}
use mathlib.Core.Path.{◌≡◌, refl, sym, ap, ◌∙◌}
use mathlib.Core.Bool.{Bool, true, false, cond}
use mathlib.Core.Logic.{⊎_elim}
use Rattle.model.specs.Lists.{count, keep}
use Rattle.model.specs.Query.{Question, LlqOption}
use Rattle.model.specs.Table.{Slot, free, held, Table}
use Rattle.model.specs.Rules.{Holding, holding, holdings}
use Rattle.model.specs.Sound.{valid_lease, live}
use Rattle.model.specs.Serve.{Sender, answers, establish, on_response, serve_response, find_entry, slot_of}
use Rattle.model.proofs.ListLaws.{and_left}
use Rattle.model.proofs.StepLaws.{fits-establish}
use Rattle.claims.specs.Tally.{Tally, is_of, is_answered, established_holding, response_tally, response_outcome}
use Rattle.claims.proofs.Relation.{Related}
use Rattle.claims.proofs.Relation.TallyRules.{is-answered}
use Rattle.claims.proofs.Relation.OneMatch.{Missing, Found, find_cases, keep-none}
use Rattle.claims.proofs.Relation.ChangeKeeps.{none-changed, one-question, one-changed, kept, match-obeys, match-fits}
use Rattle.claims.proofs.Relation.OptionArguments.{same_outcome, Keeps}

module _ (s : Sender) (q : Question) (o : LlqOption) (t : Table) (y : Tally) (r : Related t y) where
  abbrev m : Holding → Bool
  m = is_answered s q o

  abbrev at : ℕ
  at = find_entry (answers s q o) t

  -- the table's answer by the slot that it finds
  answered : (x : Slot) → slot_of t at ≡ x → serve_response s q o t ≡ on_response o t at x
  unfolding serve_response
  answered x e = ap (on_response o t at) e

  one : count (holdings t) m ≤ 1
  one = one-question t r.sound s q m (λ h k. and_left (is_of s q h) _ (and_left _ _ k))

  marks : (h : Holding) (b : Bool)
      → cond b (established_holding h) h
      ≡ record {
        established = cond b true h.established;
        address = h.address;
        port = h.port;
        number = h.number;
        lease = h.lease;
        age = h.age;
        qtype = h.qtype;
        qclass = h.qclass;
        name = h.name;
      }
  marks h true = refl
  marks h false = refl

  pub response-keeps : Keeps (serve_response s q o t) (response_tally s q o y) (response_outcome o (keep m y.holdings))
  unfolding on_response
  response-keeps = ⊎_elim missing found (find_cases (answers s q o) m t (is-answered s q o))
    where
      missing : Missing m t at → Keeps (serve_response s q o t) (response_tally s q o y) (response_outcome o (keep m y.holdings))
      missing f = rw (answered free f.slot, keep-none m y.holdings (sym (r.entries m) ∙ f.none)) (none-changed m established_holding t y r f.none, refl)

      found : Found m t at → Keeps (serve_response s q o t) (response_tally s q o y) (response_outcome o (keep m y.holdings))
      found f =
          let k = kept m t y r at f one in
          let h = k.0 in
          let same : ((g : Holding → ℕ) → g h ≡ g (holding t.clock.running f.entry)) = k.1.1.1 in
          rw (answered (held f.entry) f.slot, k.1.1.0) (
            one-changed m t y r at f one established_holding (λ h. cond (m h) true h.established) (λ h. h.lease) (λ h. h.age)
                (λ h. marks h (m h)) (establish f.entry) refl (fits-establish f.entry (match-fits m t y r at f one))
                (match-obeys m t y r at f one valid_lease r.sound.leases)
                (match-obeys m t y r at f one live r.sound.ages),
            same_outcome o 0 (sym (same (λ z. z.number))) (sym (same (λ z. z.lease - z.age))),
          )
