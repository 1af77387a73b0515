-- Changing, or striking, the one entry that passes a test keeps the table and the tally related. Assumes nothing.
use Prim.Native.Nat.{ℕ, ◌≤◌}
use native.Mathlib.Omega.{arith}
use mathlib.Core.Path.{◌≡◌, refl, sym, ap, ◌∙◌}
use mathlib.Core.Bool.{Bool, true, not, cond, ◌&&◌}
use mathlib.Core.List.{List, ◌∷◌, map}
use lib.ListN.{set, length-set}
use Rattle.model.specs.Lists.{bit, count, any, keep}
use Rattle.model.specs.Query.{Question}
use Rattle.model.specs.Table.{Entry, free, held, Table}
use Rattle.model.specs.Rules.{Holding, holding, holdings, entries_of}
use Rattle.model.specs.Sound.{Sound, FitsEntry, valid_lease, live}
use Rattle.model.specs.Serve.{Sender, with_slot}
use Rattle.model.proofs.ListLaws.{and_left, count-ext, count-keep, count_map, count-mono}
use Rattle.model.proofs.Facts.{one-asks}
use Rattle.model.proofs.HoldingLaws.{count_held, count-changed, count-ended, held-obeys}
use Rattle.model.proofs.StepLaws.{fits-with-slot}
use Rattle.claims.specs.Tally.{Tally, with_holdings, is_of}
use Rattle.claims.proofs.Relation.{Related}
use Rattle.claims.proofs.Relation.TallyRules.{is-of}
use Rattle.claims.proofs.Relation.HoldingFacts.{HoldingFacts, change, tally-facts, listed-once, related-next, strike-facts}
use Rattle.claims.proofs.Relation.OneMatch.{Found, found-only, count-changing, count-striking, keep_some, kept_field}

-- THE SAME HOLDINGS in another list
pub related_same : (t : Table) (y : Tally) (hs : List Holding) → Related t y → ((p : Holding → Bool) → count hs p ≡ count y.holdings p)
    → Related t (with_holdings y hs)
related_same t y hs r e =
    record {
      cycle = r.cycle;
      place = r.place;
      running = r.running;
      n = r.n;
      roster = r.roster;
      entries = λ p. r.entries p ∙ sym (e p);
      sound = r.sound;
      fits = r.fits;
    }

-- where none passes, nothing is changed or struck
none_both : (m p : Holding → Bool) (l : List Holding) → count l m ≡ 0 → count l (λ h. m h && p h) ≡ 0
none_both m p l e = omega (arith, count-mono l (λ h. m h && p h) m (λ h t. and_left (m h) (p h) t))

pub none-changed : (m : Holding → Bool) (f : Holding → Holding) (t : Table) (y : Tally) → Related t y → count (holdings t) m ≡ 0
    → Related t (with_holdings y (map (λ h. cond (m h) (f h) h) y.holdings))
none-changed m f t y r e =
    let z : count y.holdings m ≡ 0 = sym (r.entries m) ∙ e in
    related_same t y (map (λ h. cond (m h) (f h) h) y.holdings) r
    (λ p. omega (arith, count-changing m f y.holdings p, none_both m p y.holdings z, none_both m (λ h. p (f h)) y.holdings z))

pub none-struck : (m : Holding → Bool) (t : Table) (y : Tally) → Related t y → count (holdings t) m ≡ 0
    → Related t (with_holdings y (keep (λ h. not (m h)) y.holdings))
none-struck m t y r e =
    let z : count y.holdings m ≡ 0 = sym (r.entries m) ∙ e in
    related_same t y (keep (λ h. not (m h)) y.holdings) r (λ p. omega (arith, count-striking m y.holdings p, none_both m p y.holdings z))

-- ONE QUESTION: at most one entry passes a test of its address, port and question
pub one-question : (t : Table) → Sound t → (s : Sender) (q : Question) (m : Holding → Bool) → ((h : Holding) → m h ≡ true → is_of s q h ≡ true)
    → count (holdings t) m ≤ 1
one-question t o s q m i = one-asks t o s.address s.port q m (λ h e. sym (is-of s q h) ∙ i h e)

-- THE ONE MATCH, m, which the table found at slot i
module _ (m : Holding → Bool) (t : Table) (y : Tally) (r : Related t y) (i : ℕ) (f : Found m t i) (one : count (holdings t) m ≤ 1) where
  abbrev pub match : Holding
  match = holding t.clock.running f.entry

  -- what the tally's holdings say of it
  tally-only : (p : Holding → Bool) → count y.holdings (λ h. m h && p h) ≡ bit (p match)
  tally-only p = sym (r.entries (λ h. m h && p h)) ∙ found-only m t i f one p

  -- the tally's kept holding agrees with it in number, lease and age
  pub kept : (h : Holding) × ((rest : List Holding) × ((keep m y.holdings ≡ h ∷ rest) × ((g : Holding → ℕ) → g h ≡ g match)))
  kept =
      let w = keep_some m y.holdings (rw (r.entries m) at (count_held t.clock.running t.slots i f.entry m f.slot f.passes)) in
      (w.0, (w.1.0, (w.1.1, kept_field m y.holdings match w.0 w.1.0 tally-only w.1.1)))

  -- a rule of all holdings is a rule of it
  pub match-obeys : (p : Holding → Bool) → count (holdings t) (λ h. not (p h)) ≡ 0 → p match ≡ true
  match-obeys p e = held-obeys t.clock.running t.slots i f.entry p f.slot e

  pub match-fits : FitsEntry f.entry
  match-fits = rw f.slot at (r.fits.slots i f.place)

  -- CHANGED: to c match in the tally, and to the entry e in slot i
  module _ (c : Holding → Holding) (mark : Holding → Bool) (lease age : Holding → ℕ) (is : (h : Holding) → cond (m h) (c h) h ≡ change mark lease age h)
      (e : Entry) (seen : holding t.clock.running e ≡ c match) (fits : FitsEntry e) (ok_lease : valid_lease (c match) ≡ true)
      (ok_age : live (c match) ≡ true) where
    abbrev after : List Holding
    after = map (λ h. cond (m h) (c h) h) y.holdings

    entries-changed : (p : Holding → Bool) → count (entries_of t.clock.running (set t.slots i (held e))) p ≡ count after p
    entries-changed p =
        omega (
          arith,
          count-changed t.clock.running t.slots i f.entry e p f.place f.slot,
          ap (λ (h : Holding). bit (p h)) seen,
          r.entries p,
          count-changing m c y.holdings p,
          tally-only p,
          tally-only (λ h. p (c h)),
        )

    -- a rule that all obey, and the changed one
    still : (p : Holding → Bool) → count y.holdings (λ h. not (p h)) ≡ 0 → p (c match) ≡ true → count after (λ h. not (p h)) ≡ 0
    still p z ok =
        omega (
          arith,
          count-changing m c y.holdings (λ h. not (p h)),
          tally-only (λ h. not (p (c h))),
          ap (λ (b : Bool). bit (not b)) ok,
        )

    facts-changed : HoldingFacts y.n y.roster (count after)
    facts-changed =
        let g = tally-facts t y r in
        strike-facts y.n y.roster (listed-once t y r) mark lease age any y.holdings after
        (λ p. count_map (λ h. cond (m h) (c h) h) y.holdings p ∙ count-ext y.holdings (λ h. p (cond (m h) (c h) h)) (λ h. p (change mark lease age h)) (λ h. ap p (is h)))
        g (still valid_lease g.leases ok_lease) (still live g.ages ok_age)

    pub one-changed : Related (with_slot t i (held e)) (with_holdings y after)
    one-changed =
        related-next t (with_slot t i (held e)) y (with_holdings y after) r (length-set t.slots i (held e)) refl
        (record {
          cycle = r.cycle;
          place = r.place;
          running = r.running;
          place_less = r.sound.place;
          n = refl;
          roster = refl;
          entries = entries-changed;
          facts = facts-changed;
          fits = fits-with-slot t i (held e) r.fits fits;
        })

  -- STRUCK
  abbrev left : List Holding
  left = keep (λ h. not (m h)) y.holdings

  entries-struck : (p : Holding → Bool) → count (entries_of t.clock.running (set t.slots i free)) p ≡ count left p
  entries-struck p =
      omega (
        arith,
        count-ended t.clock.running t.slots i f.entry p f.place f.slot,
        r.entries p,
        count-striking m y.holdings p,
        tally-only p,
      )

  facts-struck : HoldingFacts y.n y.roster (count left)
  facts-struck =
      let g = tally-facts t y r in
      strike-facts y.n y.roster (listed-once t y r) (λ h. h.established) (λ h. h.lease) (λ h. h.age) (λ h. not (m h)) y.holdings left
      (λ p. count-keep (λ h. not (m h)) y.holdings p) g
      (omega (arith, g.leases, count-striking m y.holdings (λ h. not (valid_lease h))))
      (omega (arith, g.ages, count-striking m y.holdings (λ h. not (live h))))

  pub one-struck : Related (with_slot t i free) (with_holdings y left)
  one-struck =
      related-next t (with_slot t i free) y (with_holdings y left) r (length-set t.slots i free) refl
      (record {
        cycle = r.cycle;
        place = r.place;
        running = r.running;
        place_less = r.sound.place;
        n = refl;
        roster = refl;
        entries = entries-struck;
        facts = facts-struck;
        fits = fits-with-slot t i free r.fits tt;
      })
