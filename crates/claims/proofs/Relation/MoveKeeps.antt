-- Moving the clock on keeps the table and the tally related, and what a call frees is what the table loses. Assumes nothing.
use Prim.Native.Nat.{ℕ, ◌+◌, ◌%◌, ◌^◌, ◌≤◌, ◌<◌}
use native.Mathlib.Omega.{arith}
use mathlib.Core.Path.{◌≡◌, refl, sym, ap, ◌∙◌}
use mathlib.Core.Bool.{Bool, not, cond, ◌&&◌, and-not_self}
use mathlib.Core.List.{List, map}
use Rattle.model.specs.Lists.{count, any, keep}
use Rattle.model.specs.Clock.{Clock, cycle_of, advance}
use Rattle.model.specs.Table.{Layout, Table, cycle_in}
use Rattle.model.specs.Rules.{Holding, holdings, entries_of}
use Rattle.model.specs.Sound.{valid_lease, live}
use Rattle.model.specs.Serve.{moved_on}
use Rattle.model.specs.Calls.{freed_by}
use Rattle.model.proofs.ListLaws.{and_right, count-keep, count_map, count-mono, every-all, every-not}
use Rattle.model.proofs.ClockLaws.{cycle-of, advance-place}
use Rattle.model.proofs.HoldingLaws.{count-free, count-freed}
use Rattle.model.proofs.StepLaws.{moved-layout, moved-clock, moved-roster, moved_length, moved-fits, moved-holdings, entries-older, young}
use Rattle.claims.specs.Tally.{Tally, keeps_place, passed, older, under_lease, move_tally}
use Rattle.claims.proofs.CycleLaws.{passed-most, advance-is}
use Rattle.claims.proofs.Relation.{Related}
use Rattle.claims.proofs.Relation.HoldingFacts.{HoldingFacts, tally-facts, listed-once, related-next, strike-facts}

module _ (t : Table) (y : Tally) (to : ℕ) (ht : to < cycle_in t) (r : Related t y) where
  abbrev d : ℕ
  d = passed y.cycle y.place to

  clock-is : advance (cycle_in t) t.clock to
      ≡ record { place = cond (keeps_place y.cycle y.place to) to y.place; running = (y.running + d) % 4294967296 }
  clock-is =
      advance-is (cycle_in t) (cycle-of t.layout.weeks).even t.clock to r.sound.place r.fits.running ht ∙ (rw (r.cycle, r.place, r.running))

  -- a step and the longest lease do not pass the count's range
  in_count : d + 7200 ≤ 2 ^ 32
  in_count = omega (arith, passed-most y.cycle y.place to, (cycle-of t.layout.weeks).room, r.cycle)

  -- the table's entries are d seconds older, and those that have run out are gone
  holdings-moved : holdings (moved_on t to) ≡ keep under_lease (map (older d) (holdings t))
  holdings-moved =
      moved-holdings t to
      ∙ ap (λ (x : ℕ). keep under_lease (entries_of x t.slots))
      (ap (λ (c : Clock). c.running) clock-is ∙ ap (λ (x : ℕ). (x + d) % 4294967296) (sym r.running))
      ∙ ap (keep under_lease)
      (entries-older t.clock.running d t.slots r.fits.running r.fits.slots (young t d in_count r.sound))

  count-older : (l : List Holding) (p : Holding → Bool)
      → count (keep under_lease (map (older d) l)) p ≡ count l (λ h. under_lease (older d h) && p (older d h))
  count-older l p = count-keep under_lease (map (older d) l) p ∙ count_map (older d) l (λ h. under_lease h && p h)

  entries-moved : (p : Holding → Bool) → count (holdings (moved_on t to)) p ≡ count (keep under_lease (map (older d) y.holdings)) p
  entries-moved p =
      ap (λ (l : List Holding). count l p) holdings-moved
      ∙ count-older (holdings t) p
      ∙ r.entries (λ h. under_lease (older d h) && p (older d h))
      ∙ sym (count-older y.holdings p)

  facts-moved : HoldingFacts y.n y.roster (count (keep under_lease (map (older d) y.holdings)))
  facts-moved =
      let l = y.holdings in
      let m = keep under_lease (map (older d) l) in
      let e = count-older l in
      let f = tally-facts t y r in
      strike-facts y.n y.roster (listed-once t y r) (λ h. h.established) (λ h. h.lease) (λ h. h.age + d) under_lease l m e f
      (omega (
        arith,
        e (λ h. not (valid_lease h)),
        f.leases,
        count-mono l (λ h. under_lease (older d h) && not (valid_lease h)) (λ h. not (valid_lease h)) (λ h t. and_right (under_lease (older d h)) (not (valid_lease h)) t),
      ))
      (e (λ h. not (live h))
      ∙ every-not (λ h. under_lease (older d h) && not (live (older d h))) l
      (every-all (λ h. not (under_lease (older d h) && not (live (older d h)))) l (λ h. ap not (and-not_self (live (older d h))))))

  pub move-keeps : Related (moved_on t to) (move_tally y to)
  unfolding move_tally
  move-keeps =
      related-next t (moved_on t to) y (move_tally y to) r (moved_length t to) (moved-roster t to)
      (record {
        cycle = ap (λ (l : Layout). cycle_of l.weeks) (moved-layout t to) ∙ r.cycle;
        place = ap (λ (c : Clock). c.place) (moved-clock t to ∙ clock-is);
        running = ap (λ (c : Clock). c.running) (moved-clock t to ∙ clock-is);
        place_less = rw (moved-clock t to, moved-layout t to) (advance-place (cycle_in t) t.clock to r.sound.place ht);
        n = refl;
        roster = refl;
        entries = entries-moved;
        facts = facts-moved;
        fits = moved-fits t to r.fits r.sound.place ht;
      })

-- WHAT A CALL FREES: entries before are those freed and those left
pub freed-count : (t : Table) (to : ℕ) → freed_by t to + count (holdings (moved_on t to)) any ≡ count (holdings t) any
unfolding freed_by moved_on
freed-count t to =
    let u = (advance (cycle_in t) t.clock to).running in
    omega (arith, count-freed u t.slots, count-free u t.slots, count-free t.clock.running t.slots)
