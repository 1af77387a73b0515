-- The rules of a sound table, told line by line and slot by slot, are the model's. Assumes nothing.
use Prim.Native.Nat.{ℕ, suc, ◌+◌, ◌≤◌, ◌<◌}
use native.Mathlib.Omega.{arith}
use mathlib.Core.Path.{◌≡◌, refl, sym, ap, ◌∙◌}
use mathlib.Core.Bool.{Bool, true, false, not, cond, ◌&&◌}
use mathlib.Core.List.{List, [], ◌∷◌}
use lib.ListN.{length, get_or}
use lib.Dec.{eqb, leb}
use borrow.Author.Tests.{eqb-true, eqb-false, eq-eqb, ne_eqb, leb-true, le-leb, ltb-true, lt-ltb, not-true}
use Rattle.model.specs.Lists.{bit, count}
use Rattle.model.specs.Clock.{Weeks, ten_bit, thirteen_bit, cycle_of, age_at}
use Rattle.model.specs.Table.{Line, Entry, Slot, free, held, Table}
use Rattle.model.specs.Rules.{Holding, holding, holdings, entries_of, held_by, numbered, reserve, shares}
use Rattle.model.specs.Sound.{valid_line, non_zero_number, valid_lease, live, valid_name, same_question, Sound}
use Rattle.model.specs.Serve.{is_free, has}
use Rattle.model.proofs.ListLaws.{never, and_left, and_right, and_both, every-at, at_every, every-none, none-every, every-not, one_place}
use Rattle.model.proofs.HoldingLaws.{held_in_lem, count_entries, count-free, has-holds, holds_has, held-obeys}
use Rattle.model.proofs.RoundTrip.{no_line}
use Rattle.model.proofs.Facts.{agree, agreed}
use Rattle.claims.specs.Lengths.{cycle_with}
use Rattle.claims.specs.SoundRules.{LineRules, line_in, sum_of_shares, EntryRules, held_slots, free_slots, reserved_slots, InSlot, SoundRules, SoundExactly}
use Rattle.claims.proofs.Relation.TallyRules.{limit-of, short-of}
use Rattle.claims.proofs.StoredNames.{stored-names}

-- FEW, by index: where no two places pass a test, at most one does
module _ {A : Type 0} (p : A → Bool) (d : A) where
  none_pass : (l : List A) → ((i : ℕ) → i < length l → p (get_or l i d) ≡ true → ⊥) → count l p ≡ 0
  none_pass l h = every-not p l (at_every (λ x. not (p x)) l d (λ i m. go (p (get_or l i d)) refl (h i m)))
    where
      go : (v : Bool) {b : Bool} → b ≡ v → (b ≡ true → ⊥) → not b ≡ true
      go true e f = absurd (f e)
      go false e f = ap not e

  one_passes : (l : List A) → ((i j : ℕ) → i < j → j < length l → p (get_or l i d) ≡ true → p (get_or l j d) ≡ true → ⊥) → count l p ≤ 1
  one_passes [] h = omega arith
  one_passes (x ∷ l) h = go (p x) refl (one_passes l (λ i j a b. h (suc i) (suc j) (omega arith) (omega arith)))
    where
      go : (v : Bool) → p x ≡ v → count l p ≤ 1 → bit v + count l p ≤ 1
      go true e r = let z = none_pass l (λ i m t. h 0 (suc i) (omega arith) (omega arith) e t) in omega arith
      go false e r = omega arith

-- THE PLACES of a cycle
cycle-with : (w : Weeks) → cycle_with w ≡ cycle_of w
cycle-with ten_bit = refl
cycle-with thirteen_bit = refl

-- HOW MANY

held-slots : (r : ℕ) (s : List Slot) (a : ℕ) → held_slots s a ≡ count (entries_of r s) (held_by a)
unfolding held_slots entries_of
held-slots r [] a = refl
held-slots r (free ∷ s) a = held-slots r s a
held-slots r (held e ∷ s) a = go (eqb e.address a) (held-slots r s a)
  where
    go : (v : Bool) → held_slots s a ≡ count (entries_of r s) (held_by a) → cond v (1 + held_slots s a) (held_slots s a) ≡ bit v + count (entries_of r s) (held_by a)
    go true h = omega arith
    go false h = omega arith

free-slots : (s : List Slot) → free_slots s ≡ count s is_free
unfolding free_slots
free-slots [] = refl
free-slots (free ∷ s) = omega (arith, free-slots s)
free-slots (held e ∷ s) = omega (arith, free-slots s)

reserved-slots : (r : ℕ) (ls : List Line) (s : List Slot) → reserved_slots ls s ≡ reserve ls (count (entries_of r s))
unfolding reserved_slots reserve
reserved-slots r [] s = refl
reserved-slots r (l ∷ ls) s = omega (arith, short-of (held_slots s l.address) l.share, held-slots r s l.address, reserved-slots r ls s)

share-sum : (ls : List Line) → sum_of_shares ls ≡ shares ls
unfolding shares
share-sum [] = refl
share-sum (l ∷ ls) = ap (λ (k : ℕ). l.share + k) (share-sum ls)

-- ONE LINE

line-rules : (l : Line) → valid_line l ≡ true → LineRules l
line-rules l v =
    let a = leb l.share l.limit in
    let b = leb 1 l.limit in
    let c = leb l.limit 64 in
    let ab = and_left (a && b) c v in
    record {
      share = leb-true l.share l.limit (and_left a b ab);
      limit_min = leb-true 1 l.limit (and_right a b ab);
      limit_max = leb-true l.limit 64 (and_right (a && b) c v);
    }

rules-line : (l : Line) → LineRules l → valid_line l ≡ true
rules-line l r =
    let a = leb l.share l.limit in
    let b = leb 1 l.limit in
    let c = leb l.limit 64 in
    and_both (a && b) c (and_both a b (le-leb l.share l.limit r.share) (le-leb 1 l.limit r.limit_min)) (le-leb l.limit 64 r.limit_max)

module _ (t : Table) where
  r : ℕ
  r = t.clock.running

  -- FROM THE MODEL'S

  module _ (s : Sound t) where
    entry-rules : (j : ℕ) (e : Entry) → InSlot t j e → EntryRules t.clock.running e
    unfolding r
    entry-rules j e h =
        let obeys : (p : Holding → Bool) → count (holdings t) (λ x. not (p x)) ≡ 0 → p (holding r e) ≡ true = λ p. held-obeys r t.slots j e p h in
        let lease = obeys valid_lease s.leases in
        record {
          number = eqb-false e.number 0 (not-true (eqb e.number 0) (obeys non_zero_number s.non_zero));
          lease_min = leb-true 60 e.lease (and_left (leb 60 e.lease) (leb e.lease 7200) lease);
          lease_max = leb-true e.lease 7200 (and_right (leb 60 e.lease) (leb e.lease 7200) lease);
          age = ltb-true (age_at r e.stamp) e.lease (obeys live s.ages);
          name = (stored-names e.name).0 (obeys valid_name s.names);
        }

    -- a test that at most one entry passes
    one-slot : (p : Holding → Bool) → count (holdings t) p ≤ 1 → (i j : ℕ) (e f : Entry) → InSlot t i e → InSlot t j f → p (holding r e) ≡ true
        → p (holding r f) ≡ true → i ≡ j
    unfolding r
    one-slot p c i j e f h k a b =
        one_place t.slots i j free (has r p) (rw (count_entries r t.slots p) at c) (held_in_lem t.slots i e h) (held_in_lem t.slots j f k)
        (holds_has r p (get_or t.slots i free) e h a) (holds_has r p (get_or t.slots j free) f k b)

    to-rules : SoundRules t
    unfolding r
    to-rules =
        record {
          place = rw (cycle-with t.layout.weeks) s.place;
          slots_min = s.slots_min;
          slots_max = s.slots_max;
          lines_max = s.lines;
          lines = λ i l. line-rules (line_in t.roster i) (every-at valid_line t.roster i no_line (none-every valid_line t.roster s.valid_lines) l);
          listed_once = λ i j l m e.
              let a = (line_in t.roster j).address in
              omega (
                arith,
                one_place t.roster i j no_line (λ (l : Line). eqb l.address a) (s.listed_once a) (omega arith) m
                    (eq-eqb (line_in t.roster i).address a e) (eq-eqb a a refl),
              );
          shares = rw (share-sum t.roster) s.share_sum;
          entries = entry-rules;
          numbers = λ i j e f l h k z.
              omega (
                arith,
                one-slot (numbered f.number) (s.numbers f.number) i j e f h k (eq-eqb e.number f.number z)
                    (eq-eqb f.number f.number refl),
              );
          questions = λ i j e f l h k z.
              let x = holding r e in
              let y = holding r f in
              omega (
                arith,
                one-slot (same_question y) (s.questions y) i j e f h k
                    (agreed y x
                    (record {
                      address = sym z.address;
                      port = sym z.port;
                      qtype = sym z.qtype;
                      qclass = sym z.qclass;
                      name = sym z.name;
                    }))
                    (agreed y y (record { address = refl; port = refl; qtype = refl; qclass = refl; name = refl })),
              );
          limits = λ a. rw (held-slots r t.slots a, limit-of t.roster a) (s.limits a);
          reserved = omega (arith, reserved-slots r t.roster t.slots, free-slots t.slots, count-free r t.slots, s.reserved);
        }

  -- TO THE MODEL'S

  module _ (s : SoundRules t) where
    -- a rule of each entry is one that none breaks
    none-breaks : (p : Holding → Bool) → ((j : ℕ) (e : Entry) → InSlot t j e → p (holding r e) ≡ true) → count (holdings t) (λ h. not (p h)) ≡ 0
    unfolding r
    none-breaks p h =
        count_entries r t.slots (λ x. not (p x))
        ∙ none_pass (has r (λ x. not (p x))) free t.slots
        (λ i l z.
        let x = has-holds r (λ x. not (p x)) (get_or t.slots i free) z in
        never (h i x.entry x.slot) (not-true (p (holding r x.entry)) x.passes))

    -- a test that no two entries pass
    one_entry : (p : Holding → Bool)
        → ((i j : ℕ) (e f : Entry) → i < j → InSlot t i e → InSlot t j f → p (holding r e) ≡ true → p (holding r f) ≡ true → ⊥)
        → count (holdings t) p ≤ 1
    unfolding r
    one_entry p h =
        rw (count_entries r t.slots p)
        (one_passes (has r p) free t.slots
        (λ i j l m a b.
        let x = has-holds r p (get_or t.slots i free) a in
        let y = has-holds r p (get_or t.slots j free) b in
        h i j x.entry y.entry l x.slot y.slot x.passes y.passes))

    from-rules : Sound t
    unfolding r
    from-rules =
        record {
          place = rw (← cycle-with t.layout.weeks) s.place;
          slots_min = s.slots_min;
          slots_max = s.slots_max;
          lines = s.lines_max;
          listed_once = λ a.
              one_passes (λ (l : Line). eqb l.address a) no_line t.roster
              (λ i j l m x y.
              s.listed_once i j l m (eqb-true (line_in t.roster i).address a x ∙ sym (eqb-true (line_in t.roster j).address a y)));
          valid_lines = every-none valid_line t.roster (at_every valid_line t.roster no_line (λ i l. rules-line (line_in t.roster i) (s.lines i l)));
          share_sum = rw (← share-sum t.roster) s.shares;
          non_zero = none-breaks non_zero_number (λ j e h. ap not (ne_eqb e.number 0 (s.entries j e h).number));
          numbers = λ x.
              one_entry (numbered x)
              (λ i j e f l h k a b. s.numbers i j e f l h k (eqb-true e.number x a ∙ sym (eqb-true f.number x b)));
          leases = none-breaks valid_lease
              (λ j e h.
              let z = s.entries j e h in
              and_both (leb 60 e.lease) (leb e.lease 7200) (le-leb 60 e.lease z.lease_min) (le-leb e.lease 7200 z.lease_max));
          ages = none-breaks live (λ j e h. lt-ltb (age_at r e.stamp) e.lease (s.entries j e h).age);
          names = none-breaks valid_name (λ j e h. (stored-names e.name).1 (s.entries j e h).name);
          questions = λ k.
              one_entry (same_question k)
              (λ i j e f l h m a b.
              let x = agree k (holding r e) a in
              let y = agree k (holding r f) b in
              s.questions i j e f l h m
              (record {
                address = sym x.address ∙ y.address;
                port = sym x.port ∙ y.port;
                name = sym x.name ∙ y.name;
                qtype = sym x.qtype ∙ y.qtype;
                qclass = sym x.qclass ∙ y.qclass;
              }));
          limits = λ a. rw (← held-slots r t.slots a, ← limit-of t.roster a) (s.limits a);
          reserved = omega (arith, reserved-slots r t.roster t.slots, free-slots t.slots, count-free r t.slots, s.reserved);
        }

pub sound-exactly : SoundExactly
sound-exactly t = (to-rules t, from-rules t)
