-- The entries of the slots: how many pass a test, what a slot written over, freed or aged does to that, and the first entry that passes.
-- Assumes nothing.
use Prim.Native.Nat.{ℕ, ◌+◌, ◌-◌, ◌≤◌, ◌<◌}
use native.Mathlib.Nat.{eq-or-lt_of_le}
use native.Mathlib.Omega.{arith}
use mathlib.Core.Path.{◌≡◌, refl, sym, ap, ◌∙◌}
use mathlib.Core.Bool.{Bool, true, false, not, cond, ◌&&◌}
use mathlib.Core.List.{List, [], ◌∷◌, ◌++◌, map}
use mathlib.Core.Logic.{⊎_elim}
use lib.ListN.{length, get_or, set}
use lib.Dec.{eqb, leb, ltb}
use borrow.Author.Tests.{eqb-true, leb-true, leb-false, lt-ltb, le-ltb, ltb-true, ltb-false}
use Rattle.model.specs.Lists.{bit, count, any, keep, index_of}
use Rattle.model.specs.Clock.{age_at}
use Rattle.model.specs.Table.{Line, Entry, Slot, free, held, Table}
use Rattle.model.specs.Rules.{Holding, holding, entries_of, holdings, Counts, held_by, share_of, limit_of, reserve, full}
use Rattle.model.specs.Sound.{live, Sound}
use Rattle.model.specs.Serve.{slot_run_out, free_if_run_out, is_free, has, find_entry, slot_of}
use Rattle.model.proofs.ListLaws.{never, or_right, count_set, count-any, count_at, get_or-past, index-le, index-hit, index-none, index-some, one_place}

-- FREE AND HELD

pub not-held : {X : Type 0} (e : Entry) → free ≡ held e → X
not-held e q = never {b = is_free (held e)} (sym (ap is_free q)) refl

entry-or : Entry → Slot → Entry
entry-or d free = d
entry-or d (held e) = e

pub held-inj : (e f : Entry) → held e ≡ held f → e ≡ f
unfolding entry-or
held-inj e f q = ap (entry-or e) q

-- a slot with an entry is one of the slots
pub held_in_lem : (s : List Slot) (i : ℕ) (e : Entry) → get_or s i free ≡ held e → i < length s
held_in_lem s i e q = go (ltb i (length s)) refl
  where
    go : (v : Bool) → ltb i (length s) ≡ v → i < length s
    go true h = ltb-true i (length s) h
    go false h = not-held e (sym (get_or-past s i free (ltb-false i (length s) h)) ∙ q)

-- HOW MANY

module _ (r : ℕ) where
  pub count_entries : (s : List Slot) (p : Holding → Bool) → count (entries_of r s) p ≡ count s (has r p)
  unfolding entries_of has
  count_entries [] p = refl
  count_entries (free ∷ s) p = omega (arith, count_entries s p)
  count_entries (held e ∷ s) p = ap (λ (z : ℕ). bit (p (holding r e)) + z) (count_entries s p)

  -- entries and free slots are all slots
  pub count-free : (s : List Slot) → count (entries_of r s) any + count s is_free ≡ length s
  unfolding entries_of
  count-free [] = refl
  count-free (free ∷ s) = omega (arith, count-free s)
  count-free (held e ∷ s) = omega (arith, count-free s)

  pub entries-le : (s : List Slot) → length (entries_of r s) ≤ length s
  entries-le s = omega (arith, count-free s, count-any (entries_of r s))

  -- one slot more
  pub entries-append : (s u : List Slot) → entries_of r (s ++ u) ≡ entries_of r s ++ entries_of r u
  unfolding entries_of
  entries-append [] u = refl
  entries-append (free ∷ s) u = entries-append s u
  entries-append (held e ∷ s) u = ap {B = List Holding} (λ z. holding r e ∷ z) (entries-append s u)

  -- A SLOT WRITTEN OVER

  pub count-written : (s : List Slot) (i : ℕ) (x : Slot) (p : Holding → Bool) → i < length s
      → count (entries_of r (set s i x)) p + bit (has r p (get_or s i free)) ≡ count (entries_of r s) p + bit (has r p x)
  count-written s i x p h = rw (count_entries (set s i x) p, count_entries s p) (count_set s i x free (has r p) h)

  bit-free : (p : Holding → Bool) (s : Slot) → s ≡ free → bit (has r p s) ≡ 0
  unfolding has
  bit-free p s q = rw q

  pub bit-held : (p : Holding → Bool) (s : Slot) (e : Entry) → s ≡ held e → bit (has r p s) ≡ bit (p (holding r e))
  unfolding has
  bit-held p s e q = rw q

  -- a free slot gets an entry
  pub count-granted : (s : List Slot) (i : ℕ) (e : Entry) (p : Holding → Bool) → i < length s → get_or s i free ≡ free
      → count (entries_of r (set s i (held e))) p ≡ count (entries_of r s) p + bit (p (holding r e))
  count-granted s i e p h q =
      omega (arith, count-written s i (held e) p h, bit-free p (get_or s i free) q, bit-held p (held e) e refl)

  -- an entry ends
  pub count-ended : (s : List Slot) (i : ℕ) (e : Entry) (p : Holding → Bool) → i < length s → get_or s i free ≡ held e
      → count (entries_of r (set s i free)) p + bit (p (holding r e)) ≡ count (entries_of r s) p
  count-ended s i e p h q = omega (arith, count-written s i free p h, bit-held p (get_or s i free) e q, bit-free p free refl)

  -- an entry changes
  pub count-changed : (s : List Slot) (i : ℕ) (e f : Entry) (p : Holding → Bool) → i < length s → get_or s i free ≡ held e
      → count (entries_of r (set s i (held f))) p + bit (p (holding r e)) ≡ count (entries_of r s) p + bit (p (holding r f))
  count-changed s i e f p h q =
      omega (arith, count-written s i (held f) p h, bit-held p (get_or s i free) e q, bit-held p (held f) f refl)

  -- RUN-OUT ENTRIES FREED: the others stay, in order
  pub entries-freed : (s : List Slot) → entries_of r (map (free_if_run_out r) s) ≡ keep live (entries_of r s)
  unfolding entries_of slot_run_out keep
  entries-freed [] = refl
  entries-freed (free ∷ s) = entries-freed s
  entries-freed (held e ∷ s) = go (leb e.lease (age_at r e.stamp)) refl (entries-freed s)
    where
      go : (v : Bool) → leb e.lease (age_at r e.stamp) ≡ v → entries_of r (map (free_if_run_out r) s) ≡ keep live (entries_of r s)
          → entries_of r (cond v free (held e) ∷ map (free_if_run_out r) s)
          ≡ cond (ltb (age_at r e.stamp) e.lease) (holding r e ∷ keep live (entries_of r s)) (keep live (entries_of r s))
      go true t i = rw (le-ltb (age_at r e.stamp) e.lease (leb-true e.lease (age_at r e.stamp) t)) i
      go false t i =
          rw (lt-ltb (age_at r e.stamp) e.lease (leb-false e.lease (age_at r e.stamp) t)) (ap {B = List Holding} (λ z. holding r e ∷ z) i)

  -- those freed are the entries before less those after
  pub count-freed : (s : List Slot) → count s (slot_run_out r) + count (entries_of r (map (free_if_run_out r) s)) any ≡ count (entries_of r s) any
  unfolding entries_of slot_run_out
  count-freed [] = refl
  count-freed (free ∷ s) = omega (arith, count-freed s)
  count-freed (held e ∷ s) = go (leb e.lease (age_at r e.stamp)) (count-freed s)
    where
      go : (v : Bool) → count s (slot_run_out r) + count (entries_of r (map (free_if_run_out r) s)) any ≡ count (entries_of r s) any
          → bit v + count s (slot_run_out r) + count (entries_of r (cond v free (held e) ∷ map (free_if_run_out r) s)) any ≡ 1 + count (entries_of r s) any
      go true i = omega arith
      go false i = omega arith

  -- A SLOT WITH AN ENTRY that passes
  pub record Holds (p : Holding → Bool) (s : Slot) : Type 0 where
    pub entry : Entry
    pub slot : s ≡ held entry
    pub passes : p (holding r entry) ≡ true

  pub has-holds : (p : Holding → Bool) (s : Slot) → has r p s ≡ true → Holds p s
  unfolding has
  has-holds p free h = never h refl
  has-holds p (held e) h = record { entry = e; slot = refl; passes = h }

  pub holds_has : (p : Holding → Bool) (s : Slot) (e : Entry) → s ≡ held e → p (holding r e) ≡ true → has r p s ≡ true
  unfolding has
  holds_has p s e q h = rw q h

  -- an entry of the slots counts
  pub count_held : (s : List Slot) (i : ℕ) (e : Entry) (p : Holding → Bool) → get_or s i free ≡ held e → p (holding r e) ≡ true
      → 1 ≤ count (entries_of r s) p
  count_held s i e p q h =
      rw (count_entries s p) (count_at s i free (has r p) (held_in_lem s i e q) (holds_has p (get_or s i free) e q h))

  -- a rule that no entry breaks is a rule of each
  pub held-obeys : (s : List Slot) (i : ℕ) (e : Entry) (p : Holding → Bool) → get_or s i free ≡ held e → count (entries_of r s) (λ h. not (p h)) ≡ 0
      → p (holding r e) ≡ true
  held-obeys s i e p q z = go (p (holding r e)) refl
    where
      go : (v : Bool) → p (holding r e) ≡ v → v ≡ true
      go true f = refl
      go false f = absurd (omega (arith, count_held s i e (λ h. not (p h)) q (ap not f)))

-- THE FIRST THAT PASSES, in the table

module _ (p : Holding → Bool) (t : Table) where
  pub find-le : find_entry p t ≤ length t.slots
  unfolding find_entry
  find-le = index-le (has t.clock.running p) t.slots

  pub found-entry : find_entry p t < length t.slots → Holds t.clock.running p (slot_of t (find_entry p t))
  unfolding find_entry
  found-entry h =
      has-holds t.clock.running p (get_or t.slots (index_of (has t.clock.running p) t.slots) free)
      (index-hit (has t.clock.running p) t.slots free h)

  -- the slot found has an entry: it is in the table, and passes
  pub found_in : (e : Entry) → slot_of t (find_entry p t) ≡ held e → find_entry p t < length t.slots
  found_in e q = held_in_lem t.slots (find_entry p t) e q

  pub found-passes : (e : Entry) → slot_of t (find_entry p t) ≡ held e → p (holding t.clock.running e) ≡ true
  found-passes e q =
      let f = found-entry (found_in e q) in
      let z : f.entry ≡ e = held-inj f.entry e (sym f.slot ∙ q) in
      ap (λ (x : Entry). p (holding t.clock.running x)) (sym z) ∙ f.passes

  -- the slot found is free: no entry passes
  pub past-none : find_entry p t ≡ length t.slots → count (holdings t) p ≡ 0
  unfolding find_entry
  past-none h = count_entries t.clock.running t.slots p ∙ index-none (has t.clock.running p) t.slots h

  pub found_none : slot_of t (find_entry p t) ≡ free → count (holdings t) p ≡ 0
  found_none q =
      ⊎_elim
      (λ (z : find_entry p t ≡ length t.slots). past-none z)
      (λ (z : find_entry p t < length t.slots). let f = found-entry z in not-held f.entry (sym q ∙ f.slot))
      (eq-or-lt_of_le find-le)

  -- at most one entry passes: it is found where it is
  pub found_at : (i : ℕ) (e : Entry) → count (holdings t) p ≤ 1 → slot_of t i ≡ held e → p (holding t.clock.running e) ≡ true → find_entry p t ≡ i
  found_at i e c q h =
      let r = t.clock.running in
      let s = t.slots in
      let c' : count s (has r p) ≤ 1 = rw (count_entries r s p) at c in
      let in_table : find_entry p t < length s =
      ⊎_elim
      (λ (z : find_entry p t ≡ length s). absurd (omega (arith, past-none z, count_held r s i e p q h)))
      (λ (z : find_entry p t < length s). z)
      (eq-or-lt_of_le find-le) in
      let f = found-entry in_table in
      one_place s (find_entry p t) i free (has r p) c' in_table (held_in_lem s i e q)
      (holds_has r p (slot_of t (find_entry p t)) f.entry f.slot f.passes)
      (holds_has r p (get_or s i free) e q h)

-- THE LOWEST FREE SLOT

is_free_lem : (s : Slot) → is_free s ≡ true → s ≡ free
is_free_lem free h = refl
is_free_lem (held e) h = never h refl

pub free-slot : (s : List Slot) → index_of is_free s < length s → get_or s (index_of is_free s) free ≡ free
free-slot s h = is_free_lem (get_or s (index_of is_free s) free) (index-hit is_free s free h)

-- where there are fewer entries than slots, there is one
pub free_in : (r : ℕ) (s : List Slot) → count (entries_of r s) any < length s → index_of is_free s < length s
free_in r s h = index-some is_free s (omega (arith, count-free r s))

-- an address below its share has some of the reserve
share-reserved : (ls : List Line) (c : Counts) (a : ℕ) → share_of ls a ≤ reserve ls c + c (held_by a)
unfolding share_of reserve
share-reserved [] c a = omega arith
share-reserved (l ∷ ls) c a = go (eqb l.address a) refl (share-reserved ls c a)
  where
    go : (v : Bool) → eqb l.address a ≡ v → share_of ls a ≤ reserve ls c + c (held_by a)
        → cond v l.share (share_of ls a) ≤ l.share - c (held_by l.address) + reserve ls c + c (held_by a)
    go true e h = let z : c (held_by l.address) ≡ c (held_by a) = ap (λ (x : ℕ). c (held_by x)) (eqb-true l.address a e) in omega arith
    go false e h = omega arith

-- of a sound table: an address that is not full finds one
pub room-left : (t : Table) (a : ℕ) → Sound t → full (length t.slots) t.roster (count (holdings t)) a ≡ false
    → count (holdings t) any < length t.slots
unfolding full
room-left t a x h = go (leb (share_of t.roster a) k) refl (or_right (leb (limit_of t.roster a) k) _ h)
  where
    c : Counts
    c = count (holdings t)

    n : ℕ
    n = length t.slots

    k : ℕ
    k = c (held_by a)

    go : (s : Bool) → leb (share_of t.roster a) k ≡ s → s && leb (n - c any) (reserve t.roster c) ≡ false → c any < n
    go true e f = omega (arith, leb-false (n - c any) (reserve t.roster c) f)
    go false e f = omega (arith, leb-false (share_of t.roster a) k e, share-reserved t.roster c a, x.reserved)
