-- A test that at most one holding passes: the table's first match is the tally's only one; changing or striking it is alike in both. Assumes nothing.
use Prim.Native.Nat.{ℕ, zero, suc, ◌+◌, ◌≤◌, ◌<◌}
use native.Mathlib.Omega.{arith}
use mathlib.Core.Path.{◌≡◌, refl, sym, ap, ◌∙◌, subst, fun_ext}
use mathlib.Core.Bool.{Bool, true, false, not, cond, ◌&&◌, and_self}
use mathlib.Core.List.{List, [], ◌∷◌, map}
use mathlib.Core.Logic.{◌⊎◌, inl, inr}
use lib.ListN.{length, get_or}
use lib.Dec.{eqb}
use borrow.Author.Tests.{eqb-true, eq-eqb, not-false}
use Rattle.model.specs.Lists.{bit, count, keep}
use Rattle.model.specs.Table.{Entry, Slot, free, held, Table}
use Rattle.model.specs.Rules.{Holding, holding, holdings}
use Rattle.model.specs.Serve.{has, find_entry, slot_of}
use Rattle.model.proofs.ListLaws.{bit-zero, and_left, count-ext, count-keep, count-split, count_at, count-mono}
use Rattle.model.proofs.HoldingLaws.{count_entries, bit-held, holds_has, found_in, found-passes, found_none}

-- THE ONE MATCH OF A LIST

module _ {A : Type 0} (m : A → Bool) where
  -- those that pass both tests, where one passes the first
  pub one_only : (l : List A) (i : ℕ) (d : A) (p : A → Bool) → count l m ≤ 1 → i < length l → m (get_or l i d) ≡ true
      → count l (λ x. m x && p x) ≡ bit (p (get_or l i d))
  one_only [] i d p h k t = absurd (omega arith)
  one_only (x ∷ l) zero d p h k t =
      omega (
        arith,
        ap bit t,
        ap (λ (b : Bool). bit (b && p x)) t,
        count-mono l (λ x. m x && p x) m (λ x s. and_left (m x) (p x) s),
      )
  one_only (x ∷ l) (suc i) d p h k t = go (m x) h (count_at l i d m (omega arith) t) (one_only l i d p (omega arith) (omega arith) t)
    where
      go : (b : Bool) → bit b + count l m ≤ 1 → 1 ≤ count l m → count l (λ x. m x && p x) ≡ bit (p (get_or l i d))
          → bit (b && p x) + count l (λ x. m x && p x) ≡ bit (p (get_or l i d))
      go true h k e = absurd (omega arith)
      go false h k e = omega arith

  -- changing those that pass
  pub count-changing : (f : A → A) (l : List A) (p : A → Bool)
      → count (map (λ x. cond (m x) (f x) x) l) p + count l (λ x. m x && p x) ≡ count l p + count l (λ x. m x && p (f x))
  count-changing f [] p = refl
  count-changing f (x ∷ l) p = go (m x) (count-changing f l p)
    where
      go : (b : Bool)
          → count (map (λ x. cond (m x) (f x) x) l) p + count l (λ x. m x && p x) ≡ count l p + count l (λ x. m x && p (f x))
          → bit (p (cond b (f x) x)) + count (map (λ x. cond (m x) (f x) x) l) p + (bit (b && p x) + count l (λ x. m x && p x))
          ≡ bit (p x) + count l p + (bit (b && p (f x)) + count l (λ x. m x && p (f x)))
      go true e = omega arith
      go false e = omega arith

  -- striking those that pass
  pub count-striking : (l : List A) (p : A → Bool) → count (keep (λ x. not (m x)) l) p + count l (λ x. m x && p x) ≡ count l p
  count-striking l p = omega (arith, count-split m l p, count-keep m l p)

  -- keeping those that pass
  pub keep-none : (l : List A) → count l m ≡ 0 → keep m l ≡ []
  unfolding keep
  keep-none [] h = refl
  keep-none (x ∷ l) h = go (m x) h (keep-none l (omega arith))
    where
      go : (b : Bool) → bit b + count l m ≡ 0 → keep m l ≡ [] → cond b (x ∷ keep m l) (keep m l) ≡ []
      go true h e = absurd (omega arith)
      go false h e = e

  pub keep_some : (l : List A) → 1 ≤ count l m → (x : A) × ((r : List A) × (keep m l ≡ x ∷ r))
  keep_some l h = go (keep m l) refl
    where
      go : (k : List A) → keep m l ≡ k → (x : A) × ((r : List A) × (k ≡ x ∷ r))
      go [] e = absurd (omega (arith, count-split m l m, count-keep m l m, ap (λ (k : List A). count k m) e, count-ext l (λ x. m x && m x) m (λ x. and_self (m x))))
      go (x ∷ r) e = (x, (r, refl))

  -- the kept one agrees with the one match in every number that can be read off it
  pub kept_field : (l : List A) (x h : A) (r : List A) → ((p : A → Bool) → count l (λ x. m x && p x) ≡ bit (p x)) → keep m l ≡ h ∷ r → (f : A → ℕ)
      → f h ≡ f x
  kept_field l x h r e k f =
      eqb-true (f h) (f x)
      (not-false (eqb (f h) (f x))
      (bit-zero (not (eqb (f h) (f x)))
      (omega (
        arith,
        e (λ z. not (eqb (f z) (f x))),
        count-keep m l (λ z. not (eqb (f z) (f x))),
        ap (λ (n : List A). count n (λ z. not (eqb (f z) (f x)))) k,
        ap (λ (b : Bool). bit (not b)) (eq-eqb (f x) (f x) refl),
      ))))

-- FINDING

-- no entry passes
pub record Missing (p : Holding → Bool) (t : Table) (i : ℕ) : Type 0 where
  pub none : count (holdings t) p ≡ 0
  pub slot : slot_of t i ≡ free

-- slot i has an entry that passes
pub record Found (p : Holding → Bool) (t : Table) (i : ℕ) : Type 0 where
  pub place : i < length t.slots
  pub entry : Entry
  pub slot : slot_of t i ≡ held entry
  pub passes : p (holding t.clock.running entry) ≡ true

find-one : (p : Holding → Bool) (t : Table) → Missing p t (find_entry p t) ⊎ Found p t (find_entry p t)
find-one p t = go (slot_of t (find_entry p t)) refl
  where
    go : (s : Slot) → slot_of t (find_entry p t) ≡ s → Missing p t (find_entry p t) ⊎ Found p t (find_entry p t)
    go free h = inl (record { none = found_none p t h; slot = h })
    go (held e) h = inr (record { place = found_in p t e h; entry = e; slot = h; passes = found-passes p t e h })

-- the place is found by a test p, and the same test in other words is m
pub find_cases : (p m : Holding → Bool) (t : Table) → ((h : Holding) → m h ≡ p h) → Missing m t (find_entry p t) ⊎ Found m t (find_entry p t)
find_cases p m t e =
    let q : p ≡ m = fun_ext (λ h. sym (e h)) in
    subst (λ (m : Holding → Bool). Missing m t (find_entry p t) ⊎ Found m t (find_entry p t)) q (find-one p t)

has_both : (r : ℕ) (m p : Holding → Bool) (s : Slot) → has r (λ h. m h && p h) s ≡ has r m s && has r p s
unfolding has
has_both r m p free = refl
has_both r m p (held e) = refl

-- the one match that was found
pub found-only : (m : Holding → Bool) (t : Table) (i : ℕ) (f : Found m t i) → count (holdings t) m ≤ 1 → (p : Holding → Bool)
    → count (holdings t) (λ h. m h && p h) ≡ bit (p (holding t.clock.running f.entry))
found-only m t i f h p =
    let r = t.clock.running in
    let c : count t.slots (has r m) ≤ 1 = rw (count_entries r t.slots m) at h in
    count_entries r t.slots (λ h. m h && p h)
    ∙ count-ext t.slots (has r (λ h. m h && p h)) (λ s. has r m s && has r p s) (λ s. has_both r m p s)
    ∙ one_only (has r m) t.slots i free (has r p) c f.place (holds_has r m (slot_of t i) f.entry f.slot f.passes)
    ∙ bit-held r p (slot_of t i) f.entry f.slot
