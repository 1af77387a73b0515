-- What does not see an age is the same at any running count as at 0. Assumes nothing.
use Prim.Native.Nat.{ℕ, zero, suc, ◌%◌, ◌^◌}
use mathlib.Core.Path.{◌≡◌, refl, ◌∙◌}
use mathlib.Core.Bool.{Bool, not}
use mathlib.Core.List.{List, [], ◌∷◌}
use Rattle.model.specs.Lists.{count, any, every, no_two, index_of}
use Rattle.model.specs.Table.{Line, Entry, Slot, free, held}
use Rattle.model.specs.Rules.{Holding, holding, entries_of, held_by, numbered, Counts, reserve, full, fresh_number}
use Rattle.model.specs.Sound.{same_number, same_question}
use Rattle.model.specs.Serve.{has}
use Rattle.layout.specs.Shape.{slots_to}
use Rattle.layout.specs.Held.{held_to, within}

module _ (r : ℕ) where
  -- a test of one holding
  module _ (p : Holding → Bool) (ageless : (e : Entry) → p (holding r e) ≡ p (holding 0 e)) where
    pub count-ageless : (s : List Slot) → count (entries_of r s) p ≡ count (entries_of 0 s) p
    unfolding entries_of
    count-ageless [] = refl
    count-ageless (free ∷ s) = count-ageless s
    count-ageless (held e ∷ s) = rw (ageless e, count-ageless s)

    pub every-ageless : (s : List Slot) → every p (entries_of r s) ≡ every p (entries_of 0 s)
    unfolding entries_of every
    every-ageless [] = refl
    every-ageless (free ∷ s) = every-ageless s
    every-ageless (held e ∷ s) = rw (ageless e, every-ageless s)

    has-ageless : (x : Slot) → has r p x ≡ has 0 p x
    unfolding has
    has-ageless free = refl
    has-ageless (held e) = ageless e

    pub index-ageless : (s : List Slot) → index_of (has r p) s ≡ index_of (has 0 p) s
    unfolding index_of
    index-ageless [] = refl
    index-ageless (x ∷ s) = rw (has-ageless x, index-ageless s)

  -- of two
  pub two-ageless : (q : Holding → Holding → Bool) → ((e f : Entry) → q (holding r e) (holding r f) ≡ q (holding 0 e) (holding 0 f))
      → (s : List Slot) → no_two q (entries_of r s) ≡ no_two q (entries_of 0 s)
  unfolding entries_of no_two every
  two-ageless q ageless [] = refl
  two-ageless q ageless (free ∷ s) = two-ageless q ageless s
  two-ageless q ageless (held e ∷ s) = rw (other s, two-ageless q ageless s)
    where
      other : (s : List Slot) → every (λ x. not (q (holding r e) x)) (entries_of r s) ≡ every (λ x. not (q (holding 0 e) x)) (entries_of 0 s)
      other [] = refl
      other (free ∷ s) = other s
      other (held f ∷ s) = rw (ageless e f, other s)

-- COUNTS BY ADDRESS, or by number, that agree

module _ (c d : Counts) where
  pub reserve-ext : (ls : List Line) → ((a : ℕ) → c (held_by a) ≡ d (held_by a)) → reserve ls c ≡ reserve ls d
  unfolding reserve
  reserve-ext [] h = refl
  reserve-ext (l ∷ ls) h = rw (h l.address, reserve-ext ls h)

  pub full-ext : (n : ℕ) (ls : List Line) (a : ℕ) → ((x : ℕ) → c (held_by x) ≡ d (held_by x)) → c any ≡ d any → full n ls c a ≡ full n ls d a
  unfolding full
  full-ext n ls a h e = rw (h a, e, reserve-ext ls h)

  pub fresh-ext : (k r : ℕ) → ((x : ℕ) → c (numbered x) ≡ d (numbered x)) → fresh_number k c r ≡ fresh_number k d r
  unfolding fresh_number
  fresh-ext zero r h = refl
  fresh-ext (suc k) r h = rw (h (r % 2 ^ 64), fresh-ext k (suc r) h)

-- OF THE HOLDINGS in a slots' part

module _ (r : ℕ) (b : List ℕ) (n : ℕ) where
  pub held-count : (p : Holding → Bool) → ((e : Entry) → p (holding r e) ≡ p (holding 0 e)) → count (held_to r b n) p ≡ count (held_to 0 b n) p
  unfolding held_to
  held-count p h = count-ageless r p h (slots_to b n)

  pub held-numbers : no_two same_number (held_to r b n) ≡ no_two same_number (held_to 0 b n)
  unfolding held_to
  held-numbers = two-ageless r same_number (λ e f. refl) (slots_to b n)

  pub held-questions : no_two same_question (held_to r b n) ≡ no_two same_question (held_to 0 b n)
  unfolding held_to
  held-questions = two-ageless r same_question (λ e f. refl) (slots_to b n)

  pub held-reserve : (ls : List Line) → reserve ls (count (held_to r b n)) ≡ reserve ls (count (held_to 0 b n))
  held-reserve ls = reserve-ext (count (held_to r b n)) (count (held_to 0 b n)) ls (λ a. held-count (held_by a) (λ e. refl))

  pub held-full : (k : ℕ) (ls : List Line) (a : ℕ) → full k ls (count (held_to r b n)) a ≡ full k ls (count (held_to 0 b n)) a
  held-full k ls a = full-ext (count (held_to r b n)) (count (held_to 0 b n)) k ls a (λ x. held-count (held_by x) (λ e. refl)) (held-count any (λ e. refl))

  pub held-fresh : (k x : ℕ) → fresh_number k (count (held_to r b n)) x ≡ fresh_number k (count (held_to 0 b n)) x
  held-fresh k x = fresh-ext (count (held_to r b n)) (count (held_to 0 b n)) k x (λ y. held-count (numbered y) (λ e. refl))

  within-ext : (ls : List Line) (hs ks : List Holding) → ((a : ℕ) → count hs (held_by a) ≡ count ks (held_by a)) → (l : List Holding) → every (within ls hs) l ≡ every (within ls ks) l
  unfolding every
  within-ext ls hs ks h [] = refl
  within-ext ls hs ks h (x ∷ l) = rw (h x.address, within-ext ls hs ks h l)

  pub held-within : (ls : List Line) → every (within ls (held_to r b n)) (held_to r b n) ≡ every (within ls (held_to 0 b n)) (held_to 0 b n)
  unfolding held_to
  held-within ls =
      within-ext ls (held_to r b n) (held_to 0 b n) (λ a. held-count (held_by a) (λ e. refl)) (held_to r b n) ∙ every-ageless r (within ls (held_to 0 b n)) (λ e. refl) (slots_to b n)
