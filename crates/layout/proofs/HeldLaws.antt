-- One slot more: what a turn of a loop over the slots adds to each fold of the holdings. Assumes nothing.
use Prim.Native.Nat.{ℕ, zero, suc, ◌+◌, ◌*◌, ◌≤◌, ◌<◌}
use native.Mathlib.Nat.{eq-or-lt_of_le}
use native.Mathlib.Numerals.{add-one}
use native.Mathlib.Omega.{arith}
use mathlib.Core.Path.{◌≡◌, refl, sym, ap, ◌∙◌}
use mathlib.Core.Bool.{Bool, true, false, not, cond, ◌&&◌, and-true, and-false}
use mathlib.Core.List.{List, [], ◌∷◌, ◌++◌, append-nil}
use mathlib.Core.Logic.{⊎_elim}
use lib.ListN.{get_or}
use Rattle.model.specs.Lists.{bit, count, every, no_two, up_to}
use Rattle.model.specs.Table.{free, held, read_entry, read_slot}
use Rattle.model.specs.Rules.{Holding, holding, entries_of}
use Rattle.model.proofs.ListLaws.{count-append, every-snoc, no_two-snoc}
use Rattle.model.proofs.HoldingLaws.{entries-append}
use Rattle.layout.specs.Shape.{in_use, slots_to}
use Rattle.layout.specs.Held.{holding_at, held_to, ok_at}

pub held_none : (r : ℕ) (b : List ℕ) → held_to r b 0 ≡ []
unfolding held_to entries_of up_to
held_none r b = refl

module _ (r : ℕ) (b : List ℕ) (i : ℕ) where
  pub held_next : held_to r b (i + 1) ≡ held_to r b i ++ cond (in_use (get_or b (320 * i) 0)) (holding_at r b (320 * i) ∷ []) []
  unfolding held_to up_to entries_of holding_at read_slot
  held_next = rw add-one (entries-append r (slots_to b i) (read_slot b (320 * i) ∷ []) ∙ ap (λ (z : List Holding). entries_of r (slots_to b i) ++ z) (go (in_use (get_or b (320 * i) 0))))
    where
      go : (v : Bool) → entries_of r (cond v (held (read_entry b (320 * i))) free ∷ []) ≡ cond v (holding r (read_entry b (320 * i)) ∷ []) []
      go true = refl
      go false = refl

  pub held-hit : in_use (get_or b (320 * i) 0) ≡ true → held_to r b (i + 1) ≡ held_to r b i ++ (holding_at r b (320 * i) ∷ [])
  held-hit h = held_next ∙ rw h

  pub held-miss : in_use (get_or b (320 * i) 0) ≡ false → held_to r b (i + 1) ≡ held_to r b i
  held-miss h = held_next ∙ (rw h (append-nil (held_to r b i)))

  -- counting
  module _ (p : Holding → Bool) where
    pub count_next : count (held_to r b (i + 1)) p ≡ count (held_to r b i) p + bit (in_use (get_or b (320 * i) 0) && p (holding_at r b (320 * i)))
    count_next = rw (held_next, count-append) (go (in_use (get_or b (320 * i) 0)))
      where
        go : (v : Bool) → count (held_to r b i) p + count (cond v (holding_at r b (320 * i) ∷ []) []) p ≡ count (held_to r b i) p + bit (v && p (holding_at r b (320 * i)))
        go true = omega arith
        go false = refl

    pub count-hit : (k : ℕ) → in_use (get_or b (320 * i) 0) && p (holding_at r b (320 * i)) ≡ true → k ≡ count (held_to r b i) p → k + 1 ≡ count (held_to r b (i + 1)) p
    count-hit k h e = rw (count_next, h, e)

    pub count-miss : (k : ℕ) → in_use (get_or b (320 * i) 0) && p (holding_at r b (320 * i)) ≡ false → k ≡ count (held_to r b i) p → k ≡ count (held_to r b (i + 1)) p
    count-miss k h e = rw (count_next, h, e) (omega arith)

    -- every
    pub every-next : every p (held_to r b (i + 1)) ≡ every p (held_to r b i) && ok_at r b p i
    every-next = go (in_use (get_or b (320 * i) 0)) refl
      where
        go : (v : Bool) → in_use (get_or b (320 * i) 0) ≡ v → every p (held_to r b (i + 1)) ≡ every p (held_to r b i) && cond v (p (holding_at r b (320 * i))) true
        go true e = ap (every p) (held-hit e) ∙ every-snoc p (held_to r b i) (holding_at r b (320 * i))
        go false e = ap (every p) (held-miss e) ∙ sym (and-true (every p (held_to r b i)))

    pub every-yes : ok_at r b p i ≡ true → every p (held_to r b i) ≡ true → every p (held_to r b (i + 1)) ≡ true
    every-yes h e = rw (every-next, e, h)

  -- no two
  module _ (q : Holding → Holding → Bool) where
    pub two-next : no_two q (held_to r b (i + 1)) ≡ no_two q (held_to r b i) && ok_at r b (λ k. every (λ h. not (q h k)) (held_to r b i)) i
    two-next = go (in_use (get_or b (320 * i) 0)) refl
      where
        go : (v : Bool) → in_use (get_or b (320 * i) 0) ≡ v → no_two q (held_to r b (i + 1)) ≡ no_two q (held_to r b i) && cond v (every (λ h. not (q h (holding_at r b (320 * i)))) (held_to r b i)) true
        go true e = ap (no_two q) (held-hit e) ∙ no_two-snoc q (held_to r b i) (holding_at r b (320 * i))
        go false e = ap (no_two q) (held-miss e) ∙ sym (and-true (no_two q (held_to r b i)))

    pub two-yes : ok_at r b (λ k. every (λ h. not (q h k)) (held_to r b i)) i ≡ true → no_two q (held_to r b i) ≡ true → no_two q (held_to r b (i + 1)) ≡ true
    two-yes h e = rw (two-next, e, h)

-- a fold that grows by tests is false from the first that fails
module _ (f : ℕ → Bool) (g : ℕ → Bool) (step : (i : ℕ) → f (i + 1) ≡ f i && g i) where
  pub grows-no : (n i : ℕ) → i < n → g i ≡ false → f n ≡ false
  grows-no zero i l h = absurd (omega arith)
  grows-no (suc n) i l h =
      ⊎_elim
      (λ (q : i ≡ n). rw (← add-one n, step n, ← q, h) (and-false (f i)))
      (λ (q : i < n). rw (← add-one n, step n, grows-no n i q h))
      (let q : i ≤ n = omega arith in eq-or-lt_of_le q)

module _ (r : ℕ) (b : List ℕ) (n i : ℕ) (l : i < n) where
  pub every-no : (p : Holding → Bool) → ok_at r b p i ≡ false → every p (held_to r b n) ≡ false
  every-no p h = grows-no (λ j. every p (held_to r b j)) (λ j. ok_at r b p j) (λ j. every-next r b j p) n i l h

  pub two-no : (q : Holding → Holding → Bool) → ok_at r b (λ k. every (λ h. not (q h k)) (held_to r b i)) i ≡ false → no_two q (held_to r b n) ≡ false
  two-no q h = grows-no (λ j. no_two q (held_to r b j)) (λ j. ok_at r b (λ k. every (λ h. not (q h k)) (held_to r b j)) j) (λ j. two-next r b j q) n i l h

-- MORE SLOTS

module _ (r : ℕ) (b : List ℕ) (p : Holding → Bool) where
  bit-most : (v : Bool) → bit v ≤ 1
  bit-most true = omega arith
  bit-most false = omega arith

  pub count_most : (n : ℕ) → count (held_to r b n) p ≤ n
  count_most zero = rw (held_none r b) (omega arith)
  count_most (suc n) =
      let e : count (held_to r b (suc n)) p ≡ count (held_to r b n) p + bit (in_use (get_or b (320 * n) 0) && p (holding_at r b (320 * n))) = rw add-one at (count_next r b n p) in
      omega (arith, count_most n, bit-most (in_use (get_or b (320 * n) 0) && p (holding_at r b (320 * n))))

  pub count-grows : (i n : ℕ) → i ≤ n → count (held_to r b i) p ≤ count (held_to r b n) p
  count-grows i zero l = let e : i ≡ 0 = omega arith in rw e (omega arith)
  count-grows i (suc n) l =
      let e : count (held_to r b (suc n)) p ≡ count (held_to r b n) p + bit (in_use (get_or b (320 * n) 0) && p (holding_at r b (320 * n))) = rw add-one at (count_next r b n p) in
      ⊎_elim (λ (w : i ≡ suc n). rw w (omega arith)) (λ (w : i < suc n). let m : i ≤ n = omega arith in omega (arith, count-grows i n m)) (eq-or-lt_of_le l)
