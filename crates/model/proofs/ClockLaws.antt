-- The clock: the step is the one number of its range that differs from the two places' difference by whole cycles; the moved clock; ages.
-- Assumes nothing.
use Prim.Native.Nat.{ℕ, zero, suc, ◌+◌, ◌-◌, ◌*◌, ◌/◌, ◌%◌, ◌^◌, ◌<◌, ◌≤◌}
use native.Mathlib.Nat.{suc-mul}
use native.Mathlib.Omega.{arith}
use mathlib.Core.Path.{◌≡◌, refl, sym, ◌∙◌}
use mathlib.Core.Bool.{Bool, true, false, not, cond}
use mathlib.Core.Logic.{◌⊎◌, inl, inr, ⊎_elim}
use lib.IntN.{ℤ, pos, negsuc, neg_ℤ, ◌+ℤ◌, ◌-ℤ◌, ◌*ℤ◌}
use lib.Signed.{◌≤ℤ◌, ◌<ℤ◌, lt_z, lt_z_yes, lt_z_no}
use lib.Dec.{T, ltb, leb, lit≤}
use borrow.Author.Tests.{leb-true, leb-false, ltb-true, ltb-false, lt-ltb, le-leb, lt-leb}
use Rattle.model.specs.Clock.{Clock, Weeks, ten_bit, thirteen_bit, weeks_in, cycle_of, brought, step, slack, moved, advance, age_at, place_of, valid_reading}
use Rattle.model.proofs.ListLaws.{and_left, and_right, either}
use Rattle.model.proofs.Integers.{Diff, diff-pos, diff-move, diff-neg, diff-add, diff-minus, diff-mul, up, down, diff-of, diff-eq, diff-lt, diff-le, lt-diff, le-diff}

-- A CYCLE of c seconds is even, so that its two halves make it up. Every law of the step speaks of any such c; the two widths of the week are
-- two instances.

-- a clock's cycle: even, and one that no age passes in one step: half of it and the longest lease are together at most 2^32
pub record Cycle (c : ℕ) : Type 0 where
  pub even : c / 2 + c / 2 ≡ c
  pub room : c / 2 + 7200 ≤ 2 ^ 32

pub cycle-of : (w : Weeks) → Cycle (cycle_of w)
cycle-of ten_bit = record { even = refl; room = lit≤ tt }
cycle-of thirteen_bit = record { even = refl; room = lit≤ tt }

-- THE STEP IN NATURALS

-- how far ahead of `from` the place `to` lies, going forward: 0 to c − 1
abbrev pub ahead : ℕ → ℕ → ℕ → ℕ
ahead c from to = cond (leb from to) (to - from) (to + (c - from))

-- a distance ahead: itself below half a cycle, and a cycle less from there
abbrev pub nearest : ℕ → ℕ → ℤ
nearest c a = cond (ltb a (c / 2)) (pos a) (pos a -ℤ pos c)

abbrev pub step_natural : ℕ → ℕ → ℕ → ℤ
step_natural c from to = nearest c (ahead c from to)

-- z is `to` − `from` and k cycles
abbrev pub Cycles : ℕ → ℕ → ℕ → ℤ → ℤ → Type 0
Cycles c from to k z = z ≡ (pos to -ℤ pos from) +ℤ k *ℤ pos c

module _ (c : ℕ) (even : c / 2 + c / 2 ≡ c) where
  -- the distance ahead by an equation
  abbrev Apart : ℕ → ℕ → ℕ → Type 0
  Apart from to a = ((from ≤ to) × (a + from ≡ to)) ⊎ ((to < from) × (a + from ≡ to + c))

  apart-at : (from to : ℕ) → from < c → (t : Bool) → leb from to ≡ t → Apart from to (cond t (to - from) (to + (c - from)))
  apart-at from to hf true e = let l = leb-true from to e in inl (l, omega arith)
  apart-at from to hf false e = let l = leb-false from to e in inr (omega arith, omega arith)

  pub apart : (from to : ℕ) → from < c → Apart from to (ahead c from to)
  apart from to hf = apart-at from to hf (leb from to) refl

  pub ahead-most : (from to : ℕ) → from < c → to < c → ahead c from to < c
  ahead-most from to hf ht = ⊎_elim (λ h. omega (arith, h)) (λ h. omega (arith, h)) (apart from to hf)

  -- the same by differences
  abbrev Near : ℤ → ℕ → Type 0
  Near z a = ((a < c / 2) × Diff z a 0) ⊎ ((c / 2 ≤ a) × Diff z a c)

  near-at : (a : ℕ) (t : Bool) → ltb a (c / 2) ≡ t → Near (cond t (pos a) (pos a -ℤ pos c)) a
  near-at a true e = inl (ltb-true _ _ e, diff-pos a)
  near-at a false e = inr (ltb-false _ _ e, diff-minus a c)

  near-natural : (from to : ℕ) → Near (step_natural c from to) (ahead c from to)
  near-natural from to = near-at (ahead c from to) (ltb (ahead c from to) (c / 2)) refl

  low : Diff (neg_ℤ (pos (c / 2))) 0 (c / 2)
  low = diff-neg (diff-pos (c / 2))

  -- no cycle, one forward, or one back
  abbrev OneCycle : ℕ → ℕ → Type 0
  OneCycle u v = ((u ≡ 0) × (v ≡ 0)) ⊎ (((u ≡ c) × (v ≡ 0)) ⊎ ((u ≡ 0) × (v ≡ c)))

  -- a number of the range that differs from `to` − `from` by one cycle or none, by differences
  by-cycle : (from to : ℕ) → from < c → to < c → (z : ℤ) {u v : ℕ} → Diff z (to + u) (from + v) → OneCycle u v → from + v ≤ to + u + c / 2
      → to + u < from + v + c / 2 → z ≡ step_natural c from to
  by-cycle from to hf ht z {u} {v} d o l g =
      let n = near-natural from to in
      let a = apart from to hf in
      ⊎_elim (λ h. diff-eq d h.1 (same h a o)) (λ h. diff-eq d h.1 (less h a o)) n
    where
      same : {x : ℕ} {y : Type 0} → (x < c / 2) × y → Apart from to x → OneCycle u v → to + u + 0 ≡ x + (from + v)
      same h (inl a) (inl o) = omega (arith, h.0, a, o)
      same h (inl a) (inr (inl o)) = omega (arith, h.0, a, o)
      same h (inl a) (inr (inr o)) = omega (arith, h.0, a, o)
      same h (inr a) (inl o) = omega (arith, h.0, a, o)
      same h (inr a) (inr (inl o)) = omega (arith, h.0, a, o)
      same h (inr a) (inr (inr o)) = omega (arith, h.0, a, o)

      less : {x : ℕ} {y : Type 0} → (c / 2 ≤ x) × y → Apart from to x → OneCycle u v → to + u + c ≡ x + (from + v)
      less h (inl a) (inl o) = omega (arith, h.0, a, o)
      less h (inl a) (inr (inl o)) = omega (arith, h.0, a, o)
      less h (inl a) (inr (inr o)) = omega (arith, h.0, a, o)
      less h (inr a) (inl o) = omega (arith, h.0, a, o)
      less h (inr a) (inr (inl o)) = omega (arith, h.0, a, o)
      less h (inr a) (inr (inr o)) = omega (arith, h.0, a, o)

  true-T : {b : Bool} → b ≡ true → T b
  true-T e = rw e tt

  false-T : {b : Bool} → b ≡ false → T (not b)
  false-T e = rw e tt

  brought-at : (from to : ℕ) → from < c → to < c → (z : ℤ) → Diff z to from → (s t : Bool) → lt_z z (neg_ℤ (pos (c / 2))) ≡ s
      → lt_z z (pos (c / 2)) ≡ t → cond s (z +ℤ pos c) (cond t z (z -ℤ pos c)) ≡ step_natural c from to
  brought-at from to hf ht z d true t e f =
      let l = lt-diff (lt_z_yes (true-T e)) d low in
      let n : Diff (z +ℤ pos c) (to + c) (from + 0) = diff-add d (diff-pos c) in
      by-cycle from to hf ht _ n (inr (inl (refl, refl))) (omega arith) (omega arith)
  brought-at from to hf ht z d false true e f =
      let l = le-diff (lt_z_no (false-T e)) low d in
      let u = lt-diff (lt_z_yes (true-T f)) d (diff-pos (c / 2)) in
      let n : Diff z (to + 0) (from + 0) = diff-move d (omega arith) in
      by-cycle from to hf ht _ n (inl (refl, refl)) (omega arith) (omega arith)
  brought-at from to hf ht z d false false e f =
      let u = le-diff (lt_z_no (false-T f)) (diff-pos (c / 2)) d in
      let n : Diff (z -ℤ pos c) (to + 0) (from + c) = diff-add d (diff-neg (diff-pos c)) in
      by-cycle from to hf ht _ n (inr (inr (refl, refl))) (omega arith) (omega arith)

  pub step-natural : (from to : ℕ) → from < c → to < c → step c from to ≡ step_natural c from to
  unfolding step brought
  step-natural from to hf ht = brought-at from to hf ht (pos to -ℤ pos from) (diff-minus to from) _ _ refl refl

  -- WHAT THE STEP IS

  near : (from to : ℕ) → from < c → to < c → Near (step c from to) (ahead c from to)
  near from to hf ht = rw (step-natural from to hf ht) (near-natural from to)

  -- it lies in −c/2 to c/2 − 1
  pub in-range : (from to : ℕ) → from < c → to < c → (neg_ℤ (pos (c / 2)) ≤ℤ step c from to) × (step c from to <ℤ pos (c / 2))
  in-range from to hf ht =
      let m = ahead-most from to hf ht in
      ⊎_elim
      (λ h. (diff-le low h.1 (omega arith), diff-lt h.1 (diff-pos (c / 2)) (omega arith)))
      (λ h. (diff-le low h.1 (omega arith), diff-lt h.1 (diff-pos (c / 2)) (omega arith)))
      (near from to hf ht)

  cycles-diff : (from to : ℕ) (k : ℤ) → Diff ((pos to -ℤ pos from) +ℤ k *ℤ pos c) (to + up k * c) (from + down k * c)
  cycles-diff from to k = diff-add (diff-minus to from) (diff-mul c (diff-of k))

  -- it differs from `to` − `from` by whole cycles
  pub whole-cycles : (from to : ℕ) → from < c → to < c → (k : ℤ) × Cycles c from to k (step c from to)
  whole-cycles from to hf ht = go (near from to hf ht) (apart from to hf)
    where
      go : {a : ℕ} → Near (step c from to) a → Apart from to a → (k : ℤ) × Cycles c from to k (step c from to)
      go (inl h) (inl a) = (pos 0, diff-eq h.1 (cycles-diff from to (pos 0)) (omega (arith, a)))
      go (inl h) (inr a) = (pos 1, diff-eq h.1 (cycles-diff from to (pos 1)) (omega (arith, a)))
      go (inr h) (inl a) = (negsuc 0, diff-eq h.1 (cycles-diff from to (negsuc 0)) (omega (arith, a)))
      go (inr h) (inr a) = (pos 0, diff-eq h.1 (cycles-diff from to (pos 0)) (omega (arith, a)))

  -- and it is the only such number: two cycles or more lead out of the range
  pub only_one : (from to : ℕ) → from < c → to < c → (z k : ℤ) → Cycles c from to k z → neg_ℤ (pos (c / 2)) ≤ℤ z → z <ℤ pos (c / 2)
      → z ≡ step c from to
  only_one from to hf ht z k e lo hi = is k (rw e (cycles-diff from to k)) ∙ sym (step-natural from to hf ht)
    where
      is : (k : ℤ) → Diff z (to + up k * c) (from + down k * c) → z ≡ step_natural c from to
      is (pos zero) d =
          by-cycle from to hf ht z (diff-move d (omega arith)) (inl (refl, refl)) (omega (arith, le-diff lo low d)) (omega (arith, lt-diff hi d (diff-pos (c / 2))))
      is (pos (suc zero)) d =
          by-cycle from to hf ht z (diff-move d (omega arith)) (inr (inl (refl, refl))) (omega (arith, le-diff lo low d)) (omega (arith, lt-diff hi d (diff-pos (c / 2))))
      is (pos (suc (suc m))) d =
          let m2 : suc (suc m) * c ≡ m * c + c + c = rw (suc-mul, suc-mul) in
          absurd (omega (arith, lt-diff hi d (diff-pos (c / 2))))
      is (negsuc zero) d =
          by-cycle from to hf ht z (diff-move d (omega arith)) (inr (inr (refl, refl))) (omega (arith, le-diff lo low d)) (omega (arith, lt-diff hi d (diff-pos (c / 2))))
      is (negsuc (suc m)) d =
          let m2 : suc (suc m) * c ≡ m * c + c + c = rw (suc-mul, suc-mul) in
          absurd (omega (arith, le-diff lo low d))

  -- a step forward is the distance ahead, below half a cycle; from there on it is a step back
  pub forward-step : (from to : ℕ) → from < c → to < c → ahead c from to < c / 2 → step c from to ≡ pos (ahead c from to)
  forward-step from to hf ht h = step-natural from to hf ht ∙ (rw (lt-ltb _ _ h))

  pub backward-step : (from to : ℕ) → from < c → to < c → c / 2 ≤ ahead c from to → step c from to ≡ negsuc (c - 1 - ahead c from to)
  backward-step from to hf ht h =
      let m = ahead-most from to hf ht in
      let back : Diff (negsuc (c - 1 - ahead c from to)) (ahead c from to) c = record { is = omega arith } in
      ⊎_elim (λ n. absurd (omega (arith, n.0))) (λ n. diff-eq n.1 back refl) (near from to hf ht)

-- THE MOVED CLOCK

pub placed : (w : Weeks) (week second : ℕ) → valid_reading w week second ≡ true → place_of week second < cycle_of w
placed w week second h =
    let a = ltb-true week (weeks_in w) (and_left (ltb week (weeks_in w)) (ltb second 604800) h) in
    let b = ltb-true second 604800 (and_right (ltb week (weeks_in w)) (ltb second 604800) h) in
    omega arith

-- a step of 0 or more is added to the count, and the place is kept; one back of 60 seconds or less changes nothing, a larger one keeps the new place
pub advance-on : (c : ℕ) (k : Clock) (to n : ℕ) → step c k.place to ≡ pos n → advance c k to ≡ record { place = to; running = (k.running + n) % 2 ^ 32 }
unfolding advance
advance-on c k to n e = rw e

pub advance-back : (c : ℕ) (k : Clock) (to n : ℕ) → step c k.place to ≡ negsuc n → n + 1 ≤ slack → advance c k to ≡ k
unfolding advance
advance-back c k to n e h = rw (e, le-leb (n + 1) slack h)

pub advance-set-back : (c : ℕ) (k : Clock) (to n : ℕ) → step c k.place to ≡ negsuc n → slack < n + 1 → advance c k to ≡ record { place = to; running = k.running }
unfolding advance
advance-set-back c k to n e h = rw (e, lt-leb (n + 1) slack h)

pub moved-place : {c : ℕ} (k : Clock) (to : ℕ) (z : ℤ) → k.place < c → to < c → (moved k to z).place < c
moved-place k to (pos n) hk ht = ht
moved-place {c} k to (negsuc n) hk ht = either (λ (x : Clock). x.place < c) (leb (n + 1) slack) hk ht

pub moved-running : (c : Clock) (to : ℕ) (z : ℤ) → c.running < 2 ^ 32 → (moved c to z).running < 2 ^ 32
moved-running c to (pos n) h = omega arith
moved-running c to (negsuc n) h = either (λ (k : Clock). k.running < 2 ^ 32) (leb (n + 1) slack) h h

-- place and count stay in range
pub advance-place : (c : ℕ) (k : Clock) (to : ℕ) → k.place < c → to < c → (advance c k to).place < c
unfolding advance
advance-place c k to hk ht = moved-place k to (step c k.place to) hk ht

pub advance-running : (c : ℕ) (k : Clock) (to : ℕ) → k.running < 2 ^ 32 → (advance c k to).running < 2 ^ 32
unfolding advance
advance-running c k to h = moved-running k to (step c k.place to) h

-- AGES

-- as the count goes on by d, an age does too
pub ages : (running stamp d : ℕ) → running < 2 ^ 32 → stamp < 2 ^ 32 → age_at running stamp + d < 2 ^ 32
    → age_at ((running + d) % 2 ^ 32) stamp ≡ age_at running stamp + d
ages running stamp d hr hs h = omega arith

-- a stamp of now has age 0
pub fresh-age : (running : ℕ) → age_at running running ≡ 0
fresh-age running = omega arith
