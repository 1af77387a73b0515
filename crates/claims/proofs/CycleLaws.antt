-- The tally's seconds ahead and behind, around a cycle of any even number of seconds, and the model's step and moved clock. Assumes nothing.
use Prim.Native.Nat.{ℕ, ◌+◌, ◌-◌, ◌/◌, ◌%◌, ◌^◌, ◌≤◌, ◌<◌}
use native.Mathlib.Omega.{arith}
use mathlib.Core.Path.{◌≡◌, refl, sym, ap, ◌∙◌}
use mathlib.Core.Bool.{Bool, true, false, cond, ◌||◌}
use lib.IntN.{pos, negsuc}
use lib.Dec.{ltb}
use borrow.Author.Tests.{ltb-true, ltb-false, le-leb, lt-leb}
use Rattle.model.specs.Clock.{Clock, step, advance}
use Rattle.model.proofs.ClockLaws.{ahead as model-ahead, forward-step, backward-step, advance-on, advance-back, advance-set-back}
use Rattle.claims.specs.Tally.{ahead, forward, behind, keeps_place, passed}

-- a step adds at most half a cycle
pub passed-most : (c from to : ℕ) → passed c from to ≤ c / 2
passed-most c from to = go (forward c from to) refl
  where
    go : (v : Bool) → forward c from to ≡ v → cond v (ahead c from to) 0 ≤ c / 2
    go true e = let l = ltb-true (ahead c from to) (c / 2) e in omega arith
    go false e = omega arith

module _ (c : ℕ) where
  ahead-is : (from to : ℕ) → from < c → ahead c from to ≡ model-ahead c from to
  ahead-is from to hf = go (ltb to from) refl
    where
      go : (v : Bool) → ltb to from ≡ v → cond v (to + c - from) (to - from) ≡ model-ahead c from to
      go true e = rw (lt-leb from to (ltb-true to from e)) (omega arith)
      go false e = rw (le-leb from to (ltb-false to from e))

  -- ahead and behind make up the cycle
  pub around : (from to : ℕ) → from < c → to < c → 1 ≤ ahead c from to → ahead c from to + behind c from to ≡ c
  around from to hf ht = go (ltb to from) (ltb from to) refl refl
    where
      go : (u v : Bool) → ltb to from ≡ u → ltb from to ≡ v → 1 ≤ cond u (to + c - from) (to - from)
          → cond u (to + c - from) (to - from) + cond v (from + c - to) (from - to) ≡ c
      go true true d e l = absurd (omega (arith, ltb-true to from d, ltb-true from to e))
      go true false d e l = omega (arith, ltb-true to from d)
      go false true d e l = omega (arith, ltb-true from to e)
      go false false d e l = absurd (omega (arith, ltb-false from to e))

  module _ (even : c / 2 + c / 2 ≡ c) where
    pub forward-by : (from to : ℕ) → from < c → to < c → ahead c from to < c / 2 → step c from to ≡ pos (ahead c from to)
    forward-by from to hf ht l =
        let e = ahead-is from to hf in forward-step c even from to hf ht (omega (arith, e, l)) ∙ ap pos (sym e)

    pub backward-by : (from to : ℕ) → from < c → to < c → c / 2 ≤ ahead c from to → step c from to ≡ negsuc (behind c from to - 1)
    backward-by from to hf ht l =
        let e = ahead-is from to hf in
        let a = around from to hf ht (omega arith) in
        backward-step c even from to hf ht (omega (arith, e, l)) ∙ ap negsuc (omega (arith, e, a))

    -- the model's clock k moved, by the tally's rule
    abbrev moved_clock : Clock → ℕ → Clock
    moved_clock k to =
        record { place = cond (keeps_place c k.place to) to k.place; running = (k.running + passed c k.place to) % 4294967296 }

    pub advance-is : (k : Clock) (to : ℕ) → k.place < c → k.running < 2 ^ 32 → to < c → advance c k to ≡ moved_clock k to
    advance-is k to hp hr ht = go (forward c k.place to) refl
      where
        -- a step back: more than 60 seconds, or not
        back : c / 2 ≤ ahead c k.place to → (v : Bool) → ltb 60 (behind c k.place to) ≡ v
            → advance c k to ≡ record { place = cond v to k.place; running = (k.running + 0) % 4294967296 }
        back l true e =
            let z : k.running ≡ (k.running + 0) % 4294967296 = omega arith in
            advance-set-back c k to _ (backward-by k.place to hp ht l) (omega (arith, ltb-true 60 (behind c k.place to) e))
            ∙ ap (λ (x : ℕ). record { place = to; running = x }) z
        back l false e =
            let z : k.running ≡ (k.running + 0) % 4294967296 = omega arith in
            let a = around k.place to hp ht (omega arith) in
            advance-back c k to _ (backward-by k.place to hp ht l) (omega (arith, ltb-false 60 (behind c k.place to) e))
            ∙ ap (λ (x : ℕ). record { place = k.place; running = x }) z

        go : (b : Bool) → forward c k.place to ≡ b
            → advance c k to
            ≡ record { place = cond (b || ltb 60 (behind c k.place to)) to k.place; running = (k.running + cond b (ahead c k.place to) 0) % 4294967296 }
        go true e = advance-on c k to (ahead c k.place to) (forward-by k.place to hp ht (ltb-true (ahead c k.place to) (c / 2) e))
        go false e = back (ltb-false (ahead c k.place to) (c / 2) e) (ltb 60 (behind c k.place to)) refl
