-- The model's clock runs on from where it was set to, in a cycle of any even number of seconds. Assumes nothing.
use Prim.Native.Nat.{ℕ, ◌+◌, ◌-◌, ◌/◌, ◌%◌, ◌^◌, ◌≤◌, ◌<◌}
use native.Mathlib.Omega.{arith}
use mathlib.Core.Path.{◌≡◌, refl, ap, ◌∙◌}
use mathlib.Core.Bool.{Bool, true, false, cond}
use mathlib.Core.Logic.{◌⊎◌, inl, inr}
use lib.IntN.{pos}
use lib.Dec.{ltb}
use borrow.Author.Tests.{ltb-true, ltb-false, le-ltb}
use Rattle.model.specs.Clock.{Clock, advance}
use Rattle.model.proofs.ClockLaws.{advance-on, advance-back, advance-set-back}
use Rattle.claims.specs.Tally.{ahead, behind}
use Rattle.claims.specs.Resumes.{later, Resumes}
use Rattle.claims.proofs.CycleLaws.{forward-by, backward-by}

module _ (c : ℕ) (even : c / 2 + c / 2 ≡ c) where
  -- THE SECONDS AHEAD, BEHIND AND LATER by equations, around the cycle or not

  ahead-eq : (from to : ℕ) → from < c → ((from ≤ to) × (ahead c from to + from ≡ to)) ⊎ ((to < from) × (ahead c from to + from ≡ to + c))
  ahead-eq from to hf = go (ltb to from) refl
    where
      go : (v : Bool) → ltb to from ≡ v
          → ((from ≤ to) × (cond v (to + c - from) (to - from) + from ≡ to)) ⊎ ((to < from) × (cond v (to + c - from) (to - from) + from ≡ to + c))
      go true e = let l = ltb-true to from e in inr (l, omega arith)
      go false e = let l = ltb-false to from e in inl (l, omega arith)

  behind-eq : (from to : ℕ) → to < c → ((to ≤ from) × (behind c from to + to ≡ from)) ⊎ ((from < to) × (behind c from to + to ≡ from + c))
  behind-eq from to ht = go (ltb from to) refl
    where
      go : (v : Bool) → ltb from to ≡ v
          → ((to ≤ from) × (cond v (from + c - to) (from - to) + to ≡ from)) ⊎ ((from < to) × (cond v (from + c - to) (from - to) + to ≡ from + c))
      go true e = let l = ltb-true from to e in inr (l, omega arith)
      go false e = let l = ltb-false from to e in inl (l, omega arith)

  later-eq : (p d : ℕ) → ((p + d < c) × (later c p d ≡ p + d)) ⊎ ((c ≤ p + d) × (later c p d + c ≡ p + d))
  later-eq p d = go (ltb (p + d) c) refl
    where
      go : (v : Bool) → ltb (p + d) c ≡ v
          → ((p + d < c) × (cond v (p + d) (p + d - c) ≡ p + d)) ⊎ ((c ≤ p + d) × (cond v (p + d) (p + d - c) + c ≡ p + d))
      go true e = inl (ltb-true (p + d) c e, refl)
      go false e = let l = ltb-false (p + d) c e in inr (l, omega arith)

  -- d seconds after a place p that is b seconds behind q lies d less b ahead of q
  ahead-later : (q p d b : ℕ) → q < c → p < c → d < c / 2 → behind c q p ≡ b → b ≤ d → ahead c q (later c p d) ≡ d - b
  ahead-later q p d b hq hp hd e enough = go (ahead c q (later c p d)) (behind c q p) (later c p d) e (ahead-eq q (later c p d) hq) (behind-eq q p hp) (later-eq p d)
    where
      go : (x y z : ℕ) → y ≡ b → ((q ≤ z) × (x + q ≡ z)) ⊎ ((z < q) × (x + q ≡ z + c)) → ((p ≤ q) × (y + p ≡ q)) ⊎ ((q < p) × (y + p ≡ q + c))
          → ((p + d < c) × (z ≡ p + d)) ⊎ ((c ≤ p + d) × (z + c ≡ p + d)) → x ≡ d - b
      go x y z f (inl u) (inl v) (inl w) = omega (arith, u, v, w)
      go x y z f (inl u) (inl v) (inr w) = absurd (omega (arith, u, v, w))
      go x y z f (inl u) (inr v) (inl w) = absurd (omega (arith, u, v, w))
      go x y z f (inl u) (inr v) (inr w) = omega (arith, u, v, w)
      go x y z f (inr u) (inl v) (inl w) = absurd (omega (arith, u, v, w))
      go x y z f (inr u) (inl v) (inr w) = omega (arith, u, v, w)
      go x y z f (inr u) (inr v) (inl w) = absurd (omega (arith, u, v, w))
      go x y z f (inr u) (inr v) (inr w) = absurd (omega (arith, u, v, w))

  later-less : (p d : ℕ) → p < c → d < c / 2 → later c p d < c
  later-less p d hp hd = go (later c p d) (later-eq p d)
    where
      go : (z : ℕ) → ((p + d < c) × (z ≡ p + d)) ⊎ ((c ≤ p + d) × (z + c ≡ p + d)) → z < c
      go z (inl w) = omega (arith, w)
      go z (inr w) = omega (arith, w)

  -- a place 1 to half a cycle behind is half a cycle or more ahead
  half-ahead : (from to : ℕ) → from < c → to < c → 1 ≤ behind c from to → behind c from to ≤ c / 2 → c / 2 ≤ ahead c from to
  half-ahead from to hf ht = go (ahead c from to) (behind c from to) (ahead-eq from to hf) (behind-eq from to ht)
    where
      go : (x y : ℕ) → ((from ≤ to) × (x + from ≡ to)) ⊎ ((to < from) × (x + from ≡ to + c)) → ((to ≤ from) × (y + to ≡ from)) ⊎ ((from < to) × (y + to ≡ from + c))
          → 1 ≤ y → y ≤ c / 2 → c / 2 ≤ x
      go x y (inl u) (inl v) least most = absurd (omega (arith, u, v))
      go x y (inl u) (inr v) least most = omega (arith, u, v)
      go x y (inr u) (inl v) least most = omega (arith, u, v)
      go x y (inr u) (inr v) least most = absurd (omega (arith, u, v))

  -- THE CLOCK

  -- a reading n seconds ahead
  on-by : (k : Clock) (to n : ℕ) → k.place < c → to < c → n < c / 2 → ahead c k.place to ≡ n
      → advance c k to ≡ record { place = to; running = (k.running + n) % 2 ^ 32 }
  on-by k to n hk ht hn e = advance-on c k to n (forward-by c even k.place to hk ht (omega (arith, e)) ∙ ap pos e)

  set_back_lem : (k : Clock) (p d : ℕ) → k.place < c → p < c → d < c / 2 → 61 ≤ behind c k.place p → behind c k.place p ≤ c / 2
      → advance c (advance c k p) (later c p d) ≡ record { place = later c p d; running = (k.running + d) % 2 ^ 32 }
  set_back_lem k p d hk hp hd least most =
      let half = half-ahead k.place p hk hp (omega (arith, least)) most in
      let first : advance c k p ≡ record { place = p; running = k.running } =
      advance-set-back c k p _ (backward-by c even k.place p hk hp half) (omega (arith, least)) in
      let here : behind c p p ≡ 0 = rw (le-ltb p p (omega arith)) (omega arith) in
      ap (λ (z : Clock). advance c z (later c p d)) first
      ∙ on-by (record { place = p; running = k.running }) (later c p d) d hp (later-less p d hp hd) hd (ahead-later p p d 0 hp hp hd here (omega arith) ∙ omega arith)

  went_back_lem : (k : Clock) (p d b : ℕ) → k.place < c → p < c → d < c / 2 → behind c k.place p ≡ b → 1 ≤ b → b ≤ 60 → b ≤ d
      → advance c (advance c k p) (later c p d) ≡ record { place = later c p d; running = (k.running + (d - b)) % 2 ^ 32 }
  went_back_lem k p d b hk hp hd e least most enough =
      let half = half-ahead k.place p hk hp (omega (arith, e)) (omega (arith, e)) in
      let first : advance c k p ≡ k = advance-back c k p _ (backward-by c even k.place p hk hp half) (omega (arith, e)) in
      ap (λ (z : Clock). advance c z (later c p d)) first
      ∙ on-by k (later c p d) (d - b) hk (later-less p d hp hd) (omega arith) (ahead-later k.place p d b hk hp hd e enough)

pub resumes : Resumes advance
resumes =
    record {
      set_back = λ c k p d even hk hp hd least most. set_back_lem c even k p d hk hp hd least most;
      went_back = λ c k p d b even hk hp hd e least most enough. went_back_lem c even k p d b hk hp hd e least most enough;
    }
