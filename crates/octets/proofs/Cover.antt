-- A test of n bytes from an index that passes exactly if the first j pass and then the other k: by the `or` of a number for each byte, and by two
-- blocks that may lie over each other. Assumes nothing.
use Prim.Native.Nat.{ℕ, ◌+◌, ◌-◌, ◌≤◌}
use native.Mathlib.Omega.{arith}
use mathlib.Core.Path.{◌≡◌, refl, sym, ◌∙◌}
use mathlib.Core.Bool.{Bool, ◌&&◌}
use lib.Bits.{bit_or, or_add_and, and_le_l, and_le_r, or_zero_l}
use lib.Dec.{eqb}
use borrow.Author.Tests.{eqb-true, eq-eqb}
use Rattle.model.proofs.ListLaws.{iff, and_left, and_right, and_both}

-- an `or` is zero exactly if both are
pub or-zero : (a b : ℕ) → eqb (bit_or a b) 0 ≡ eqb a 0 && eqb b 0
or-zero a b =
    iff (eqb (bit_or a b) 0) (eqb a 0 && eqb b 0)
    (λ e.
    let z : bit_or a b ≡ 0 = eqb-true (bit_or a b) 0 e in
    let s = or_add_and a b in
    let l = and_le_l a b in
    let r = and_le_r a b in
    and_both (eqb a 0) (eqb b 0) (eq-eqb a 0 (omega arith)) (eq-eqb b 0 (omega arith)))
    (λ e.
    let x : a ≡ 0 = eqb-true a 0 (and_left (eqb a 0) (eqb b 0) e) in
    let y : b ≡ 0 = eqb-true b 0 (and_right (eqb a 0) (eqb b 0) e) in
    eq-eqb (bit_or a b) 0 (rw (x, y) (or_zero_l 0)))

module _ (T : ℕ → ℕ → Bool) (end : ℕ) (both : (at n j k : ℕ) → j + k ≡ n → at + n ≤ end → T at j && T (at + j) k ≡ T at n) where
  -- one byte more: x is zero exactly if those passed pass, y exactly if the next does
  pub or-next : (at i x y : ℕ) → at + i + 1 ≤ end → eqb x 0 ≡ T at i → eqb y 0 ≡ T (at + i) 1 → eqb (bit_or x y) 0 ≡ T at (i + 1)
  or-next at i x y h e f = or-zero x y ∙ (rw (e, f) (both at (i + 1) i 1 refl (omega arith)))

  -- the first m and the last k are all n
  pub cover : (at n m k : ℕ) → m ≤ n → k ≤ n → n ≤ m + k → at + n ≤ end → T at m && T (at + (n - k)) k ≡ T at n
  cover at n m k hm hk hc l =
      let whole = T at n in
      let first = T at m in
      let last = T (at + (n - k)) k in
      let rest = T (at + m) (n - m) in
      let front = T at (n - k) in
      let over = T (at + (n - k)) (k - (n - m)) in
      let a : first && rest ≡ whole = both at n m (n - m) (omega arith) l in
      let b : front && last ≡ whole = both at n (n - k) k (omega arith) l in
      let p : at + (n - k) + (k - (n - m)) ≡ at + m = omega arith in
      let c : over && rest ≡ last = rw p at (both (at + (n - k)) k (k - (n - m)) (n - m) (omega arith) (omega arith)) in
      iff (first && last) whole
      (λ e. sym a ∙ and_both first rest (and_left first last e) (and_right over rest (c ∙ and_right first last e)))
      (λ e. and_both first last (and_left first rest (a ∙ e)) (and_right front last (b ∙ e)))
