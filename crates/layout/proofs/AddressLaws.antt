-- An address as two halves of eight bytes. Assumes nothing.
use Prim.Native.Nat.{ℕ, ◌+◌, ◌*◌, ◌/◌, ◌%◌, ◌^◌, ◌<◌}
use native.Mathlib.Nat.{add-zero, mul-add-div_right, div-eq_of_lt, mul-add-mod_self_right, mod-eq_of_lt}
use native.Mathlib.Omega.{arith}
use mathlib.Core.Path.{◌≡◌, sym, ap, ◌∙◌}
use mathlib.Core.Bool.{false, ◌&&◌, and-true, and-false}
use mathlib.Core.List.{List}
use mathlib.Core.Logic.{◌≢◌}
use lib.Dec.{eqb}
use borrow.Author.Tests.{eqb-true, eq-eqb, ne_eqb}
use Rattle.model.specs.Numbers.{big_endian}
use Rattle.model.proofs.NumberLaws.{big-add}
use Rattle.model.proofs.ListLaws.{iff, and_left, and_right, and_both}

pub big-halves : (s : List ℕ) (at : ℕ) → big_endian s at 16 ≡ big_endian s at 8 * 2 ^ 64 + big_endian s (at + 8) 8
big-halves s at = big-add s at 8 8

-- the address of a record at a, of its halves
pub address_is : (s : List ℕ) (a : ℕ) {g h : ℕ} → g ≡ big_endian s (a + 1) 8 → h ≡ big_endian s (a + 9) 8 → big_endian s (a + 1) 16 ≡ g * 2 ^ 64 + h
address_is s a p q =
    let e : a + 1 + 8 ≡ a + 9 = omega arith in
    rw (p, q) (big-halves s (a + 1) ∙ ap (λ (x : ℕ). big_endian s (a + 1) 8 * 2 ^ 64 + big_endian s x 8) e)

-- two numbers of two halves, the second below w, are the same exactly if both halves are
module _ (w x y a c : ℕ) (h : y < w) (l : c < w) where
  high : x * w + y ≡ a * w + c → x ≡ a
  high e =
      let p : 0 < w = omega arith in
      let u : (x * w + y) / w ≡ x = mul-add-div_right p x y ∙ (rw (div-eq_of_lt h) (add-zero x)) in
      let v : (a * w + c) / w ≡ a = mul-add-div_right p a c ∙ (rw (div-eq_of_lt l) (add-zero a)) in
      sym u ∙ ap (λ (k : ℕ). k / w) e ∙ v

  low : x * w + y ≡ a * w + c → y ≡ c
  low e =
      let u : (x * w + y) % w ≡ y = mul-add-mod_self_right x w y ∙ mod-eq_of_lt h in
      let v : (a * w + c) % w ≡ c = mul-add-mod_self_right a w c ∙ mod-eq_of_lt l in
      sym u ∙ ap (λ (k : ℕ). k % w) e ∙ v

  pub halves_are : eqb (x * w + y) (a * w + c) ≡ eqb x a && eqb y c
  halves_are =
      iff (eqb (x * w + y) (a * w + c)) (eqb x a && eqb y c)
      (λ t. let e = eqb-true (x * w + y) (a * w + c) t in and_both (eqb x a) (eqb y c) (eq-eqb x a (high e)) (eq-eqb y c (low e)))
      (λ t.
      let u = eqb-true x a (and_left (eqb x a) (eqb y c) t) in
      let v = eqb-true y c (and_right (eqb x a) (eqb y c) t) in
      eq-eqb (x * w + y) (a * w + c) (rw (u, v)))

-- of an address
module _ (x y a c : ℕ) (h : y < 2 ^ 64) (l : c < 2 ^ 64) where
  pub halves-hit : y ≡ c → eqb (x * 2 ^ 64 + y) (a * 2 ^ 64 + c) ≡ eqb x a
  halves-hit e = halves_are (2 ^ 64) x y a c h l ∙ (rw (eq-eqb y c e) (and-true (eqb x a)))

  pub halves-miss : y ≢ c → eqb (x * 2 ^ 64 + y) (a * 2 ^ 64 + c) ≡ false
  halves-miss n = halves_are (2 ^ 64) x y a c h l ∙ (rw (ne_eqb y c n) (and-false (eqb x a)))
