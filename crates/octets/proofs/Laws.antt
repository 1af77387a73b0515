-- Zeros. Assumes nothing.
use Prim.Native.Nat.{ℕ, zero, suc, ◌+◌, ◌-◌, ◌*◌, ◌≤◌, ◌<◌}
use native.Mathlib.Numerals.{add-one}
use native.Mathlib.Omega.{arith}
use mathlib.Core.Path.{◌≡◌, refl, sym, ap, ◌∙◌}
use mathlib.Core.Bool.{Bool, true, false, ◌&&◌, and-true, and-false}
use mathlib.Core.List.{List}
use lib.ListN.{length, get_or, replicate, length-replicate, replicate-append-replicate}
use lib.Dec.{eqb}
use borrow.Author.Tests.{eqb-true, eq-eqb}
use lib.Seq.{drop-cons}
use Rattle.model.specs.Lists.{same}
use Rattle.model.specs.Numbers.{big_endian, part}
use Rattle.model.proofs.NumberLaws.{length_part, part_none}
use Rattle.model.proofs.ListLaws.{iff, and_left, and_right, and_both, same-append, part-add, eqb-sym}

-- zeros
abbrev pub noughts : ℕ → List ℕ
noughts n = replicate n 0

-- a number is zero exactly if its bytes are
number-next : (x b : ℕ) → eqb x 0 && eqb b 0 ≡ eqb (x * 256 + b) 0
number-next x b =
    iff (eqb x 0 && eqb b 0) (eqb (x * 256 + b) 0)
    (λ t. eq-eqb (x * 256 + b) 0 (omega (arith, eqb-true x 0 (and_left (eqb x 0) (eqb b 0) t), eqb-true b 0 (and_right (eqb x 0) (eqb b 0) t))))
    (λ t. let q = eqb-true (x * 256 + b) 0 t in and_both (eqb x 0) (eqb b 0) (eq-eqb x 0 (omega arith)) (eq-eqb b 0 (omega arith)))

-- the n bytes from index at are zeros
abbrev pub zero_bytes : List ℕ → ℕ → ℕ → Bool
zero_bytes s at n = same (noughts n) (part at n s)

module _ (s : List ℕ) where
  -- n zeros are j and then k
  pub zero-both : (at n j k : ℕ) → j + k ≡ n → at + n ≤ length s → zero_bytes s at j && zero_bytes s (at + j) k ≡ zero_bytes s at n
  zero-both at n j k e h =
      let f : length (noughts j) ≡ length (part at j s) = length-replicate j 0 ∙ sym (length_part at j s (omega arith)) in
      sym (same-append (noughts j) (noughts k) (part at j s) (part (at + j) k s) f)
      ∙ rw (replicate-append-replicate {A = ℕ} j k 0, ← part-add at j k s, e)

  pub zero_one : (at : ℕ) → at < length s → eqb (get_or s at 0) 0 ≡ zero_bytes s at 1
  unfolding same part
  zero_one at h = rw (drop-cons s at 0 h) (eqb-sym (get_or s at 0) 0 ∙ sym (and-true (eqb 0 (get_or s at 0))))

  -- a byte more, and one that is not zero
  pub zero-next : (at i : ℕ) → at + i < length s → eqb (get_or s (at + i) 0) 0 ≡ true → zero_bytes s at i ≡ true → zero_bytes s at (i + 1) ≡ true
  zero-next at i h e z = sym (zero-both at (i + 1) i 1 refl (omega arith)) ∙ (rw (z, ← zero_one (at + i) h, e))

  pub zero-no : (at n i : ℕ) → i < n → at + n ≤ length s → eqb (get_or s (at + i) 0) 0 ≡ false → zero_bytes s at n ≡ false
  zero-no at n i l h e =
      let o : zero_bytes s (at + i) 1 ≡ false = sym (zero_one (at + i) (omega arith)) ∙ e in
      let r : zero_bytes s (at + i) (n - i) ≡ false = sym (zero-both (at + i) (n - i) 1 (n - i - 1) (omega arith) (omega arith)) ∙ (rw o) in
      sym (zero-both at n i (n - i) (omega arith) h) ∙ (rw (r, and-false))

  -- k bytes are zeros exactly if their number is zero
  pub zero_number : (at k : ℕ) → at + k ≤ length s → zero_bytes s at k ≡ eqb (big_endian s at k) 0
  unfolding same big_endian
  zero_number at zero h = rw (part_none at s)
  zero_number at (suc k) h =
      sym (zero-both at (suc k) k 1 (add-one k) h)
      ∙ ap (λ (v : Bool). v && zero_bytes s (at + k) 1) (zero_number at k (omega arith))
      ∙ ap (λ (v : Bool). eqb (big_endian s at k) 0 && v) (sym (zero_one (at + k) (omega arith)))
      ∙ number-next (big_endian s at k) (get_or s (at + k) 0)
