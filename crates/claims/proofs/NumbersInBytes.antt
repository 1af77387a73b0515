-- Numbers, parts and fields in lists of bytes, of the model's definitions. Assumes nothing.
use Prim.Native.Nat.{ℕ, zero, suc, ◌+◌, ◌-◌, ◌/◌, ◌%◌, ◌^◌, ◌≤◌, ◌<◌}
use native.Mathlib.Nat.{add-zero, pow-succ', div-div-eq-div-mul, eq-or-lt_of_le}
use native.Mathlib.Omega.{arith}
use mathlib.Core.Path.{◌≡◌, refl, sym, ap, ◌∙◌}
use mathlib.Core.Bool.{true, false}
use mathlib.Core.List.{List, [], ◌∷◌, ◌++◌}
use mathlib.Core.Logic.{⊎_elim}
use lib.ListN.{length, get_or, take, drop, get_or-append}
use lib.Seq.{get_or_at, get_or-take, get_or-drop, get_or-append-add, length-take-le}
use lib.Dec.{ltb}
use borrow.Author.Tests.{ltb-true, ltb-false}
use Rattle.model.specs.Numbers.{Bytes, big_endian, bytes_of, splice, encode}
use Rattle.model.proofs.Fields.{width}
use Rattle.model.proofs.ListLaws.{test, get_or-past}
use Rattle.model.proofs.NumberLaws.{length-bytes, big-add, length_part, get_or-part, length-splice, length-encode}
use Rattle.claims.specs.NumbersInBytes.{value_at, Replaced, width_of, NumbersInBytes}

-- BYTES

pub all-bytes : (s : List ℕ) → ((i : ℕ) → i < length s → get_or s i 0 < 256) → Bytes s
all-bytes s h i =
    ⊎_elim
    (λ (t : ltb i (length s) ≡ true). h i (ltb-true i (length s) t))
    (λ (t : ltb i (length s) ≡ false). rw (get_or-past s i 0 (ltb-false i (length s) t)) (omega arith))
    (test (ltb i (length s)))

-- NUMBERS

pub value-is : (s : List ℕ) (at k : ℕ) → big_endian s at k ≡ value_at s at k
unfolding value_at big_endian
value-is s at zero = refl
value-is s at (suc k) =
    let e : suc k ≡ 1 + k = omega arith in
    ap (big_endian s at) e ∙ big-add s at 1 k ∙ (rw (add-zero at, value-is s (at + 1) k) (omega arith))

digit-is : (k x i : ℕ) → i < k → get_or (bytes_of k x) i 0 ≡ x / 256 ^ (k - 1 - i) % 256
unfolding bytes_of
digit-is zero x i h = absurd (omega arith)
digit-is (suc k) x i h =
    let l : length (bytes_of k (x / 256)) ≡ k = length-bytes k (x / 256) in
    ⊎_elim
    (λ (z : i ≡ k).
    let w : suc k - 1 - i ≡ 0 = omega arith in
    rw (w, get_or_at (bytes_of k (x / 256)) (x % 256) [] 0 i (l ∙ sym z)) (omega arith))
    (λ (z : i < k).
    let w : suc k - 1 - i ≡ suc (k - 1 - i) = omega arith in
    let e : x / 256 / 256 ^ (k - 1 - i) ≡ x / 256 ^ suc (k - 1 - i) = div-div-eq-div-mul x 256 (256 ^ (k - 1 - i)) ∙ ap (λ (m : ℕ). x / m) (sym (pow-succ' 256 (k - 1 - i))) in
    get_or-append (bytes_of k (x / 256)) (x % 256 ∷ []) 0 i (omega arith) ∙ digit-is k (x / 256) i z ∙ (rw (w, e)))
    (let h' : i ≤ k = omega arith in eq-or-lt_of_le h')

-- A LIST SPLICED

module _ (at k : ℕ) (vs s : List ℕ) (size : length vs ≡ k) (fits : at + k ≤ length s) where
  head : length (take at s) ≡ at
  head = length-take-le at s (omega arith)

  replaced : Replaced at k vs s (splice at k vs s)
  unfolding splice
  replaced =
      let rest = drop (at + k) s in
      record {
        size = length-splice at k vs s size fits;
        before = λ i h. get_or-append (take at s) (vs ++ rest) 0 i (omega (arith, head)) ∙ get_or-take at s i 0 h;
        here = λ i h.
            ap (λ (j : ℕ). get_or (take at s ++ (vs ++ rest)) (j + i) 0) (sym head)
            ∙ get_or-append-add (take at s) (vs ++ rest) i 0
            ∙ get_or-append vs rest 0 i (omega arith);
        behind = λ i h.
            let e : i ≡ length (take at s) + (length vs + (i - (at + k))) = omega (arith, head) in
            let f : at + k + (i - (at + k)) ≡ i = omega arith in
            ap (λ (j : ℕ). get_or (take at s ++ (vs ++ rest)) j 0) e
            ∙ get_or-append-add (take at s) (vs ++ rest) (length vs + (i - (at + k))) 0
            ∙ get_or-append-add vs rest (i - (at + k)) 0
            ∙ get_or-drop (at + k) s (i - (at + k)) 0
            ∙ ap (λ (j : ℕ). get_or s j 0) f;
      }

-- FIELDS

widths : (fs : List (ℕ × ℕ)) → width fs ≡ width_of fs (length fs)
widths [] = refl
widths (f ∷ fs) = ap (λ (k : ℕ). f.0 + k) (widths fs)

field-bytes : (fs : List (ℕ × ℕ)) (i j : ℕ) → i < length fs → j < (get_or fs i (0, 0)).0
    → get_or (encode fs) (width_of fs i + j) 0 ≡ get_or (bytes_of (get_or fs i (0, 0)).0 (get_or fs i (0, 0)).1) j 0
unfolding encode
field-bytes [] i j h l = absurd (omega arith)
field-bytes (f ∷ fs) zero j h l =
    let z : 0 + j ≡ j = omega arith in
    rw z (get_or-append (bytes_of f.0 f.1) (encode fs) 0 j (omega (arith, length-bytes f.0 f.1)))
field-bytes (f ∷ fs) (suc i) j h l =
    let b = bytes_of f.0 f.1 in
    let e : f.0 + width_of fs i + j ≡ length b + (width_of fs i + j) = omega (arith, length-bytes f.0 f.1) in
    ap (λ (k : ℕ). get_or (b ++ encode fs) k 0) e ∙ get_or-append-add b (encode fs) (width_of fs i + j) 0 ∙ field-bytes fs i j (omega arith) l

-- THE CLAIM

pub numbers-in-bytes : NumbersInBytes
numbers-in-bytes =
    record {
      bytes = λ s. (λ h i l. h i, all-bytes s);
      read = value-is;
      width = length-bytes;
      digit = digit-is;
      part_size = length_part;
      part_at = get_or-part;
      spliced = replaced;
      fields_size = λ fs. length-encode fs ∙ widths fs;
      field_bytes = field-bytes;
    }
