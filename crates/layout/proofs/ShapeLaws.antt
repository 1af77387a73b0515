-- The bytes at a place are those of what is read there exactly if the kind and the zeros are right. Assumes nothing.
use Prim.Native.Nat.{ℕ, zero, suc, ◌+◌, ◌-◌, ◌≤◌, ◌<◌}
use native.Mathlib.Nat.{add-zero}
use native.Mathlib.Numerals.{add-one}
use native.Mathlib.Omega.{arith}
use mathlib.Core.Path.{◌≡◌, refl, sym, ap, ◌∙◌}
use mathlib.Core.Bool.{Bool, true, false, cond, ◌&&◌, ◌||◌, or-false}
use mathlib.Core.List.{List, [], ◌∷◌, ◌++◌}
use lib.ListN.{length, get_or, replicate}
use lib.Seq.{drop-cons}
use lib.Dec.{eqb}
use borrow.Author.Tests.{eqb-true}
use Rattle.model.specs.Numbers.{big_endian, Bytes, part, encode}
use Rattle.model.proofs.NumberLaws.{length_part, bytes-big, big-one, part_none}
use Rattle.model.specs.Lists.{every, up_to, same}
use Rattle.model.specs.Table.{free, held, entry_fields, kind_of, slot_bytes, read_entry, read_slot}
use Rattle.model.proofs.ListLaws.{eqb-sym, same_refl, same-append, part-add, every-next, every-index}
use Rattle.layout.specs.Shape.{all, in_use, zeros_at, slot_shape}
use Rattle.layout.proofs.HeldLaws.{grows-no}

-- all, one more
module _ (p : ℕ → Bool) where
  pub all_none : all p 0 ≡ true
  unfolding all up_to every
  all_none = refl

  pub all-next : (i : ℕ) → all p (i + 1) ≡ all p i && p i
  unfolding all
  all-next i = every-next i (λ j. j) p

  pub all_more : (i : ℕ) → p i ≡ true → all p i ≡ true → all p (i + 1) ≡ true
  all_more i h a = rw (all-next i, a, h)

  pub all-no : (n i : ℕ) → i < n → p i ≡ false → all p n ≡ false
  all-no n i l h = grows-no (λ j. all p j) p all-next n i l h

  pub all_yes : (n : ℕ) → ((i : ℕ) → i < n → p i ≡ true) → all p n ≡ true
  all_yes zero h = all_none
  all_yes (suc n) h = rw (← add-one n) (all_more n (h n (omega arith)) (all_yes n (λ i l. h i (omega arith))))

  pub all-at : (n i : ℕ) → all p n ≡ true → i < n → p i ≡ true
  unfolding all
  all-at n i a l = every-index p n a i l

pub same-cons : (x y : ℕ) (a b : List ℕ) → same (x ∷ a) (y ∷ b) ≡ eqb x y && same a b
unfolding same
same-cons x y a b = refl

pub all-ext : (p q : ℕ → Bool) (n : ℕ) → ((i : ℕ) → i < n → p i ≡ q i) → all p n ≡ all q n
all-ext p q zero h = all_none p ∙ sym (all_none q)
all-ext p q (suc n) h = rw (← add-one n, all-next p n, all-next q n, all-ext p q n (λ i l. h i (omega arith)), h n (omega arith))

pub part-head : (at k : ℕ) (b : List ℕ) → at + suc k ≤ length b → part at (suc k) b ≡ get_or b at 0 ∷ part (at + 1) k b
unfolding part
part-head at k b h = rw (drop-cons b at 0 (omega arith), add-one)

-- the fields at a place, read one after the other and written again, are the bytes
abbrev pub read_all : List ℕ → ℕ → ℕ → List ℕ → List (ℕ × ℕ)
read_all b at o [] = []
read_all b at o (w ∷ ws) = (w, big_endian b (at + o) w) ∷ read_all b at (o + w) ws

abbrev pub sum : List ℕ → ℕ
sum [] = 0
sum (w ∷ ws) = w + sum ws

pub read-all : (b : List ℕ) → Bytes b → (at o : ℕ) (ws : List ℕ) → at + o + sum ws ≤ length b → encode (read_all b at o ws) ≡ part (at + o) (sum ws) b
unfolding encode
read-all b k at o [] h = sym (part_none (at + o) b)
read-all b k at o (w ∷ ws) h =
    let e : at + o + w ≡ at + (o + w) = omega arith in
    rw (bytes-big b (at + o) w k (omega arith), read-all b k at (o + w) ws (omega arith), part-add (at + o) w (sum ws) b, e)

kind-back : (k : ℕ) → eqb k 5 || eqb k 6 ≡ true → kind_of (eqb k 6) ≡ k
kind-back k h = go (eqb k 6) refl h
  where
    go : (v : Bool) → eqb k 6 ≡ v → eqb k 5 || v ≡ true → kind_of v ≡ k
    go true e h = sym (eqb-true k 6 e)
    go false e h = sym (eqb-true k 5 (sym (or-false (eqb k 5)) ∙ h))

module _ (b : List ℕ) (bytes : Bytes b) (at : ℕ) (fits : at + 320 ≤ length b) where
  name-length : length (part (at + 40) (get_or b (at + 39) 0) b) ≡ get_or b (at + 39) 0
  name-length = length_part (at + 40) (get_or b (at + 39) 0) b (omega (arith, bytes (at + 39)))

  held-entry_fields : in_use (get_or b at 0) ≡ true → encode (entry_fields (read_entry b at)) ≡ part at 40 b
  unfolding read_entry
  held-entry_fields k =
      let kd : kind_of (eqb (get_or b at 0) 6) ≡ big_endian b (at + 0) 1 = kind-back (get_or b at 0) k ∙ sym (big-one b at) ∙ ap (λ (x : ℕ). big_endian b x 1) (sym (add-zero at)) in
      let ln : length (part (at + 40) (get_or b (at + 39) 0) b) ≡ big_endian b (at + 39) 1 = name-length ∙ sym (big-one b (at + 39)) in
      rw (kd, ln) ((read-all b bytes at 0 (1 ∷ 16 ∷ 2 ∷ 8 ∷ 4 ∷ 4 ∷ 2 ∷ 2 ∷ 1 ∷ []) (omega arith)) ∙ ap (λ (x : ℕ). part x 40 b) (add-zero at))

  read_name : (read_entry b at).name ≡ part (at + 40) (get_or b (at + 39) 0) b
  unfolding read_entry
  read_name = refl

  cut-slot : part at 320 b ≡ part at 40 b ++ (part (at + 40) (get_or b (at + 39) 0) b ++ part (at + 40 + get_or b (at + 39) 0) (280 - get_or b (at + 39) 0) b)
  cut-slot =
      let e : 280 ≡ get_or b (at + 39) 0 + (280 - get_or b (at + 39) 0) = omega (arith, bytes (at + 39)) in
      part-add at 40 280 b ∙ ap (λ (k : ℕ). part at 40 b ++ part (at + 40) k b) e ∙ ap (λ (r : List ℕ). part at 40 b ++ r) (part-add (at + 40) (get_or b (at + 39) 0) (280 - get_or b (at + 39) 0) b)

  held_same : in_use (get_or b at 0) ≡ true
      → same (slot_bytes (held (read_entry b at))) (part at 320 b) ≡ zeros_at b (at + 40 + get_or b (at + 39) 0) (280 - get_or b (at + 39) 0)
  unfolding slot_bytes
  held_same k =
      let n = get_or b (at + 39) 0 in
      let nm : (read_entry b at).name ≡ part (at + 40) n b = read_name in
      let ln : length (read_entry b at).name ≡ n = ap length nm ∙ name-length in
      let cut : part at 320 b ≡ part at 40 b ++ (part (at + 40) n b ++ part (at + 40 + n) (280 - n) b) = cut-slot in
      let l1 : length (part at 40 b) ≡ length (part at 40 b) = refl in
      rw (
        cut,
        held-entry_fields k,
        ln,
        nm,
        same-append (part at 40 b) (part (at + 40) n b ++ replicate (280 - n) 0) (part at 40 b) (part (at + 40) n b ++ part (at + 40 + n) (280 - n) b) refl,
        same-append (part (at + 40) n b) (replicate (280 - n) 0) (part (at + 40) n b) (part (at + 40 + n) (280 - n) b) refl,
        same_refl,
        same_refl,
      )

  free-same : same (slot_bytes free) (part at 320 b) ≡ eqb (get_or b at 0) 4 && zeros_at b (at + 1) 319
  unfolding slot_bytes
  free-same =
      let cut : part at 320 b ≡ get_or b at 0 ∷ part (at + 1) 319 b = part-head at 319 b (omega arith) in
      rw (cut, same-cons 4 (get_or b at 0) (replicate 319 0) (part (at + 1) 319 b), eqb-sym 4 (get_or b at 0))

  pub slot-shape-is : same (slot_bytes (read_slot b at)) (part at 320 b) ≡ slot_shape b at
  unfolding read_slot slot_shape
  slot-shape-is = go (in_use (get_or b at 0)) refl
    where
      go : (v : Bool) → in_use (get_or b at 0) ≡ v
          → same (slot_bytes (cond v (held (read_entry b at)) free)) (part at 320 b) ≡ cond v (zeros_at b (at + 40 + get_or b (at + 39) 0) (280 - get_or b (at + 39) 0)) (eqb (get_or b at 0) 4 && zeros_at b (at + 1) 319)
      go true e = held_same e
      go false e = free-same
