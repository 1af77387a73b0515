-- Names: what the size of a name says of the folded bytes, and the laws of the fold. Assumes nothing.
use Prim.Native.Nat.{ℕ, zero, suc, ◌+◌, ◌-◌, ◌^◌, ◌≤◌, ◌<◌}
use native.Mathlib.Nat.{sub-zero}
use native.Mathlib.Omega.{arith}
use mathlib.Core.Path.{◌≡◌, refl, ◌∙◌}
use mathlib.Core.Bool.{Bool, true, false, cond, ◌&&◌}
use mathlib.Core.List.{List, [], ◌∷◌, map}
use mathlib.Core.Logic.{◌⊎◌, inl, inr, ⊎_elim, ◌≢◌}
use lib.ListN.{length, get_or, take, drop, length-drop}
use lib.Seq.{drop-cons, length-take-le}
use lib.Dec.{eqb, leb, ltb, lit<}
use borrow.Author.Tests.{eqb-true, eq-eqb, ne_eqb, leb-true, le-leb, lt-leb, ltb-true, lt-ltb, le-ltb}
use Rattle.model.specs.Numbers.{Bytes, part}
use Rattle.model.specs.Names.{upper, fold, name_size, lower_name}
use Rattle.model.specs.Query.{name_at, good_question, question_at}
use Rattle.model.proofs.NumberLaws.{big_lt, bytes-part}
use Rattle.model.proofs.ListLaws.{test, and_left, and_right, length-map}

-- THE FOLD

fold-cases : (b : ℕ) → ((upper b ≡ true) × (fold b ≡ b + 32)) ⊎ ((upper b ≡ false) × (fold b ≡ b))
unfolding fold
fold-cases b = ⊎_elim (λ (e : upper b ≡ true). inl (e, rw e)) (λ (e : upper b ≡ false). inr (e, rw e)) (test (upper b))

pub upper_is : (b : ℕ) → upper b ≡ true → (65 ≤ b) × (b ≤ 90)
upper_is b e = (leb-true 65 b (and_left (leb 65 b) (leb b 90) e), leb-true b 90 (and_right (leb 65 b) (leb b 90) e))

pub below-upper : (b : ℕ) → b < 65 → upper b ≡ false
below-upper b h = rw (lt-leb 65 b h)

pub above-upper : (b : ℕ) → 90 < b → upper b ≡ false
above-upper b h = let l : leb 65 b ≡ true = le-leb 65 b (omega arith) in rw (l, lt-leb b 90 h)

pub fold_same : (b : ℕ) → upper b ≡ false → fold b ≡ b
unfolding fold
fold_same b e = rw e

-- what is folded has no upper case
pub fold-lower : (b : ℕ) → upper (fold b) ≡ false
fold-lower b =
    ⊎_elim
    (λ (h : (upper b ≡ true) × (fold b ≡ b + 32)). rw h.1 (above-upper (b + 32) (omega (arith, (upper_is b h.0).0))))
    (λ (h : (upper b ≡ false) × (fold b ≡ b)). rw h.1 h.0)
    (fold-cases b)

-- bytes stay bytes
pub fold-byte : (b : ℕ) → b < 256 → fold b < 256
fold-byte b l =
    ⊎_elim
    (λ (h : (upper b ≡ true) × (fold b ≡ b + 32)). omega (arith, h.1, (upper_is b h.0).1))
    (λ (h : (upper b ≡ false) × (fold b ≡ b)). omega (arith, h.1))
    (fold-cases b)

pub bytes-fold : (s : List ℕ) → Bytes s → Bytes (map fold s)
bytes-fold [] p i = lit< tt
bytes-fold (b ∷ s) p zero = fold-byte b (p 0)
bytes-fold (b ∷ s) p (suc i) = bytes-fold s (λ j. p (suc j)) i

-- THE SIZE, from each byte to the next

pub size-stop : (k n i : ℕ) (d : List ℕ) → length d ≤ i → name_size k n (drop i d) ≡ 0
unfolding name_size
size-stop k n i d h = go (drop i d) (length-drop i d ∙ (omega arith))
  where
    go : (s : List ℕ) → length s ≡ 0 → name_size k n s ≡ 0
    go [] e = refl
    go (x ∷ s) e = absurd (omega arith)

module _ (n i : ℕ) (d : List ℕ) (h : i < length d) where
  pub size-byte : (k : ℕ) → name_size (suc k) n (drop i d) ≡ name_size k (n + 1) (drop (suc i) d)
  unfolding name_size
  size-byte k = rw (drop-cons d i 0 h)

  pub size-end : get_or d i 0 ≡ 0 → name_size 0 n (drop i d) ≡ n + 1
  unfolding name_size
  size-end e = rw (drop-cons d i 0 h, eq-eqb (get_or d i 0) 0 e)

  pub size-label : get_or d i 0 ≢ 0 → get_or d i 0 < 64 → name_size 0 n (drop i d) ≡ name_size (get_or d i 0) (n + 1) (drop (suc i) d)
  unfolding name_size
  size-label e l = rw (drop-cons d i 0 h, ne_eqb (get_or d i 0) 0 e, lt-ltb (get_or d i 0) 64 l)

  pub size-long : 64 ≤ get_or d i 0 → name_size 0 n (drop i d) ≡ 0
  unfolding name_size
  size-long l = rw (drop-cons d i 0 h, ne_eqb (get_or d i 0) 0 (λ z. omega arith), le-ltb (get_or d i 0) 64 l)

-- THE SIZE AND THE LIST

-- a name ends behind where it starts, in the list
pub name-bounds : (k n : ℕ) (s : List ℕ) → 1 ≤ name_size k n s → (n < name_size k n s) × (name_size k n s ≤ n + length s)
unfolding name_size
name-bounds k n [] h = absurd (omega arith)
name-bounds zero n (b ∷ s) h = go (eqb b 0) (ltb b 64) h (name-bounds b (n + 1) s)
  where
    go : (u v : Bool) → 1 ≤ cond u (n + 1) (cond v (name_size b (n + 1) s) 0)
        → (1 ≤ name_size b (n + 1) s → (n + 1 < name_size b (n + 1) s) × (name_size b (n + 1) s ≤ n + 1 + length s))
        → (n < cond u (n + 1) (cond v (name_size b (n + 1) s) 0)) × (cond u (n + 1) (cond v (name_size b (n + 1) s) 0) ≤ n + suc (length s))
    go true v i r = (omega arith, omega arith)
    go false true i r = let q = r i in (omega arith, omega arith)
    go false false i r = absurd (omega arith)
name-bounds (suc k) n (b ∷ s) h = let q = name-bounds k (n + 1) s h in (omega arith, omega arith)

-- THE FOLDED BYTES of a name are a stored name

valid-at : (k n : ℕ) (s : List ℕ) → 1 ≤ name_size k n s → lower_name k (map fold (take (name_size k n s - n) s)) ≡ true
unfolding name_size lower_name
valid-at k n [] h = absurd (omega arith)
valid-at zero n (b ∷ s) h = go (eqb b 0) (ltb b 64) refl refl h (λ (i : 1 ≤ name_size b (n + 1) s). valid-at b (n + 1) s i)
  where
    go : (u v : Bool) → eqb b 0 ≡ u → ltb b 64 ≡ v → 1 ≤ cond u (n + 1) (cond v (name_size b (n + 1) s) 0)
        → (1 ≤ name_size b (n + 1) s → lower_name b (map fold (take (name_size b (n + 1) s - (n + 1)) s)) ≡ true)
        → lower_name 0 (map fold (take (cond u (n + 1) (cond v (name_size b (n + 1) s) 0) - n) (b ∷ s))) ≡ true
    go true v eu ev i r =
        let z : b ≡ 0 = eqb-true b 0 eu in
        let m : n + 1 - n ≡ 1 = omega arith in
        let f : fold b ≡ 0 = fold_same b (below-upper b (omega arith)) ∙ z in
        rw (m, f)
    go false true eu ev i r =
        let l : b < 64 = ltb-true b 64 ev in
        let q = name-bounds b (n + 1) s i in
        let m : name_size b (n + 1) s - n ≡ suc (name_size b (n + 1) s - (n + 1)) = omega arith in
        let f : fold b ≡ b = fold_same b (below-upper b (omega arith)) in
        rw (m, f, eu, ev) (r i)
    go false false eu ev i r = absurd (omega arith)
valid-at (suc k) n (b ∷ s) h =
    let q = name-bounds k (n + 1) s h in
    let m : name_size k (n + 1) s - n ≡ suc (name_size k (n + 1) s - (n + 1)) = omega arith in
    rw (m, fold-lower b) (valid-at k (n + 1) s h)

pub name-valid : (s : List ℕ) → 1 ≤ name_size 0 0 s → lower_name 0 (map fold (take (name_size 0 0 s) s)) ≡ true
name-valid s h = rw (sub-zero (name_size 0 0 s)) at (valid-at 0 0 s h)

-- THE NAME OF A QUESTION is a stored name, of 1 to 255 bytes, in the datagram
module _ (d : List ℕ) (at : ℕ) (good : good_question d at ≡ true) where
  some : 1 ≤ name_at d at
  unfolding good_question
  some =
      leb-true _ _ (and_left (leb 1 (name_at d at)) (leb (name_at d at) 255)
      (and_left (leb 1 (name_at d at) && leb (name_at d at) 255) (leb (at + name_at d at + 4) (length d)) good))

  few : name_at d at ≤ 255
  unfolding good_question
  few =
      leb-true _ _ (and_right (leb 1 (name_at d at)) (leb (name_at d at) 255)
      (and_left (leb 1 (name_at d at) && leb (name_at d at) 255) (leb (at + name_at d at + 4) (length d)) good))

  within : at + name_at d at + 4 ≤ length d
  unfolding good_question
  within = leb-true _ _ (and_right (leb 1 (name_at d at) && leb (name_at d at) 255) (leb (at + name_at d at + 4) (length d)) good)

  pub question-within : (1 ≤ name_at d at) × (name_at d at ≤ 255) × (at + name_at d at + 4 ≤ length d)
  question-within = (some, few, within)

  pub question-valid : lower_name 0 (question_at d at).name ≡ true
  unfolding question_at name_at part
  question-valid = name-valid (drop at d) some

  pub question-size : length (question_at d at).name ≡ name_at d at
  unfolding question_at part
  question-size =
      length-map fold (take (name_at d at) (drop at d))
      ∙ length-take-le (name_at d at) (drop at d) (rw (length-drop at d) (let w = within in omega arith))

  pub question-short : length (question_at d at).name ≤ 255
  question-short = rw question-size few

-- its values fit
pub question-bytes : (d : List ℕ) (at : ℕ) → Bytes d → Bytes (question_at d at).name
unfolding question_at
question-bytes d at b = bytes-fold (part at (name_at d at) d) (bytes-part at (name_at d at) d b)

pub question-qtype : (d : List ℕ) (at : ℕ) → Bytes d → (question_at d at).qtype < 256 ^ 2
unfolding question_at
question-qtype d at b = big_lt d (at + name_at d at) 2 b

pub question-qclass : (d : List ℕ) (at : ℕ) → Bytes d → (question_at d at).qclass < 256 ^ 2
unfolding question_at
question-qclass d at b = big_lt d (at + name_at d at + 2) 2 b
