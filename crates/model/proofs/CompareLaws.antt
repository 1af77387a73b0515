-- Two names compared: the answer alone; lengths that differ; parts of two lists that agree up to a place. Assumes nothing.
use Prim.Native.Nat.{ℕ, suc, ◌+◌, ◌-◌, ◌≤◌, ◌<◌}
use native.Mathlib.Omega.{arith}
use mathlib.Core.Path.{◌≡◌, refl, sym, ap, ◌∙◌}
use mathlib.Core.Bool.{Bool, true, false}
use mathlib.Core.List.{List, [], ◌∷◌, ◌++◌}
use mathlib.Core.Logic.{◌≢◌, ⊎_elim}
use lib.ListN.{length, get_or}
use lib.Seq.{drop-cons}
use lib.Dec.{eqb}
use borrow.Author.Tests.{eqb-true, eq-eqb, ne_eqb}
use Rattle.model.specs.Lists.{same}
use Rattle.model.specs.Numbers.{part}
use Rattle.model.specs.Names.{Compared, looked, compared}
use Rattle.model.proofs.NumberLaws.{length_part}
use Rattle.model.proofs.ListLaws.{test, either, same_refl, same-no, same-append, part-add}

-- an answer and a count
abbrev pub compared_as : Bool → ℕ → Compared
compared_as same pairs = record { same = same; pairs = pairs }

-- the answer is that of `same`, by which the rules compare
pub compared_same : (xs ys : List ℕ) → (compared xs ys).same ≡ same xs ys
unfolding compared
compared_same xs ys = refl

-- LENGTHS

-- where they differ no pair is looked at
compared-other-lengths : (xs ys : List ℕ) → length xs ≢ length ys → compared xs ys ≡ compared_as false 0
unfolding compared
compared-other-lengths xs ys h = rw (same-no xs ys (λ e. h (ap length e)), ne_eqb (length xs) (length ys) h)

-- where they are equal
compared-same-length : (xs ys : List ℕ) → length xs ≡ length ys → compared xs ys ≡ compared_as (same xs ys) (looked xs ys)
unfolding compared
compared-same-length xs ys h = rw (eq-eqb (length xs) (length ys) h)

-- PAIRS

pub looked-all : (xs : List ℕ) → looked xs xs ≡ length xs
unfolding looked
looked-all [] = refl
looked-all (x ∷ xs) = rw (eq-eqb x x refl, looked-all xs)

-- a start that agrees is looked at whole
looked-behind : (zs xs ys : List ℕ) → looked (zs ++ xs) (zs ++ ys) ≡ length zs + looked xs ys
unfolding looked
looked-behind [] xs ys = omega arith
looked-behind (z ∷ zs) xs ys = rw (eq-eqb z z refl, looked-behind zs xs ys) (omega arith)

-- what is behind a difference is not looked at
looked-before : (ws vs xs ys : List ℕ) → length ws ≡ length vs → ws ≢ vs → looked (ws ++ xs) (vs ++ ys) ≡ looked ws vs
unfolding looked
looked-before [] [] xs ys l h = absurd (h refl)
looked-before [] (v ∷ vs) xs ys l h = absurd (omega arith)
looked-before (w ∷ ws) [] xs ys l h = absurd (omega arith)
looked-before (w ∷ ws) (v ∷ vs) xs ys l h =
    ⊎_elim
    (λ (e : eqb w v ≡ true).
    rw e (ap suc (looked-before ws vs xs ys (omega arith) (λ z. h (ap (λ (x : ℕ). x ∷ ws) (eqb-true w v e) ∙ ap (λ (x : List ℕ). v ∷ x) z)))))
    (λ (e : eqb w v ≡ false). rw e)
    (test (eqb w v))

looked-most : (xs ys : List ℕ) → looked xs ys ≤ length xs
unfolding looked
looked-most [] ys = omega arith
looked-most (x ∷ xs) [] = omega arith
looked-most (x ∷ xs) (y ∷ ys) = either (λ (k : ℕ). k ≤ suc (length xs)) (eqb x y) (omega (arith, looked-most xs ys)) (omega arith)

-- no more than there are
pub pairs-most : (xs ys : List ℕ) → (compared xs ys).pairs ≤ length xs
unfolding compared
pairs-most xs ys = either (λ (k : ℕ). k ≤ length xs) (eqb (length xs) (length ys)) (looked-most xs ys) (omega arith)

-- PARTS

part-one : (at : ℕ) (s : List ℕ) → at < length s → part at 1 s ≡ get_or s at 0 ∷ []
unfolding part
part-one at s h = rw (drop-cons s at 0 h)

-- n elements are i and then k
part-two : (at n i k : ℕ) (s : List ℕ) → i + k ≡ n → part at n s ≡ part at i s ++ part (at + i) k s
part-two at n i k s e = ap (λ (x : ℕ). part at x s) (sym e) ∙ part-add at i k s

-- parts of s from a and of t from b
module _ (s t : List ℕ) (a b : ℕ) where
  -- lengths that differ
  pub parts-other-lengths : (m n : ℕ) → a + m ≤ length s → b + n ≤ length t → m ≢ n → compared (part a m s) (part b n t) ≡ compared_as false 0
  parts-other-lengths m n h l d = compared-other-lengths (part a m s) (part b n t) (λ e. d (sym (length_part a m s h) ∙ e ∙ length_part b n t l))

  parts-same-length : (n : ℕ) → a + n ≤ length s → b + n ≤ length t → length (part a n s) ≡ length (part b n t)
  parts-same-length n h l = length_part a n s h ∙ sym (length_part b n t l)

  -- all agree
  pub parts-agree : (n : ℕ) → a + n ≤ length s → part a n s ≡ part b n t → compared (part a n s) (part b n t) ≡ compared_as true n
  parts-agree n h e =
      rw e (compared-same-length (part b n t) (part b n t) refl ∙ rw (same_refl (part b n t), looked-all (part b n t), ← e, length_part a n s h))

  -- the first k are not the same: the others are not looked at
  starts-differ : (n k : ℕ) → k ≤ n → a + n ≤ length s → b + n ≤ length t → part a k s ≢ part b k t
      → compared (part a n s) (part b n t) ≡ compared_as false (compared (part a k s) (part b k t)).pairs
  starts-differ n k m h l d =
      let w = part a k s in
      let v = part b k t in
      let u = part (a + k) (n - k) s in
      let r = part (b + k) (n - k) t in
      let x : length w ≡ length v = parts-same-length k (omega arith) (omega arith) in
      compared-same-length (part a n s) (part b n t) (parts-same-length n h l)
      ∙ rw (part-two a n k (n - k) s (omega arith), part-two b n k (n - k) t (omega arith), same-append w u v r x, same-no w v d, looked-before w v u r x d, compared-same-length w v x)

-- the first i agree, and k are behind them: these are looked at, and of the others what a comparison of them looks at
module _ (s t : List ℕ) (a b n i k : ℕ) (m : i + k ≡ n) (h : a + n ≤ length s) (l : b + n ≤ length t) (e : part a i s ≡ part b i t) where
  pub parts-behind : compared (part a n s) (part b n t)
      ≡ compared_as (compared (part (a + i) k s) (part (b + i) k t)).same (i + (compared (part (a + i) k s) (part (b + i) k t)).pairs)
  parts-behind =
      let w = part (a + i) k s in
      let v = part (b + i) k t in
      compared-same-length (part a n s) (part b n t) (parts-same-length s t a b n h l)
      ∙ rw (
        part-two a n i k s m,
        part-two b n i k t m,
        e,
        same-append (part b i t) w (part b i t) v refl,
        same_refl (part b i t),
        looked-behind (part b i t) w v,
        length_part b i t (omega arith),
        compared-same-length w v (parts-same-length s t (a + i) (b + i) k (omega arith) (omega arith)),
      )

-- the first i agree, and the k behind them are not the same
module _ (s t : List ℕ) (a b n i k : ℕ) (m : i + k ≤ n) (h : a + n ≤ length s) (l : b + n ≤ length t) (e : part a i s ≡ part b i t) where
  pub parts-differ : part (a + i) k s ≢ part (b + i) k t
      → compared (part a n s) (part b n t) ≡ compared_as false (i + (compared (part (a + i) k s) (part (b + i) k t)).pairs)
  parts-differ d =
      parts-behind s t a b n i (n - i) (omega arith) h l e
      ∙ rw (starts-differ s t (a + i) (b + i) (n - i) k (omega arith) (omega arith) (omega arith) d)

-- the first i agree, and the pair behind them differs
pub pair-differs : (s t : List ℕ) (a b n i : ℕ) → i < n → a + n ≤ length s → b + n ≤ length t → part a i s ≡ part b i t
    → get_or s (a + i) 0 ≢ get_or t (b + i) 0 → compared (part a n s) (part b n t) ≡ compared_as false (i + 1)
unfolding compared looked
pair-differs s t a b n i m h l e d =
    let x = part-one (a + i) s (omega arith) in
    let y = part-one (b + i) t (omega arith) in
    parts-differ s t a b n i 1 (omega arith) h l e (λ z. d (ap (λ (u : List ℕ). get_or u 0 0) (sym x ∙ z ∙ y)))
    ∙ rw (x, y, ne_eqb (get_or s (a + i) 0) (get_or t (b + i) 0) d)
