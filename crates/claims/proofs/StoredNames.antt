-- The claim of stored names, of the model's test. Assumes nothing.
use Prim.Native.Nat.{ℕ, zero, suc, ◌+◌, ◌-◌, ◌≤◌, ◌<◌}
use native.Mathlib.Nat.{add-zero}
use native.Mathlib.Omega.{arith}
use mathlib.Core.Path.{◌≡◌, refl, ◌∙◌, subst}
use mathlib.Core.Bool.{Bool, true, false, not, cond, ◌&&◌}
use mathlib.Core.List.{List, [], ◌∷◌}
use mathlib.Core.Logic.{⊎_elim, ◌≢◌}
use lib.ListN.{length, get_or, drop, length-drop}
use lib.Seq.{drop-cons}
use lib.Dec.{eqb, leb, ltb}
use borrow.Author.Tests.{eqb-true, eqb-false, eq-eqb, le-leb, ltb-true, ltb-false, lt-ltb, not-true}
use Rattle.model.specs.Names.{upper, name_size, lower_name}
use Rattle.model.specs.Query.{name_at}
use Rattle.model.proofs.ListLaws.{test, never, and_left, and_right, and_both, get_or-past}
use Rattle.model.proofs.NameLaws.{upper_is, below-upper, size-end}
use Rattle.claims.specs.Refusals.{Label, NameEnds}
use Rattle.claims.specs.StoredNames.{StoredName, StoredNames}
use Rattle.claims.proofs.Refusals.NameReading.{label-size, end-size, stop-size, long-size, NameScan, name-scan}

-- FROM THE TEST TO THE NAME; k bytes of a label are still to come, and n bytes were passed

-- the name takes the whole list
whole : (k n : ℕ) (s : List ℕ) → lower_name k s ≡ true → name_size k n s ≡ n + length s
unfolding lower_name name_size
whole k n [] h = never h refl
whole zero n (b ∷ s) h = go (eqb b 0) (ltb b 64) h (whole b (n + 1) s)
  where
    go : (u v : Bool) → cond u (eqb (length s) 0) (v && lower_name b s) ≡ true → (lower_name b s ≡ true → name_size b (n + 1) s ≡ n + 1 + length s)
        → cond u (n + 1) (cond v (name_size b (n + 1) s) 0) ≡ n + suc (length s)
    go true v e r = omega (arith, eqb-true (length s) 0 e)
    go false true e r = omega (arith, r e)
    go false false e r = never e refl
whole (suc k) n (b ∷ s) h = omega (arith, whole k (n + 1) s (and_right (not (upper b)) (lower_name k s) h))

-- and none of its bytes is A to Z, a length byte neither
none-upper : (k : ℕ) (s : List ℕ) → lower_name k s ≡ true → (i : ℕ) → upper (get_or s i 0) ≡ false
unfolding lower_name
none-upper k [] h i = refl
none-upper zero (b ∷ s) h i = go (eqb b 0) (ltb b 64) refl refl h (none-upper b s) i
  where
    go : (u v : Bool) → eqb b 0 ≡ u → ltb b 64 ≡ v → cond u (eqb (length s) 0) (v && lower_name b s) ≡ true
        → (lower_name b s ≡ true → (i : ℕ) → upper (get_or s i 0) ≡ false) → (i : ℕ) → upper (get_or (b ∷ s) i 0) ≡ false
    go true v eu ev e r zero = below-upper b (omega (arith, eqb-true b 0 eu))
    go true v eu ev e r (suc i) = rw (get_or-past s i 0 (omega (arith, eqb-true (length s) 0 e)))
    go false true eu ev e r zero = below-upper b (omega (arith, ltb-true b 64 ev))
    go false true eu ev e r (suc i) = r e i
    go false false eu ev e r i = never e refl
none-upper (suc k) (b ∷ s) h zero = not-true (upper b) (and_left (not (upper b)) (lower_name k s) h)
none-upper (suc k) (b ∷ s) h (suc i) = none-upper k s (and_right (not (upper b)) (lower_name k s) h) i

is-upper : (b : ℕ) → 65 ≤ b → b ≤ 90 → upper b ≡ true
is-upper b l h = and_both (leb 65 b) (leb b 90) (le-leb 65 b l) (le-leb b 90 h)

filled : (s : List ℕ) → lower_name 0 s ≡ true → NameEnds s 0 (length s)
unfolding name_at lower_name
filled [] h = never h refl
filled (b ∷ s) h = go (name-scan (b ∷ s) 0)
  where
    size : name_at (b ∷ s) 0 ≡ 0 + length (b ∷ s)
    size = whole 0 0 (b ∷ s) h

    go : NameScan (b ∷ s) 0 → NameEnds (b ∷ s) 0 (length (b ∷ s))
    go (NameScan.ends e n) =
        let z : e ≡ length (b ∷ s) = omega (arith, size, end-size (b ∷ s) 0 e n) in
        subst (NameEnds (b ∷ s) 0) z n
    go (NameScan.stops q l o) = absurd (omega (arith, size, stop-size (b ∷ s) 0 q l o))
    go (NameScan.bars q l i o) = absurd (omega (arith, size, long-size (b ∷ s) 0 q l i o))

-- FROM THE NAME TO THE TEST

module _ (s : List ℕ) where
  -- the rest of a label is passed
  past-label : (k i : ℕ) → i + k ≤ length s → ((j : ℕ) → i ≤ j → j < i + k → upper (get_or s j 0) ≡ false) → lower_name k (drop i s) ≡ lower_name 0 (drop (i + k) s)
  unfolding lower_name
  past-label zero i l h = rw (add-zero i)
  past-label (suc k) i l h =
      let e : suc i + k ≡ i + suc k = omega arith in
      let inside : i < length s = omega arith in
      let first : lower_name (suc k) (drop i s) ≡ lower_name k (drop (suc i) s) = rw (drop-cons s i 0 inside, h i (omega arith) (omega arith)) in
      first ∙ past-label k (suc i) (omega arith) (λ j a b. h j (omega arith) (omega arith)) ∙ rw e

  module _ (n : StoredName s) where
    size : 0 + name_at s 0 ≡ length s
    size = end-size s 0 (length s) n.fills

    some : 1 ≤ length s
    some = omega (arith, n.fills.inside)

    -- each label starts in the list
    starts : (q : ℕ) → Label s 0 q → q < length s
    starts q l =
        ⊎_elim
        (λ (t : ltb q (length s) ≡ true). ltb-true q (length s) t)
        (λ (t : ltb q (length s) ≡ false). absurd (omega (arith, size, some, stop-size s 0 q l (ltb-false q (length s) t))))
        (test (ltb q (length s)))

    -- with a byte under 64
    short : (q : ℕ) → Label s 0 q → get_or s q 0 < 64
    short q l =
        ⊎_elim
        (λ (t : ltb (get_or s q 0) 64 ≡ true). ltb-true (get_or s q 0) 64 t)
        (λ (t : ltb (get_or s q 0) 64 ≡ false). absurd (omega (arith, size, some, long-size s 0 q l (starts q l) (ltb-false (get_or s q 0) 64 t))))
        (test (ltb (get_or s q 0) 64))

    lower-label : (q i : ℕ) → Label s 0 q → q < i → i ≤ q + get_or s q 0 → upper (get_or s i 0) ≡ false
    lower-label q i l a b =
        ⊎_elim
        (λ (t : upper (get_or s i 0) ≡ true). absurd (n.lower q i l a b (upper_is (get_or s i 0) t).0 (upper_is (get_or s i 0) t).1))
        (λ (t : upper (get_or s i 0) ≡ false). t)
        (test (upper (get_or s i 0)))

    -- from each label on; k is enough to pass those that are left
    passes : (k q : ℕ) → length s ≤ q + k → Label s 0 q → lower_name 0 (drop q s) ≡ true
    unfolding lower_name
    passes zero q h l = absurd (omega (arith, starts q l))
    passes (suc k) q h l =
        ⊎_elim
        (λ (z : eqb (get_or s q 0) 0 ≡ true).
        let r = label-size s 0 q l in
        let e = size-end (q - 0) q s (starts q l) (eqb-true (get_or s q 0) 0 z) in
        rw (drop-cons s q 0 (starts q l), z) (eq-eqb (length (drop (suc q) s)) 0 (omega (arith, length-drop (suc q) s, size, r.1, e))))
        (λ (z : eqb (get_or s q 0) 0 ≡ false).
        let b = get_or s q 0 in
        let some : b ≢ 0 = eqb-false b 0 z in
        let on : Label s 0 (q + 1 + b) = Label.next q (q + 1 + b) l (starts q l) (omega arith) (short q l) refl in
        let e : suc q + b ≡ q + 1 + b = omega arith in
        let first : lower_name 0 (drop q s) ≡ lower_name b (drop (suc q) s) = rw (drop-cons s q 0 (starts q l), z, lt-ltb b 64 (short q l)) in
        first ∙ past-label b (suc q) (omega (arith, starts (q + 1 + b) on)) (λ j a c. lower-label q j l (omega arith) (omega arith)) ∙ (rw e (passes k (q + 1 + b) (omega arith) on)))
        (test (eqb (get_or s q 0) 0))

-- THE CLAIM

pub stored-names : StoredNames
stored-names s = (
  λ h.
      record {
        fills = filled s h;
        lower = λ q i l a b c d. never (is-upper (get_or s i 0) c d) (none-upper 0 s h i);
      },
  λ n. passes s n (length s) 0 (omega arith) Label.first,
)
