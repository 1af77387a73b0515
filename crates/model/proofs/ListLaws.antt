-- Laws of lists and tests: each fold over one element more, counts, the first that passes, and equality as a test. Assumes nothing.
use Prim.Native.Nat.{ℕ, zero, suc, ◌+◌, ◌*◌, ◌≤◌, ◌<◌}
use native.Mathlib.Nat.{eq-or-lt_of_le, mul-suc, mul-zero}
use native.Mathlib.Omega.{arith}
use mathlib.Core.Path.{◌≡◌, refl, sym, ap, ◌∙◌, fun_ext}
use mathlib.Core.Bool.{Bool, true, false, not, cond, ◌&&◌, ◌||◌, and-true, and_assoc, not-not}
use mathlib.Core.List.{List, [], ◌∷◌, ◌++◌, append-nil, append_assoc, map}
use mathlib.Core.Logic.{◌⊎◌, inl, inr, ⊎_elim, ◌≢◌}
use lib.ListN.{length, get_or, drop, set, length-append, get_or-append}
use lib.Seq.{ext_get_or, take-add, drop-drop, get_or_at}
use lib.Dec.{eqb, leb, ltb}
use borrow.Author.Tests.{eqb-true, eqb-false, eq-eqb, ltb-true, ltb-false, le-leb, lt-leb, not-true}
use Rattle.model.specs.Lists.{bit, count, any, keep, every, no_two, index_of, up_to, flat, same}
use Rattle.model.specs.Numbers.{part}
use Rattle.model.proofs.NumberLaws.{length_part, part_none}

-- TESTS

pub bit_le : (b : Bool) → bit b ≤ 1
bit_le true = omega arith
bit_le false = omega arith

pub bit-zero : (b : Bool) → bit b ≡ 0 → b ≡ false
bit-zero true e = absurd (omega arith)
bit-zero false e = refl

pub test : (b : Bool) → (b ≡ true) ⊎ (b ≡ false)
test true = inl refl
test false = inr refl

pub never {ℓ} : {X : Type ℓ} {b : Bool} → b ≡ true → b ≡ false → X
never p q = let z : ◌≡◌ {A = ℕ} 1 0 = ap bit (sym p ∙ q) in absurd (omega arith)

pub bit-mono : (a b : Bool) → (a ≡ true → b ≡ true) → bit a ≤ bit b
bit-mono true true h = omega arith
bit-mono true false h = never (h refl) refl
bit-mono false b h = omega arith

-- two tests that imply each other are one
pub iff : (a b : Bool) → (a ≡ true → b ≡ true) → (b ≡ true → a ≡ true) → a ≡ b
iff true b f g = sym (f refl)
iff false true f g = g refl
iff false false f g = refl

pub and_left : (a b : Bool) → a && b ≡ true → a ≡ true
and_left true b e = refl
and_left false b e = e

pub and_right : (a b : Bool) → a && b ≡ true → b ≡ true
and_right true b e = e
and_right false b e = never e refl

pub and_both : (a b : Bool) → a ≡ true → b ≡ true → a && b ≡ true
and_both a b p q = rw (p, q)

pub or_left : (a b : Bool) → a || b ≡ false → a ≡ false
or_left true b e = e
or_left false b e = refl

pub or_right : (a b : Bool) → a || b ≡ false → b ≡ false
or_right true b e = never {b = true} refl e
or_right false b e = e

-- where not both pass, the first fails, or it passes and the second fails
pub not-both {ℓ} : {P : Type ℓ} (a b : Bool) → (a ≡ false → P) → (a ≡ true → b ≡ false → P) → a && b ≡ false → P
not-both true b f g h = g refl h
not-both false b f g h = f refl

-- where one passes
pub one_of {ℓ} : {P : Type ℓ} (a b : Bool) → (a ≡ true → P) → (b ≡ true → P) → a || b ≡ true → P
one_of true b f g h = f refl
one_of false b f g h = g h

-- what holds of both branches holds of the choice
pub either : {A : Type 0} (P : A → Type 0) (v : Bool) {a b : A} → P a → P b → P (cond v a b)
either P true p q = p
either P false p q = q

pub swap : (a b c d : Bool) → (a && b) && (c && d) ≡ (a && c) && (b && d)
swap true true c d = refl
swap true false true d = refl
swap true false false d = refl
swap false b c d = refl

pub not-and : (a b : Bool) → not (a && b) ≡ not a || not b
not-and true b = refl
not-and false b = refl

pub not-less : (a b : ℕ) → not (ltb a b) ≡ leb b a
not-less a b =
    ⊎_elim
    (λ (t : ltb a b ≡ true). rw t (sym (lt-leb b a (ltb-true a b t))))
    (λ (t : ltb a b ≡ false). rw t (sym (le-leb b a (ltb-false a b t))))
    (test (ltb a b))

pub eqb-sym : (x y : ℕ) → eqb x y ≡ eqb y x
eqb-sym x y = iff (eqb x y) (eqb y x) (λ e. eq-eqb y x (sym (eqb-true x y e))) (λ e. eq-eqb x y (sym (eqb-true y x e)))

-- COUNTS

module _ {A : Type 0} where
  pub count-append : (l m : List A) (p : A → Bool) → count (l ++ m) p ≡ count l p + count m p
  count-append [] m p = omega arith
  count-append (x ∷ l) m p = omega (arith, count-append l m p)

  pub count-ext : (l : List A) (p q : A → Bool) → ((x : A) → p x ≡ q x) → count l p ≡ count l q
  count-ext l p q h = ap (count l) (fun_ext h)

  pub count-keep : (q : A → Bool) (l : List A) (p : A → Bool) → count (keep q l) p ≡ count l (λ x. q x && p x)
  unfolding keep
  count-keep q [] p = refl
  count-keep q (x ∷ l) p = go (q x) (count-keep q l p)
    where
      go : (b : Bool) → count (keep q l) p ≡ count l (λ x. q x && p x)
          → count (cond b (x ∷ keep q l) (keep q l)) p ≡ bit (b && p x) + count l (λ x. q x && p x)
      go true e = omega arith
      go false e = omega arith

  -- a list is what is kept and what is struck
  pub count-split : (q : A → Bool) (l : List A) (p : A → Bool) → count l p ≡ count (keep q l) p + count (keep (λ x. not (q x)) l) p
  unfolding keep
  count-split q [] p = refl
  count-split q (x ∷ l) p = go (q x) (count-split q l p)
    where
      go : (b : Bool) → count l p ≡ count (keep q l) p + count (keep (λ x. not (q x)) l) p
          → bit (p x) + count l p
          ≡ count (cond b (x ∷ keep q l) (keep q l)) p + count (cond (not b) (x ∷ keep (λ x. not (q x)) l) (keep (λ x. not (q x)) l)) p
      go true e = omega arith
      go false e = omega arith

  pub count-mono : (l : List A) (p q : A → Bool) → ((x : A) → p x ≡ true → q x ≡ true) → count l p ≤ count l q
  count-mono [] p q h = omega arith
  count-mono (x ∷ l) p q h = omega (arith, bit-mono (p x) (q x) (h x), count-mono l p q h)

  -- what passes r passes p or q
  pub count-both : (l : List A) (p q r : A → Bool) → ((x : A) → r x ≡ true → (p x ≡ true) ⊎ (q x ≡ true)) → count l r ≤ count l p + count l q
  count-both [] p q r h = omega arith
  count-both (x ∷ l) p q r h = go (r x) refl (count-both l p q r h)
    where
      go : (v : Bool) → r x ≡ v → count l r ≤ count l p + count l q → bit v + count l r ≤ bit (p x) + count l p + (bit (q x) + count l q)
      go true e i = ⊎_elim (λ (z : p x ≡ true). omega (arith, ap bit z)) (λ (z : q x ≡ true). omega (arith, ap bit z)) (h x e)
      go false e i = omega arith

  pub count-any : (l : List A) → count l any ≡ length l
  count-any [] = refl
  count-any (x ∷ l) = omega (arith, count-any l)

  pub count-le : (l : List A) (p : A → Bool) → count l p ≤ length l
  count-le [] p = omega arith
  count-le (x ∷ l) p = omega (arith, bit_le (p x), count-le l p)

  -- one element written over
  pub count_set : (l : List A) (i : ℕ) (x d : A) (p : A → Bool) → i < length l → count (set l i x) p + bit (p (get_or l i d)) ≡ count l p + bit (p x)
  count_set [] i x d p h = absurd (omega arith)
  count_set (y ∷ l) zero x d p h = omega arith
  count_set (y ∷ l) (suc i) x d p h = omega (arith, count_set l i x d p (omega arith))

  -- one that passes counts
  pub count_at : (l : List A) (i : ℕ) (d : A) (p : A → Bool) → i < length l → p (get_or l i d) ≡ true → 1 ≤ count l p
  count_at [] i d p h t = absurd (omega arith)
  count_at (y ∷ l) zero d p h t = omega (arith, ap bit t)
  count_at (y ∷ l) (suc i) d p h t = omega (arith, count_at l i d p (omega arith) t)

  -- a test that at most one passes is passed at one place only
  pub one_place : (l : List A) (i j : ℕ) (d : A) (p : A → Bool) → count l p ≤ 1 → i < length l → j < length l → p (get_or l i d) ≡ true
      → p (get_or l j d) ≡ true → i ≡ j
  one_place [] i j d p h a b s t = absurd (omega arith)
  one_place (y ∷ l) zero zero d p h a b s t = refl
  one_place (y ∷ l) zero (suc j) d p h a b s t = absurd (omega (arith, ap bit s, count_at l j d p (omega arith) t))
  one_place (y ∷ l) (suc i) zero d p h a b s t = absurd (omega (arith, ap bit t, count_at l i d p (omega arith) s))
  one_place (y ∷ l) (suc i) (suc j) d p h a b s t = ap suc (one_place l i j d p (omega arith) (omega arith) (omega arith) s t)

module _ {A B : Type 0} where
  pub count_map : (f : A → B) (l : List A) (p : B → Bool) → count (map f l) p ≡ count l (λ x. p (f x))
  count_map f [] p = refl
  count_map f (x ∷ l) p = ap (λ (n : ℕ). bit (p (f x)) + n) (count_map f l p)

  pub length-map : (f : A → B) (l : List A) → length (map f l) ≡ length l
  length-map f [] = refl
  length-map f (x ∷ l) = ap suc (length-map f l)

  pub get_or-map : (f : A → B) (l : List A) (i : ℕ) (d : A) (e : B) → i < length l → get_or (map f l) i e ≡ f (get_or l i d)
  get_or-map f [] i d e h = absurd (omega arith)
  get_or-map f (x ∷ l) zero d e h = refl
  get_or-map f (x ∷ l) (suc i) d e h = get_or-map f l i d e (omega arith)

pub get_or-any : {A : Type 0} (l : List A) (i : ℕ) (d e : A) → i < length l → get_or l i d ≡ get_or l i e
get_or-any [] i d e h = absurd (omega arith)
get_or-any (x ∷ l) zero d e h = refl
get_or-any (x ∷ l) (suc i) d e h = get_or-any l i d e (omega arith)

pub get_or-past : {A : Type 0} (l : List A) (i : ℕ) (d : A) → length l ≤ i → get_or l i d ≡ d
get_or-past [] i d h = refl
get_or-past (x ∷ l) zero d h = absurd (omega arith)
get_or-past (x ∷ l) (suc i) d h = get_or-past l i d (omega arith)

-- a count by a key may be read either way round
pub count-flip : {A : Type 0} (key : A → ℕ) (l : List A) (z : ℕ) → count l (λ x. eqb z (key x)) ≡ count l (λ x. eqb (key x) z)
count-flip {A} key l z = ap (count l) (fun_ext (λ (x : A). eqb-sym z (key x)))

-- EVERY AND NO TWO

module _ {A : Type 0} where
  pub every_append : (p : A → Bool) (l m : List A) → every p (l ++ m) ≡ every p l && every p m
  unfolding every
  every_append p [] m = refl
  every_append p (x ∷ l) m = rw (every_append p l m) (sym (and_assoc (p x) (every p l) (every p m)))

  pub every-nil : (p : A → Bool) → every p [] ≡ true
  unfolding every
  every-nil p = refl

  pub every-snoc : (p : A → Bool) (l : List A) (x : A) → every p (l ++ (x ∷ [])) ≡ every p l && p x
  unfolding every
  every-snoc p l x = every_append p l (x ∷ []) ∙ ap (λ (b : Bool). every p l && b) (and-true (p x))

  pub every-at : (p : A → Bool) (l : List A) (i : ℕ) (d : A) → every p l ≡ true → i < length l → p (get_or l i d) ≡ true
  unfolding every
  every-at p [] i d e h = absurd (omega arith)
  every-at p (x ∷ l) zero d e h = and_left (p x) (every p l) e
  every-at p (x ∷ l) (suc i) d e h = every-at p l i d (and_right (p x) (every p l) e) (omega arith)

  pub at_every : (p : A → Bool) (l : List A) (d : A) → ((i : ℕ) → i < length l → p (get_or l i d) ≡ true) → every p l ≡ true
  unfolding every
  at_every p [] d h = refl
  at_every p (x ∷ l) d h = and_both (p x) (every p l) (h 0 (omega arith)) (at_every p l d (λ i m. h (suc i) (omega arith)))

  pub every-none : (p : A → Bool) (l : List A) → every p l ≡ true → count l (λ x. not (p x)) ≡ 0
  unfolding every
  every-none p [] h = refl
  every-none p (x ∷ l) h =
      let q : p x ≡ true = and_left (p x) (every p l) h in rw q (omega (arith, every-none p l (and_right (p x) (every p l) h)))

  pub none-every : (p : A → Bool) (l : List A) → count l (λ x. not (p x)) ≡ 0 → every p l ≡ true
  unfolding every
  none-every p [] h = refl
  none-every p (x ∷ l) h = go (p x) refl (none-every p l (omega arith))
    where
      go : (v : Bool) → p x ≡ v → every p l ≡ true → v && every p l ≡ true
      go true e z = z
      go false e z = absurd (omega (arith, ap (λ (v : Bool). bit (not v)) e))

  -- each fails exactly if none passes
  pub every-not : (p : A → Bool) (l : List A) → every (λ x. not (p x)) l ≡ true → count l p ≡ 0
  every-not p l h = count-ext l p (λ x. not (not (p x))) (λ x. sym (not-not (p x))) ∙ every-none (λ x. not (p x)) l h

  pub not-every : (p : A → Bool) (l : List A) → count l p ≡ 0 → every (λ x. not (p x)) l ≡ true
  not-every p l h = none-every (λ x. not (p x)) l (count-ext l (λ x. not (not (p x))) p (λ x. not-not (p x)) ∙ h)

  pub every-all : (p : A → Bool) (l : List A) → ((x : A) → p x ≡ true) → every p l ≡ true
  unfolding every
  every-all p [] h = refl
  every-all p (x ∷ l) h = and_both (p x) (every p l) (h x) (every-all p l h)

  pub every-both : (p q : A → Bool) (l : List A) → every (λ x. p x && q x) l ≡ every p l && every q l
  unfolding every
  every-both p q [] = refl
  every-both p q (x ∷ l) = rw (every-both p q l) (swap (p x) (q x) (every p l) (every q l))

  pub no_two-nil : (q : A → A → Bool) → no_two q [] ≡ true
  unfolding no_two
  no_two-nil q = refl

  pub no_two-snoc : (q : A → A → Bool) (l : List A) (z : A) → no_two q (l ++ (z ∷ [])) ≡ no_two q l && every (λ y. not (q y z)) l
  unfolding no_two every
  no_two-snoc q [] z = refl
  no_two-snoc q (x ∷ l) z =
      rw (every-snoc (λ y. not (q x y)) l z, no_two-snoc q l z)
      (swap (every (λ y. not (q x y)) l) (not (q x z)) (no_two q l) (every (λ y. not (q y z)) l))

  -- where each that passes r passes q, none passes r if none passes q
  none-like : (q r : A → Bool) (l : List A) → every (λ y. not (q y)) l ≡ true → ((y : A) → r y ≡ true → q y ≡ true) → count l r ≡ 0
  none-like q r l h i = let z = every-not q l h in let m = count-mono l r q i in omega arith

  pub none_of : (q r : A → Bool) (l : List A) → every (λ y. not (q y)) l ≡ true → ((y : A) → r y ≡ true → q y ≡ true) → every (λ y. not (r y)) l ≡ true
  none_of q r l h i = not-every r l (none-like q r l h i)

  -- no two agree: at most one passes a test by which any two agree
  pub one_at_most : (q : A → A → Bool) (r : A → Bool) (l : List A) → ((x y : A) → r x ≡ true → r y ≡ true → q x y ≡ true) → no_two q l ≡ true
      → count l r ≤ 1
  unfolding no_two
  one_at_most q r [] i h = omega arith
  one_at_most q r (x ∷ l) i h = go (r x) refl (one_at_most q r l i (and_right (every (λ y. not (q x y)) l) (no_two q l) h))
    where
      go : (v : Bool) → r x ≡ v → count l r ≤ 1 → bit v + count l r ≤ 1
      go true e z = omega (arith, none-like (q x) r l (and_left (every (λ y. not (q x y)) l) (no_two q l) h) (λ y s. i x y e s))
      go false e z = omega arith

  pub at_most_one : (q : A → A → Bool) (l : List A) → ((x : A) → q x x ≡ true) → ((x : A) → count l (q x) ≤ 1) → no_two q l ≡ true
  unfolding no_two
  at_most_one q [] i h = refl
  at_most_one q (x ∷ l) i h =
      and_both (every (λ y. not (q x y)) l) (no_two q l)
      (not-every (q x) l (omega (arith, h x, ap bit (i x))))
      (at_most_one q l i (λ y. omega (arith, h y)))

-- UP TO

module _ {A : Type 0} where
  pub up_to-next : (n : ℕ) (f : ℕ → A) → up_to (n + 1) f ≡ up_to n f ++ (f n ∷ [])
  unfolding up_to
  up_to-next n f = let e : n + 1 ≡ suc n = omega arith in rw e

  pub up_to-none : (f : ℕ → A) → up_to 0 f ≡ []
  unfolding up_to
  up_to-none f = refl

  pub length-up_to : (n : ℕ) (f : ℕ → A) → length (up_to n f) ≡ n
  unfolding up_to
  length-up_to zero f = refl
  length-up_to (suc n) f = rw (length-append, length-up_to n f) (omega arith)

  pub get_or-up_to : (n : ℕ) (f : ℕ → A) (i : ℕ) (d : A) → i < n → get_or (up_to n f) i d ≡ f i
  unfolding up_to
  get_or-up_to zero f i d h = absurd (omega arith)
  get_or-up_to (suc n) f i d h = go (eqb i n) refl (λ (l : i < n). get_or-up_to n f i d l)
    where
      below : i < n → get_or (up_to n f ++ (f n ∷ [])) i d ≡ get_or (up_to n f) i d
      below l = get_or-append (up_to n f) (f n ∷ []) d i (rw (length-up_to n f) l)

      go : (b : Bool) → eqb i n ≡ b → (i < n → get_or (up_to n f) i d ≡ f i) → get_or (up_to n f ++ (f n ∷ [])) i d ≡ f i
      go true e rec = let q : i ≡ n = eqb-true i n e in rw q (get_or_at (up_to n f) (f n) [] d n (length-up_to n f))
      go false e rec =
          let q : i < n = ⊎_elim (λ (z : i ≡ n). absurd (eqb-false i n e z)) (λ (z : i < n). z) (let z : i ≤ n = omega arith in eq-or-lt_of_le z) in
          below q ∙ rec q

  pub up_to-ext : (n : ℕ) (f g : ℕ → A) → ((i : ℕ) → i < n → f i ≡ g i) → up_to n f ≡ up_to n g
  unfolding up_to
  up_to-ext zero f g h = refl
  up_to-ext (suc n) f g h = rw (up_to-ext n f g (λ i l. h i (omega arith)), h n (omega arith))

  -- a list is made of its elements
  pub up_to-get_or : (l : List A) (d : A) → up_to (length l) (λ i. get_or l i d) ≡ l
  up_to-get_or l d =
      let e : length (up_to (length l) (λ i. get_or l i d)) ≡ length l = length-up_to (length l) (λ i. get_or l i d) in
      ext_get_or d (up_to (length l) (λ i. get_or l i d)) l e (λ i h. get_or-up_to (length l) (λ i. get_or l i d) i d (rw e at h))

  -- one element more
  pub every-next : (n : ℕ) (f : ℕ → A) (p : A → Bool) → every p (up_to (n + 1) f) ≡ every p (up_to n f) && p (f n)
  every-next n f p = rw (up_to-next n f) (every-snoc p (up_to n f) (f n))

  pub no_two-next : (n : ℕ) (f : ℕ → A) (q : A → A → Bool) → no_two q (up_to (n + 1) f) ≡ no_two q (up_to n f) && every (λ y. not (q y (f n))) (up_to n f)
  no_two-next n f q = rw (up_to-next n f) (no_two-snoc q (up_to n f) (f n))

  -- a test of each element, and of each index
  pub every-up_to : (n : ℕ) (f : ℕ → A) (p : A → Bool) → every p (up_to n f) ≡ every (λ i. p (f i)) (up_to n (λ i. i))
  unfolding up_to
  every-up_to zero f p = every-nil p ∙ sym (every-nil (λ (i : ℕ). p (f i)))
  every-up_to (suc n) f p =
      every-snoc p (up_to n f) (f n) ∙ ap (λ (b : Bool). b && p (f n)) (every-up_to n f p) ∙ sym (every-snoc (λ i. p (f i)) (up_to n (λ i. i)) n)

-- a test that each index passes
pub every-index : (p : ℕ → Bool) (n : ℕ) → every p (up_to n (λ i. i)) ≡ true → (i : ℕ) → i < n → p i ≡ true
every-index p n h i l =
    let e : get_or (up_to n (λ i. i)) i 0 ≡ i = get_or-up_to n (λ i. i) i 0 l in
    rw e at (every-at p (up_to n (λ i. i)) i 0 h (rw (length-up_to n (λ (i : ℕ). i)) l))

-- THE FIRST THAT PASSES

module _ {A : Type 0} (p : A → Bool) where
  pub index-le : (l : List A) → index_of p l ≤ length l
  unfolding index_of
  index-le [] = omega arith
  index-le (x ∷ l) = go (p x) (index-le l)
    where
      go : (v : Bool) → index_of p l ≤ length l → cond v 0 (suc (index_of p l)) ≤ suc (length l)
      go true e = omega arith
      go false e = omega arith

  pub index-hit : (l : List A) (d : A) → index_of p l < length l → p (get_or l (index_of p l) d) ≡ true
  unfolding index_of
  index-hit [] d h = absurd (omega arith)
  index-hit (x ∷ l) d h = go (p x) refl h (index-hit l d)
    where
      go : (v : Bool) → p x ≡ v → cond v 0 (suc (index_of p l)) < suc (length l) → (index_of p l < length l → p (get_or l (index_of p l) d) ≡ true)
          → p (get_or (x ∷ l) (cond v 0 (suc (index_of p l))) d) ≡ true
      go true e i r = e
      go false e i r = r (omega arith)

  pub index-before : (l : List A) (j : ℕ) (d : A) → j < index_of p l → p (get_or l j d) ≡ false
  unfolding index_of
  index-before [] j d h = absurd (omega arith)
  index-before (x ∷ l) j d h = go (p x) refl j h (λ (k : ℕ). index-before l k d)
    where
      go : (v : Bool) → p x ≡ v → (j : ℕ) → j < cond v 0 (suc (index_of p l)) → ((k : ℕ) → k < index_of p l → p (get_or l k d) ≡ false)
          → p (get_or (x ∷ l) j d) ≡ false
      go true e j i r = absurd (omega arith)
      go false e zero i r = e
      go false e (suc j) i r = r j (omega arith)

  -- none passes
  pub index-all : (l : List A) → index_of p l ≡ length l → every (λ x. not (p x)) l ≡ true
  unfolding index_of every
  index-all [] h = refl
  index-all (x ∷ l) h = go (p x) h (index-all l)
    where
      go : (v : Bool) → cond v 0 (suc (index_of p l)) ≡ suc (length l) → (index_of p l ≡ length l → every (λ x. not (p x)) l ≡ true)
          → not v && every (λ x. not (p x)) l ≡ true
      go true i r = absurd (omega arith)
      go false i r = r (omega arith)

  pub index-none : (l : List A) → index_of p l ≡ length l → count l p ≡ 0
  index-none l h = every-not p l (index-all l h)

  pub none-index : (l : List A) → count l p ≡ 0 → index_of p l ≡ length l
  unfolding index_of
  none-index [] h = refl
  none-index (x ∷ l) h = go (p x) h (none-index l (omega arith))
    where
      go : (v : Bool) → bit v + count l p ≡ 0 → index_of p l ≡ length l → cond v 0 (suc (index_of p l)) ≡ suc (length l)
      go true i r = absurd (omega arith)
      go false i r = ap suc r

  -- the first that passes is at i
  pub index_at : (l : List A) (i : ℕ) (d : A) → ((j : ℕ) → j < i → p (get_or l j d) ≡ false) → p (get_or l i d) ≡ true → i < length l → index_of p l ≡ i
  unfolding index_of
  index_at [] i d b t h = absurd (omega arith)
  index_at (x ∷ l) zero d b t h = rw t
  index_at (x ∷ l) (suc i) d b t h =
      let f : p x ≡ false = b 0 (omega arith) in rw f (ap suc (index_at l i d (λ j m. b (suc j) (omega arith)) t (omega arith)))

  -- where one passes, the first is in the list
  pub index-some : (l : List A) → 1 ≤ count l p → index_of p l < length l
  index-some l h =
      ⊎_elim (λ (z : index_of p l ≡ length l). absurd (omega (arith, index-none l z))) (λ (z : index_of p l < length l). z) (eq-or-lt_of_le (index-le l))

  pub index-up_to : (n i : ℕ) (f : ℕ → A) → every (λ x. not (p x)) (up_to i f) ≡ true → p (f i) ≡ true → i < n → index_of p (up_to n f) ≡ i
  index-up_to n i f e t h =
      index_at (up_to n f) i (f i)
      (λ j m.
      ap p (get_or-up_to n f j (f i) (omega arith) ∙ sym (get_or-up_to i f j (f i) m))
      ∙ not-true _ (every-at (λ x. not (p x)) (up_to i f) j (f i) e (rw (length-up_to i f) m)))
      (ap p (get_or-up_to n f i (f i) h) ∙ t)
      (rw (length-up_to n f) h)

  pub index-up_to-none : (n : ℕ) (f : ℕ → A) → every (λ x. not (p x)) (up_to n f) ≡ true → index_of p (up_to n f) ≡ n
  index-up_to-none n f e = none-index (up_to n f) (every-not p (up_to n f) e) ∙ length-up_to n f

-- EQUALITY AS A TEST

pub same_refl : (a : List ℕ) → same a a ≡ true
unfolding same
same_refl [] = refl
same_refl (x ∷ a) = rw (eq-eqb x x refl) (same_refl a)

pub same_true : (a b : List ℕ) → same a b ≡ true → a ≡ b
unfolding same
same_true [] [] e = refl
same_true [] (y ∷ b) e = never e refl
same_true (x ∷ a) [] e = never e refl
same_true (x ∷ a) (y ∷ b) e =
    let p : x ≡ y = eqb-true x y (and_left (eqb x y) (same a b) e) in
    let q : a ≡ b = same_true a b (and_right (eqb x y) (same a b) e) in
    cc

-- two lists that differ are told apart
pub same-no : (a b : List ℕ) → a ≢ b → same a b ≡ false
same-no a b h = ⊎_elim (λ (e : same a b ≡ true). absurd (h (same_true a b e))) (λ (e : same a b ≡ false). e) (test (same a b))

pub same-sym : (a b : List ℕ) → same a b ≡ same b a
same-sym a b =
    iff (same a b) (same b a)
    (λ e. let q : a ≡ b = same_true a b e in rw q (same_refl b))
    (λ e. let q : b ≡ a = same_true b a e in rw q (same_refl a))

pub same-append : (a b c d : List ℕ) → length a ≡ length c → same (a ++ b) (c ++ d) ≡ same a c && same b d
unfolding same
same-append [] b [] d h = refl
same-append [] b (y ∷ c) d h = absurd (omega arith)
same-append (x ∷ a) b [] d h = absurd (omega arith)
same-append (x ∷ a) b (y ∷ c) d h = rw (same-append a b c d (omega arith)) (sym (and_assoc (eqb x y) (same a c) (same b d)))

pub part-add : (at j k : ℕ) (s : List ℕ) → part at (j + k) s ≡ part at j s ++ part (at + j) k s
unfolding part
part-add at j k s = rw (take-add j k (drop at s), drop-drop)

-- ROWS

module _ {A : Type 0} (f : A → List ℕ) where
  pub flat_append : (l m : List A) → flat f (l ++ m) ≡ flat f l ++ flat f m
  unfolding flat
  flat_append [] m = refl
  flat_append (x ∷ l) m = rw (flat_append l m, append_assoc)

  pub flat-snoc : (l : List A) (x : A) → flat f (l ++ (x ∷ [])) ≡ flat f l ++ f x
  unfolding flat
  flat-snoc l x = rw (flat_append l (x ∷ []), append-nil)

  -- one row more
  pub flat-next : (n : ℕ) (g : ℕ → A) → flat f (up_to (n + 1) g) ≡ flat f (up_to n g) ++ f (g n)
  flat-next n g = ap (flat f) (up_to-next n g) ∙ flat-snoc (up_to n g) (g n)

  module _ (w : ℕ) where
    pub length-flat : (l : List A) → ((i : ℕ) (d : A) → i < length l → length (f (get_or l i d)) ≡ w) → length (flat f l) ≡ w * length l
    unfolding flat
    length-flat [] h = rw mul-zero
    length-flat (x ∷ l) h = rw (length-append, mul-suc, length-flat l (λ i d m. h (suc i) d (omega arith)), h 0 x (omega arith)) (omega arith)

    pub length-rows : (n : ℕ) (g : ℕ → A) → ((i : ℕ) → i < n → length (f (g i)) ≡ w) → length (flat f (up_to n g)) ≡ w * n
    length-rows n g h =
        length-flat (up_to n g) (λ i d m. let m' : i < n = rw (length-up_to n g) at m in rw (get_or-up_to n g i d m') (h i m'))
        ∙ ap (λ (k : ℕ). w * k) (length-up_to n g)

    -- rows are the bytes exactly if each row is
    pub same_rows : (g : ℕ → A) (b : List ℕ) (at n : ℕ) → ((i : ℕ) → i < n → length (f (g i)) ≡ w) → at + w * n ≤ length b
        → same (flat f (up_to n g)) (part at (w * n) b) ≡ every (λ i. same (f (g i)) (part (at + w * i) w b)) (up_to n (λ i. i))
    unfolding up_to every same flat
    same_rows g b at zero h l = rw (mul-zero, part_none) refl
    same_rows g b at (suc n) h l =
        let l' : at + (w * n + w) ≤ length b = rw mul-suc at l in
        let ll : at + w * n ≤ length b = omega arith in
        let len : length (flat f (up_to n g)) ≡ length (part at (w * n) b) =
        length-rows n g (λ i m. h i (omega arith)) ∙ sym (length_part at (w * n) b ll) in
        rw (
          flat-snoc (up_to n g) (g n),
          mul-suc,
          part-add at (w * n) w b,
          same-append (flat f (up_to n g)) (f (g n)) (part at (w * n) b) (part (at + w * n) w b) len,
          same_rows g b at n (λ i m. h i (omega arith)) ll,
        )
        (sym (every-snoc (λ i. same (f (g i)) (part (at + w * i) w b)) (up_to n (λ i. i)) n))

-- PIGEONHOLE: keys that are pairwise different cannot together count more than the list has

-- how often z is among the keys
abbrev pub hits : List ℕ → ℕ → ℕ
hits [] z = 0
hits (k ∷ ks) z = bit (eqb z k) + hits ks z

module _ {A : Type 0} (key : A → ℕ) where
  -- how many elements have each of the keys, together
  abbrev pub total : List ℕ → List A → ℕ
  total [] l = 0
  total (k ∷ ks) l = count l (λ x. eqb (key x) k) + total ks l

  total-nil : (ks : List ℕ) → total ks [] ≡ 0
  total-nil [] = refl
  total-nil (k ∷ ks) = omega (arith, total-nil ks)

  total-cons : (ks : List ℕ) (x : A) (l : List A) → total ks (x ∷ l) ≡ hits ks (key x) + total ks l
  total-cons [] x l = refl
  total-cons (k ∷ ks) x l = omega (arith, total-cons ks x l)

  pub total-le : (ks : List ℕ) → ((z : ℕ) → hits ks z ≤ 1) → (l : List A) → total ks l ≤ length l
  total-le ks h [] = omega (arith, total-nil ks)
  total-le ks h (x ∷ l) = omega (arith, total-cons ks x l, total-le ks h l, h (key x))
