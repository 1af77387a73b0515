-- The model's comparison meets `Compares`, which settles it; the wrong ones do not. Assumes nothing.
use Prim.Native.Nat.{ℕ, zero, suc, ◌+◌, ◌≤◌, ◌<◌}
use native.Mathlib.Omega.{arith}
use mathlib.Core.Path.{◌≡◌, refl, sym, ap, ◌∙◌}
use mathlib.Core.Bool.{Bool, true, false}
use mathlib.Core.List.{List, [], ◌∷◌}
use mathlib.Core.Logic.{◌≢◌, ⊎_elim}
use lib.ListN.{length, get_or}
use lib.Dec.{eqb, leb}
use borrow.Author.Tests.{eqb-true, eqb-false, eq-eqb, ne_eqb, leb-true, leb-false}
use Rattle.model.specs.Lists.{same}
use Rattle.model.specs.Names.{fold, Compared, looked, compared}
use Rattle.model.proofs.ListLaws.{test, never, iff, same_true, same_refl, same-no}
use Rattle.model.proofs.CompareLaws.{looked-all}
use Rattle.claims.specs.Comparing.{Compare, FirstDifference, SaysSame, LengthsFirst, LooksAtAll, StopsAtFirst, Compares, ComparesSettled, counting, whole_length, from_the_back, agree_so_far, ComparisonsRefuted, ClausesIndependent, CompareSamples}

-- ANY COUNT WHERE THE LENGTHS ARE EQUAL, beside the right answer: the model's is one

module _ (pairs : List ℕ → List ℕ → ℕ) where
  counting-same : SaysSame (counting pairs)
  counting-same xs ys = (same_true xs ys, λ e. rw e (same_refl ys))

  counting-lengths : LengthsFirst (counting pairs)
  counting-lengths xs ys h = rw (ne_eqb (length xs) (length ys) h)

  counting-level : (xs ys : List ℕ) → length xs ≡ length ys → (counting pairs xs ys).pairs ≡ pairs xs ys
  counting-level xs ys h = rw (eq-eqb (length xs) (length ys) h)

  counting-equal : ((xs : List ℕ) → pairs xs xs ≡ length xs) → LooksAtAll (counting pairs)
  counting-equal h xs ys e = rw e (counting-level ys ys refl ∙ h ys)

-- one pair more before a first difference
further : (x y : ℕ) (xs ys : List ℕ) (k : ℕ) → x ≡ y → FirstDifference xs ys k → FirstDifference (x ∷ xs) (y ∷ ys) (suc k)
further x y xs ys k e d = record { within = omega (arith, d.within); differ = d.differ; agree = go }
  where
    go : (j : ℕ) → j < suc k → get_or (x ∷ xs) j 0 ≡ get_or (y ∷ ys) j 0
    go zero h = e
    go (suc j) h = d.agree j (omega arith)

looked-first : (xs ys : List ℕ) → length xs ≡ length ys → xs ≢ ys → (k : ℕ) × (looked xs ys ≡ k + 1) × FirstDifference xs ys k
unfolding looked
looked-first [] [] l h = absurd (h refl)
looked-first [] (y ∷ ys) l h = absurd (omega arith)
looked-first (x ∷ xs) [] l h = absurd (omega arith)
looked-first (x ∷ xs) (y ∷ ys) l h =
    ⊎_elim
    (λ (e : eqb x y ≡ true).
    let z = eqb-true x y e in
    let r = looked-first xs ys (omega arith) (λ w. h (ap (λ (v : ℕ). v ∷ xs) z ∙ ap (λ (v : List ℕ). y ∷ v) w)) in
    (suc r.0, rw e (omega (arith, r.1)), further x y xs ys r.0 z r.2))
    (λ (e : eqb x y ≡ false).
    (0, rw e, record { within = omega arith; differ = eqb-false x y e; agree = λ j i. absurd (omega arith) }))
    (test (eqb x y))

counting-first : (pairs : List ℕ → List ℕ → ℕ) → ((xs ys : List ℕ) → xs ≢ ys → pairs xs ys ≡ looked xs ys) → StopsAtFirst (counting pairs)
counting-first pairs h xs ys l d =
    let r = looked-first xs ys l d in
    (r.0, counting-level pairs xs ys l ∙ h xs ys d ∙ r.1, r.2)

pub compares : Compares compared
unfolding compared
compares =
    record {
      same = counting-same looked;
      lengths = counting-lengths looked;
      equal = counting-equal looked looked-all;
      first = counting-first looked (λ xs ys d. refl);
    }

-- ANY TWO AGREE

-- a first difference is not behind another
not_behind : (xs ys : List ℕ) (j k : ℕ) → FirstDifference xs ys j → FirstDifference xs ys k → j ≤ k
not_behind xs ys j k d e =
    ⊎_elim
    (λ (z : leb j k ≡ true). leb-true j k z)
    (λ (z : leb j k ≡ false). absurd (e.differ (d.agree k (leb-false j k z))))
    (test (leb j k))

joined : (a b : Compared) → a.same ≡ b.same → a.pairs ≡ b.pairs → a ≡ b
joined a b s p = λ i. record { same = s i; pairs = p i }

module _ (f g : Compare) (p : Compares f) (q : Compares g) (xs ys : List ℕ) where
  answers : (f xs ys).same ≡ (g xs ys).same
  answers =
      iff (f xs ys).same (g xs ys).same
      (λ e. (q.same xs ys).1 ((p.same xs ys).0 e))
      (λ e. (p.same xs ys).1 ((q.same xs ys).0 e))

  counts : (f xs ys).pairs ≡ (g xs ys).pairs
  counts = go (eqb (length xs) (length ys)) (same xs ys) refl refl
    where
      go : (u v : Bool) → eqb (length xs) (length ys) ≡ u → same xs ys ≡ v → (f xs ys).pairs ≡ (g xs ys).pairs
      go false v d e = let h = eqb-false (length xs) (length ys) d in p.lengths xs ys h ∙ sym (q.lengths xs ys h)
      go true true d e = let h = same_true xs ys e in p.equal xs ys h ∙ sym (q.equal xs ys h)
      go true false d e =
          let l = eqb-true (length xs) (length ys) d in
          let h : xs ≢ ys = λ z. never (rw z (same_refl ys)) e in
          let a = p.first xs ys l h in
          let b = q.first xs ys l h in
          let i = not_behind xs ys a.0 b.0 a.2 b.2 in
          let j = not_behind xs ys b.0 a.0 b.2 a.2 in
          omega (arith, a.1, b.1)

pub compares-settled : ComparesSettled
compares-settled f g p q xs ys = joined (f xs ys) (g xs ys) (answers f g p q xs ys) (counts f g p q xs ys)

-- THE WRONG ONES

zero_one : ◌≢◌ {A = ℕ} 0 1
zero_one e = omega arith

-- two lists whose first elements are 0 and 1
differ-first : (xs ys : List ℕ) → 0 ∷ xs ≢ 1 ∷ ys
differ-first xs ys e = zero_one (ap (λ (l : List ℕ). get_or l 0 0) e)

-- a count of 2 on them
too_far : (f : Compare) (xs ys : List ℕ) → length xs ≡ length ys → (f (0 ∷ xs) (1 ∷ ys)).pairs ≡ 2 → StopsAtFirst f → ⊥
too_far f xs ys l e h =
    let r = h (0 ∷ xs) (1 ∷ ys) (ap suc l) (differ-first xs ys) in
    zero_one (r.2.agree 0 (omega (arith, r.1)))

pub comparisons-refuted : ComparisonsRefuted
unfolding compared looked same agree_so_far
comparisons-refuted =
    record {
      without_the_differing = λ h. let r = h (0 ∷ []) (1 ∷ []) refl (differ-first [] []) in omega (arith, r.1);
      without_the_last = λ h. zero_one (h (0 ∷ []) (0 ∷ []) refl);
      whole_length = too_far whole_length (0 ∷ []) (0 ∷ []) refl refl;
      from_the_back = too_far from_the_back (0 ∷ []) (0 ∷ []) refl refl;
      counts_prefix = λ h. zero_one (sym (h (0 ∷ []) (0 ∷ 0 ∷ []) (λ e. omega arith)));
      same_prefix = λ h. zero_one (ap length ((h [] (0 ∷ [])).0 refl));
    }

pub clauses-independent : ClausesIndependent
unfolding compared
clauses-independent =
    record {
      same = (compares.lengths, compares.equal, compares.first);
      lengths = (counting-same looked, (λ xs ys e. rw e (looked-all ys)), looked-first);
      equal = (counting-same looked, counting-lengths _, counting-first _ (λ xs ys d. rw (same-no xs ys d)));
      first = (counting-same looked, counting-lengths _, counting-equal _ (λ xs. rw (same_refl xs) (looked-all xs)));
    }

pub compare-samples-hold : CompareSamples compared
unfolding compared looked same fold
compare-samples-hold = (refl, (refl, (refl, (refl, (refl, (refl, (refl, (refl, (refl, tt)))))))))
