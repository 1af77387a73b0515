-- The number search finds the first of r, r + 1, .., modulo 2^64, that is neither 0 nor in use, where there are tries enough: by the pigeonhole.
-- Assumes nothing.
use Prim.Native.Nat.{ℕ, zero, suc, ◌+◌, ◌%◌, ◌^◌, ◌≤◌, ◌<◌}
use native.Mathlib.Omega.{arith}
use mathlib.Core.Path.{◌≡◌, refl, sym, ap, ◌∙◌}
use mathlib.Core.Bool.{Bool, true, false, cond, ◌||◌}
use mathlib.Core.List.{List, [], ◌∷◌}
use mathlib.Core.Logic.{◌≢◌, ◌⊎◌, inl, inr}
use lib.ListN.{length}
use lib.Dec.{eqb, leb, ltb, lit<}
use borrow.Author.Tests.{eqb-true, eqb-false, eq-eqb, ne_eqb, leb-true, leb-false, ltb-true, ltb-false}
use Rattle.model.specs.Lists.{bit, count}
use Rattle.model.specs.Rules.{Taken, FirstFree, Holding, Counts, numbered, fresh_number}
use Rattle.model.proofs.ListLaws.{test, either, hits, total, total-le}

free-taken : (c : Counts) (x : ℕ) → x ≢ 0 → c (numbered x) ≡ 0 → Taken c x → ⊥
free-taken c x n u (inl e) = n e
free-taken c x n u (inr h) = omega arith

-- there is one such number at most
not-later : (c : Counts) (r x y : ℕ) (f : FirstFree c r x) (g : FirstFree c r y) → f.tries < g.tries → ⊥
not-later c r x y f g h =
    free-taken c ((r + f.tries) % 2 ^ 64) (λ e. f.non_zero (f.is ∙ e)) (ap (λ (z : ℕ). c (numbered z)) (sym f.is) ∙ f.unused) (g.earlier f.tries h)

pub first_one : (c : Counts) (r x y : ℕ) → FirstFree c r x → FirstFree c r y → x ≡ y
first_one c r x y f g = go (ltb f.tries g.tries) refl (ltb g.tries f.tries) refl
  where
    go : (a : Bool) → ltb f.tries g.tries ≡ a → (b : Bool) → ltb g.tries f.tries ≡ b → x ≡ y
    go true e b h = absurd (not-later c r x y f g (ltb-true f.tries g.tries e))
    go false e true h = absurd (not-later c r y x g f (ltb-true g.tries f.tries h))
    go false e false h =
        let k : f.tries ≡ g.tries = omega (arith, ltb-false f.tries g.tries e, ltb-false g.tries f.tries h) in
        f.is ∙ ap (λ (z : ℕ). (r + z) % 2 ^ 64) k ∙ sym g.is

-- THE SEARCH, of k tries, finds it, or all k are taken

-- one more passed
later : (c : Counts) (r x : ℕ) → Taken c (r % 2 ^ 64) → FirstFree c (suc r) x → FirstFree c r x
later c r x t f =
    record {
      tries = suc f.tries;
      is = f.is ∙ ap (λ (z : ℕ). z % 2 ^ 64) (next f.tries);
      non_zero = f.non_zero;
      unused = f.unused;
      earlier = before;
    }
  where
    next : (j : ℕ) → suc r + j ≡ r + suc j
    next j = omega arith

    before : (j : ℕ) → j < suc f.tries → Taken c ((r + j) % 2 ^ 64)
    before zero h = let z : r + 0 ≡ r = omega arith in rw z t
    before (suc j) h = rw (← next j) (f.earlier j (omega arith))

abbrev AllTaken : ℕ → Counts → ℕ → Type 0
AllTaken k c r = (j : ℕ) → j < k → Taken c ((r + j) % 2 ^ 64)

more-taken : (k : ℕ) (c : Counts) (r : ℕ) → Taken c (r % 2 ^ 64) → AllTaken k c (suc r) → AllTaken (suc k) c r
more-taken k c r t a zero h = let z : r + 0 ≡ r = omega arith in rw z t
more-taken k c r t a (suc j) h = let z : r + suc j ≡ suc r + j = omega arith in rw z (a j (omega arith))

fresh-or : (k : ℕ) (c : Counts) (r : ℕ) → FirstFree c r (fresh_number k c r) ⊎ AllTaken k c r
unfolding fresh_number
fresh-or zero c r = inr (λ j h. absurd (omega arith))
fresh-or (suc k) c r = go (eqb x 0) (leb 1 (c (numbered x))) refl refl (fresh-or k c (suc r))
  where
    x : ℕ
    x = r % 2 ^ 64

    on : Taken c x → FirstFree c (suc r) (fresh_number k c (suc r)) ⊎ AllTaken k c (suc r)
        → FirstFree c r (fresh_number k c (suc r)) ⊎ AllTaken (suc k) c r
    on t (inl f) = inl (later c r (fresh_number k c (suc r)) t f)
    on t (inr a) = inr (more-taken k c r t a)

    go : (a b : Bool) → eqb x 0 ≡ a → leb 1 (c (numbered x)) ≡ b → FirstFree c (suc r) (fresh_number k c (suc r)) ⊎ AllTaken k c (suc r)
        → FirstFree c r (cond (a || b) (fresh_number k c (suc r)) x) ⊎ AllTaken (suc k) c r
    go true b ea eb z = on (inl (eqb-true x 0 ea)) z
    go false true ea eb z = on (inr (leb-true 1 (c (numbered x)) eb)) z
    go false false ea eb z =
        inl (record {
          tries = 0;
          is = omega arith;
          non_zero = eqb-false x 0 ea;
          unused = omega (arith, leb-false 1 (c (numbered x)) eb);
          earlier = λ j h. absurd (omega arith);
        })

-- PIGEONHOLE: of more numbers than there are entries and one, one is not taken

-- the numbers tried
abbrev tried : ℕ → ℕ → List ℕ
tried zero r = []
tried (suc k) r = r % 2 ^ 64 ∷ tried k (suc r)

apart : (r j : ℕ) → suc j < 2 ^ 64 → r % 2 ^ 64 ≢ (suc r + j) % 2 ^ 64
apart r j h e = omega arith

miss : (k r z : ℕ) → ((j : ℕ) → j < k → z ≢ (r + j) % 2 ^ 64) → hits (tried k r) z ≡ 0
miss zero r z h = refl
miss (suc k) r z h =
    omega (
      arith,
      ap bit (ne_eqb z (r % 2 ^ 64) (λ e. h 0 (omega arith) (omega arith))),
      miss k (suc r) z (λ j i e. h (suc j) (omega arith) (omega arith)),
    )

once : (k r : ℕ) → k ≤ 2 ^ 64 → (z : ℕ) → hits (tried k r) z ≤ 1
once zero r b z = omega arith
once (suc k) r b z = go (test (eqb z (r % 2 ^ 64))) (once k (suc r) (omega arith) z)
  where
    go : (eqb z (r % 2 ^ 64) ≡ true) ⊎ (eqb z (r % 2 ^ 64) ≡ false) → hits (tried k (suc r)) z ≤ 1
        → bit (eqb z (r % 2 ^ 64)) + hits (tried k (suc r)) z ≤ 1
    go (inl e) ih =
        let q : z ≡ r % 2 ^ 64 = eqb-true z (r % 2 ^ 64) e in
        omega (arith, ap bit e, miss k (suc r) z (λ j i p. apart r j (omega arith) (omega arith)))
    go (inr e) ih = omega (arith, ap bit e)

taken-total : (k : ℕ) (l : List Holding) (r : ℕ) → AllTaken k (count l) r → k ≤ hits (tried k r) 0 + total (λ (h : Holding). h.number) (tried k r) l
taken-total zero l r a = omega arith
taken-total (suc k) l r a =
    go (let z : r + 0 ≡ r = omega arith in rw z at (a 0 (omega arith)))
    (taken-total k l (suc r) (λ j h. let z : suc r + j ≡ r + suc j = omega arith in rw z (a (suc j) (omega arith))))
  where
    go : Taken (count l) (r % 2 ^ 64) → k ≤ hits (tried k (suc r)) 0 + total (λ (h : Holding). h.number) (tried k (suc r)) l
        → suc k ≤ bit (eqb 0 (r % 2 ^ 64)) + hits (tried k (suc r)) 0
        + (count l (numbered (r % 2 ^ 64)) + total (λ (h : Holding). h.number) (tried k (suc r)) l)
    go (inl e) ih = omega (arith, ap bit (eq-eqb 0 (r % 2 ^ 64) (sym e)))
    go (inr h) ih = omega arith

-- 2 tries more than there are entries are enough
pub fresh-first : (k : ℕ) (l : List Holding) (r : ℕ) → k ≤ 2 ^ 64 → length l + 2 ≤ k → FirstFree (count l) r (fresh_number k (count l) r)
fresh-first k l r b h = go (fresh-or k (count l) r)
  where
    go : FirstFree (count l) r (fresh_number k (count l) r) ⊎ AllTaken k (count l) r → FirstFree (count l) r (fresh_number k (count l) r)
    go (inl f) = f
    go (inr a) =
        absurd (omega (arith, once k r b 0, total-le (λ (h : Holding). h.number) (tried k r) (once k r b) l, taken-total k l r a))

-- neither 0 nor in use
pub record Fresh (l : List Holding) (x : ℕ) : Type 0 where
  pub non_zero : x ≢ 0
  pub unused : count l (numbered x) ≡ 0

pub fresh-number : (k : ℕ) (l : List Holding) (r : ℕ) → k ≤ 2 ^ 64 → length l + 2 ≤ k → Fresh l (fresh_number k (count l) r)
fresh-number k l r b h = let f = fresh-first k l r b h in record { non_zero = f.non_zero; unused = f.unused }

pub fresh-lt : (k : ℕ) (c : Counts) (r : ℕ) → fresh_number k c r < 2 ^ 64
unfolding fresh_number
fresh-lt zero c r = lit< tt
fresh-lt (suc k) c r =
    either (λ (x : ℕ). x < 2 ^ 64) (eqb (r % 2 ^ 64) 0 || leb 1 (c (numbered (r % 2 ^ 64)))) (fresh-lt k c (suc r)) (omega arith)
