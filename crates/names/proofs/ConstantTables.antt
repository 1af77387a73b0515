-- A constant table's rule by one computed test: a test of each of its elements beside its index, which the whole table passes, is passed at each
-- index. Of any table and any test. Assumes nothing.
use Prim.Native.Nat.{ℕ, zero, suc, ◌+◌, ◌<◌}
use native.Mathlib.Nat.{zero-add, add-zero}
use native.Mathlib.Omega.{arith}
use mathlib.Core.Path.{◌≡◌, ap, ◌∙◌}
use mathlib.Core.Bool.{Bool, true, ◌&&◌}
use mathlib.Core.List.{List, [], ◌∷◌}
use lib.ListN.{length, get_or}
use Rattle.model.proofs.ListLaws.{and_left, and_right}

module _ {A : Type 0} (test : ℕ → A → Bool) where
  -- each element passes, the first at index i
  unfoldable pub passes : ℕ → List A → Bool
  passes i [] = true
  passes i (x ∷ xs) = test i x && passes (suc i) xs

  -- `other` is what a look-up past the end gives
  module _ (other : A) where
    passes-from : (i k : ℕ) (xs : List A) → passes i xs ≡ true → k < length xs → test (i + k) (get_or xs k other) ≡ true
    unfolding passes
    passes-from i k [] t h = absurd (omega arith)
    passes-from i zero (x ∷ xs) t h = ap (λ (j : ℕ). test j x) (add-zero i) ∙ and_left (test i x) (passes (suc i) xs) t
    passes-from i (suc k) (x ∷ xs) t h =
        let e : i + suc k ≡ suc i + k = omega arith in
        ap (λ (j : ℕ). test j (get_or xs k other)) e ∙ passes-from (suc i) k xs (and_right (test i x) (passes (suc i) xs) t) (omega arith)

    pub passes_at : (xs : List A) → passes 0 xs ≡ true → (k : ℕ) → k < length xs → test k (get_or xs k other) ≡ true
    passes_at xs t k h = rw zero-add at (passes-from 0 k xs t h)
