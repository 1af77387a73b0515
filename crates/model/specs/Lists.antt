-- Lists and tests, as the rules use them. Assumes nothing.
use Rattle.std.specs.Prelude.{ℕ, zero, suc, ◌+◌, Bool, true, false, not, cond, ◌&&◌, List, [], ◌∷◌, ◌++◌, eqb}

-- 1 where the test passes
abbrev pub bit : Bool → ℕ
bit true = 1
bit false = 0

module _ {A : Type 0} where
  -- how many pass the test
  abbrev pub count : List A → (A → Bool) → ℕ
  count [] p = 0
  count (x ∷ xs) p = bit (p x) + count xs p

  -- the test that each passes
  abbrev pub any : A → Bool
  any x = true

  -- those that pass the test, in order
  unfoldable pub keep : (A → Bool) → List A → List A
  keep p [] = []
  keep p (x ∷ xs) = cond (p x) (x ∷ keep p xs) (keep p xs)

  -- each passes the test
  unfoldable pub every : (A → Bool) → List A → Bool
  every p [] = true
  every p (x ∷ xs) = p x && every p xs

  -- no two agree
  unfoldable pub no_two : (A → A → Bool) → List A → Bool
  no_two q [] = true
  no_two q (x ∷ xs) = every (λ y. not (q x y)) xs && no_two q xs

  -- the index of the first that passes the test; the length where none does
  unfoldable pub index_of : (A → Bool) → List A → ℕ
  index_of p [] = 0
  index_of p (x ∷ xs) = cond (p x) 0 (suc (index_of p xs))

  -- f 0, f 1, .. up to f (n - 1)
  unfoldable pub up_to : ℕ → (ℕ → A) → List A
  up_to zero f = []
  up_to (suc n) f = up_to n f ++ (f n ∷ [])

-- the bytes of each, one after the other
unfoldable pub flat : {A : Type 0} → (A → List ℕ) → List A → List ℕ
flat f [] = []
flat f (x ∷ xs) = f x ++ flat f xs

-- two lists of numbers are the same
unfoldable pub same : List ℕ → List ℕ → Bool
same [] [] = true
same [] (y ∷ ys) = false
same (x ∷ xs) [] = false
same (x ∷ xs) (y ∷ ys) = eqb x y && same xs ys
