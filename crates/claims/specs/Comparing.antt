-- Document 02's ticket 3: the comparison of two names looks at lengths first, stops at the first difference and says how many byte pairs it looked
-- at. Told by places in the two lists, apart from the model's recursion; wrong comparisons; samples. Assumes nothing.
use Rattle.std.specs.Prelude.{ℕ, ◌+◌, ◌-◌, ◌<◌, ◌≡◌, Bool, true, false, cond, ◌&&◌, List, [], ◌∷◌, ◌++◌, map, reverse, ◌≢◌, length, get_or, replicate, eqb}
use Rattle.model.specs.Lists.{same}
use Rattle.model.specs.Names.{fold, Compared, looked, compared}
use Rattle.claims.specs.Exactly.{Exactly}

-- a way to compare two names: all bytes of a stored one, and those of another as they are stored or as they are folded
abbrev pub Compare : Type 0
Compare = List ℕ → List ℕ → Compared

-- k is the first place at which two lists of one length differ
pub record FirstDifference (xs ys : List ℕ) (k : ℕ) : Type 0 where
  pub within : k < length xs
  pub differ : get_or xs k 0 ≢ get_or ys k 0
  pub agree : (j : ℕ) → j < k → get_or xs j 0 ≡ get_or ys j 0

-- "same" is said exactly of lists that are equal
abbrev pub SaysSame : Compare → Type 0
SaysSame f = (xs ys : List ℕ) → Exactly ((f xs ys).same ≡ true) (xs ≡ ys)

-- lengths first: where they differ no pair is looked at
abbrev pub LengthsFirst : Compare → Type 0
LengthsFirst f = (xs ys : List ℕ) → length xs ≢ length ys → (f xs ys).pairs ≡ 0

-- lists that are equal are looked at whole
abbrev pub LooksAtAll : Compare → Type 0
LooksAtAll f = (xs ys : List ℕ) → xs ≡ ys → (f xs ys).pairs ≡ length xs

-- the first pair that differs is counted and ends it
abbrev pub StopsAtFirst : Compare → Type 0
StopsAtFirst f = (xs ys : List ℕ) → length xs ≡ length ys → xs ≢ ys → (k : ℕ) × ((f xs ys).pairs ≡ k + 1) × FirstDifference xs ys k

pub record Compares (f : Compare) : Type 0 where
  pub same : SaysSame f
  pub lengths : LengthsFirst f
  pub equal : LooksAtAll f
  pub first : StopsAtFirst f

-- THESE SETTLE IT: any two comparisons that meet them agree on all lists
abbrev pub ComparesSettled : Type 0
ComparesSettled = (f g : Compare) → Compares f → Compares g → (xs ys : List ℕ) → f xs ys ≡ g xs ys

-- WRONG COMPARISONS, each with one thing wrong

-- the right answer, and a count where the lengths are equal
abbrev pub counting : (List ℕ → List ℕ → ℕ) → Compare
counting pairs xs ys = record { same = same xs ys; pairs = cond (eqb (length xs) (length ys)) (pairs xs ys) 0 }

-- the pair that differs is not counted
abbrev pub without_the_differing : Compare
without_the_differing = counting (λ xs ys. cond (same xs ys) (looked xs ys) (looked xs ys - 1))

-- where none differs the last pair, a name's final zero, is not counted
abbrev pub without_the_last : Compare
without_the_last = counting (λ xs ys. cond (same xs ys) (looked xs ys - 1) (looked xs ys))

-- the length, whatever is found
abbrev pub whole_length : Compare
whole_length = counting (λ xs ys. length xs)

-- it starts at the back, and so stops at the last difference
abbrev pub from_the_back : Compare
from_the_back = counting (λ xs ys. looked (reverse xs) (reverse ys))

-- pairs are looked at although the lengths differ
abbrev pub counts_prefix : Compare
counts_prefix xs ys = record { same = same xs ys; pairs = looked xs ys }

-- they agree as far as the shorter one goes
unfoldable pub agree_so_far : List ℕ → List ℕ → Bool
agree_so_far [] ys = true
agree_so_far (x ∷ xs) [] = true
agree_so_far (x ∷ xs) (y ∷ ys) = eqb x y && agree_so_far xs ys

-- "same" is said where the shorter one starts the longer
abbrev pub same_prefix : Compare
same_prefix xs ys = record { same = agree_so_far xs ys; pairs = (compared xs ys).pairs }

-- what each breaks
pub record ComparisonsRefuted : Type 0 where
  pub without_the_differing : StopsAtFirst without_the_differing → ⊥
  pub without_the_last : LooksAtAll without_the_last → ⊥
  pub whole_length : StopsAtFirst whole_length → ⊥
  pub from_the_back : StopsAtFirst from_the_back → ⊥
  pub counts_prefix : LengthsFirst counts_prefix → ⊥
  pub same_prefix : SaysSame same_prefix → ⊥

-- NONE OF THE FOUR FOLLOWS FROM THE OTHERS: for each, one of these breaks it and meets the three
pub record ClausesIndependent : Type 0 where
  pub same : LengthsFirst same_prefix × LooksAtAll same_prefix × StopsAtFirst same_prefix
  pub lengths : SaysSame counts_prefix × LooksAtAll counts_prefix × StopsAtFirst counts_prefix
  pub equal : SaysSame without_the_last × LengthsFirst without_the_last × StopsAtFirst without_the_last
  pub first : SaysSame without_the_differing × LengthsFirst without_the_differing × LooksAtAll without_the_differing

-- SAMPLES: a stored name and a sent one, whether they are the same once the sent one is folded, and how many pairs are looked at
pub record CompareSample : Type 0 where
  pub stored : List ℕ
  pub sent : List ℕ
  pub found : Compared

abbrev pub row : List ℕ → List ℕ → Bool → ℕ → CompareSample
row stored sent same pairs = record { stored = stored; sent = sent; found = record { same = same; pairs = pairs } }

-- the longest name, 255 bytes: labels of 63, 63, 63 and 61 letters, of which the last is given
abbrev pub longest : ℕ → List ℕ
longest last =
    let label : List ℕ = 63 ∷ replicate 63 97 in
    label ++ label ++ label ++ (61 ∷ replicate 60 97) ++ (last ∷ 0 ∷ [])

abbrev pub compare_samples : List CompareSample
compare_samples =
    row (1 ∷ 97 ∷ 0 ∷ []) (1 ∷ 97 ∷ 0 ∷ []) true 3
    ∷ row (0 ∷ []) (0 ∷ []) true 1  -- the root
    ∷ row (1 ∷ 97 ∷ 0 ∷ []) (1 ∷ 98 ∷ 0 ∷ []) false 2
    ∷ row (1 ∷ 97 ∷ 1 ∷ 98 ∷ 0 ∷ []) (3 ∷ 97 ∷ 46 ∷ 98 ∷ 0 ∷ []) false 1  -- a.b of two labels and of one
    ∷ row (1 ∷ 97 ∷ 1 ∷ 98 ∷ 0 ∷ []) (1 ∷ 97 ∷ 1 ∷ 99 ∷ 0 ∷ []) false 4
    ∷ row (1 ∷ 97 ∷ 0 ∷ []) (2 ∷ 97 ∷ 97 ∷ 0 ∷ []) false 0  -- another length
    ∷ row (longest 97) (longest 97) true 255
    ∷ row (longest 97) (longest 98) false 254  -- the last letter differs, and the final zero is not looked at
    ∷ row (1 ∷ 122 ∷ 0 ∷ []) (1 ∷ 90 ∷ 0 ∷ []) true 3  -- z and Z
    ∷ []

abbrev pub ComparisonsAgree : Compare → List CompareSample → Type 0
ComparisonsAgree f [] = Unit {0}
ComparisonsAgree f (x ∷ xs) = (f x.stored (map fold x.sent) ≡ x.found) × ComparisonsAgree f xs

-- of any comparison; it holds of the model's
abbrev pub CompareSamples : Compare → Type 0
CompareSamples f = ComparisonsAgree f compare_samples
