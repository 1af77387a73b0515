-- Laws of an array that is filled from the front. Assumes nothing.
use Prim.Native.Nat.{ℕ, suc, ◌+◌, ◌-◌, ◌≤◌, ◌<◌}
use mathlib.Core.Path.{◌≡◌, sym}
use mathlib.Core.List.{List, [], ◌∷◌, ◌++◌, append_assoc}
use native.Mathlib.Nat.{sub-zero}
use native.Mathlib.Omega.{arith}
use lib.ListN.{length, get_or, take, set, replicate, length-append, get_or-append}
use lib.Seq.{set_at, take_all, take-append-le}
use Rattle.wire.specs.Records.{padded}

pub pad-none : {A : Type 0} (n : ℕ) (d : A) → padded n d [] ≡ replicate n d
pad-none n d = rw sub-zero

pub pad-more : {A : Type 0} (n : ℕ) (d : A) (xs : List A) (x : A) (i : ℕ) → length xs ≡ i → i < n → set (padded n d xs) i x ≡ padded n d (xs ++ (x ∷ []))
pad-more n d xs x i e h =
    let k : n - length xs ≡ suc (n - (length xs + 1)) = omega arith in
    rw k (rw (set_at xs d (replicate (n - (length xs + 1)) d) x i e, length-append, append_assoc))

-- what stands before the padding
pub pad-at : {A : Type 0} (n : ℕ) (d : A) (xs : List A) (i : ℕ) (e : A) → i < length xs → get_or (padded n d xs) i e ≡ get_or xs i e
pad-at n d xs i e h = get_or-append xs (replicate (n - length xs) d) e i h

-- an array of n that takes the first n of what comes
pub keep-more : {A : Type 0} (n : ℕ) (d : A) (xs : List A) (x : A) (i : ℕ) → length xs ≡ i → i < n
    → set (padded n d (take n xs)) i x ≡ padded n d (take n (xs ++ (x ∷ [])))
keep-more n d xs x i e h =
    let l : length (xs ++ (x ∷ [])) ≤ n = simp length-append (omega arith) in
    rw (take_all n xs (omega arith), take_all n (xs ++ (x ∷ [])) l) (pad-more n d xs x i e h)

pub keep-full : {A : Type 0} (n : ℕ) (xs : List A) (x : A) → n ≤ length xs → take n xs ≡ take n (xs ++ (x ∷ []))
keep-full n xs x h = sym (take-append-le n xs (x ∷ []) h)
