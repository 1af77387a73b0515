-- The tally's number search and the model's find the same number. Assumes nothing.
use Prim.Native.Nat.{ℕ, zero, suc, ◌+◌, ◌%◌, ◌^◌, ◌≤◌, ◌<◌}
use native.Mathlib.Omega.{arith}
use mathlib.Core.Path.{◌≡◌, refl, sym, ap, ◌∙◌, subst, fun_ext}
use mathlib.Core.Bool.{Bool, true, false, cond}
use mathlib.Core.List.{List}
use mathlib.Core.Logic.{◌≢◌}
use lib.ListN.{length}
use lib.Dec.{eqb}
use borrow.Author.Tests.{eqb-true, eqb-false}
use Rattle.model.specs.Lists.{count}
use Rattle.model.specs.Rules.{Holding, Counts, fresh_number}
use Rattle.model.specs.Rules.{FirstFree}
use Rattle.model.proofs.FreshLaws.{first_one, fresh-first}
use Rattle.claims.specs.Tally.{next_number, first_unused, number_for}
use Rattle.claims.proofs.Relation.TallyRules.{number-used}

next-number : (r : ℕ) → next_number (r % 2 ^ 64) ≡ suc r % 2 ^ 64
next-number r = go (eqb (r % 2 ^ 64) 18446744073709551615) refl
  where
    go : (b : Bool) → eqb (r % 2 ^ 64) 18446744073709551615 ≡ b → cond b 0 (r % 2 ^ 64 + 1) ≡ suc r % 2 ^ 64
    go true e = omega (arith, eqb-true (r % 2 ^ 64) 18446744073709551615 e)
    go false e = let n : r % 2 ^ 64 ≢ 18446744073709551615 = eqb-false (r % 2 ^ 64) 18446744073709551615 e in omega arith

-- of as many tries, it is the model's
same-search : (k : ℕ) (hs : List Holding) (r : ℕ) → first_unused k hs (r % 2 ^ 64) ≡ fresh_number k (count hs) r
unfolding first_unused fresh_number
same-search zero hs r = refl
same-search (suc k) hs r =
    rw (number-used hs (r % 2 ^ 64), next-number r, same-search k hs (suc r))

-- number_for gives the first number that is not taken
pub number-first : (hs : List Holding) (r : ℕ) → r < 2 ^ 64 → length hs ≤ 64 → FirstFree (count hs) r (number_for hs r)
number-first hs r h m =
    let z : r ≡ r % 2 ^ 64 = omega arith in
    let e : number_for hs r ≡ fresh_number (length hs + 2) (count hs) r =
    ap (λ (x : ℕ). first_unused (length hs + 2) hs x) z ∙ same-search (length hs + 2) hs r in
    rw e (fresh-first (length hs + 2) hs r (omega arith) (omega arith))

-- THE TWO ARE EQUAL, of lists with the same holdings
pub number_same : (k : ℕ) (l hs : List Holding) (r : ℕ) → r < 2 ^ 64 → k ≤ 2 ^ 64 → length l + 2 ≤ k → length hs ≤ 64
    → ((p : Holding → Bool) → count l p ≡ count hs p) → fresh_number k (count l) r ≡ number_for hs r
number_same k l hs r h b i m e =
    first_one (count l) r (fresh_number k (count l) r) (number_for hs r) (fresh-first k l r b i)
    (subst (λ (c : Counts). FirstFree c r (number_for hs r)) (sym (fun_ext e)) (number-first hs r h m))
