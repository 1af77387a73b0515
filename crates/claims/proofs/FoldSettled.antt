-- The samples of names settle the fold at every byte: each of the eight rows of 32 bytes settles its own. Assumes nothing.
use Prim.Native.Nat.{ℕ, ◌+◌, ◌-◌, ◌≤◌, ◌<◌}
use native.Mathlib.Omega.{arith}
use mathlib.Core.Path.{◌≡◌, refl, sym, ap, ◌∙◌, subst}
use mathlib.Core.Bool.{Bool, true, false, ◌&&◌}
use mathlib.Core.List.{List, ◌∷◌, ◌++◌, map}
use mathlib.Core.Logic.{⊎_elim}
use lib.ListN.{length, get_or}
use lib.Dec.{eqb, ltb}
use borrow.Author.Tests.{eqb-true, ltb-true, ltb-false}
use Rattle.model.specs.Lists.{every, up_to, same}
use Rattle.model.specs.Names.{fold}
use Rattle.model.proofs.ListLaws.{test, and_left, and_right, every-index, get_or-map, same_true}
use Rattle.claims.specs.Reading.{Folded}
use Rattle.claims.specs.Samples.{one_label, run, every_byte, NamesAgree, read_by, FoldSettled}
use Rattle.claims.proofs.Definitions.{all-definitions}
use Rattle.claims.proofs.Reading.{folded}

-- byte j of a row from n on: the sent name has it behind its length byte, and the stored name has it folded
abbrev row_test : List ℕ → List ℕ → ℕ → ℕ → Bool
row_test stored sent n j = eqb (get_or sent (j + 1) 0) (n + j) && eqb (get_or stored (j + 1) 0) (fold (n + j))

module _ (f : ℕ → ℕ) where
  row-settles : (stored sent : List ℕ) (n : ℕ) → every (row_test stored sent n) (up_to 32 (λ i. i)) ≡ true → 33 ≤ length sent
      → same stored (map f sent) ≡ true → (j : ℕ) → j < 32 → f (n + j) ≡ fold (n + j)
  row-settles stored sent n t l s j h =
      let u = every-index (row_test stored sent n) 32 t j h in
      let a = eqb-true _ _ (and_left (eqb (get_or sent (j + 1) 0) (n + j)) (eqb (get_or stored (j + 1) 0) (fold (n + j))) u) in
      let b = eqb-true _ _ (and_right (eqb (get_or sent (j + 1) 0) (n + j)) (eqb (get_or stored (j + 1) 0) (fold (n + j))) u) in
      sym (ap f a) ∙ sym (get_or-map f sent (j + 1) 0 0 (omega arith)) ∙ sym (ap (λ (x : List ℕ). get_or x (j + 1) 0) (same_true stored (map f sent) s)) ∙ b

  -- the bytes under n are settled
  abbrev SettledTo : ℕ → Type 0
  SettledTo n = (b : ℕ) → b < n → f b ≡ fold b

  -- and a row more
  and-row : (stored sent : List ℕ) (n : ℕ) → every (row_test stored sent n) (up_to 32 (λ i. i)) ≡ true → 33 ≤ length sent
      → SettledTo n → same stored (map f sent) ≡ true → SettledTo (n + 32)
  and-row stored sent n t l under s b h =
      ⊎_elim
      (λ (z : ltb b n ≡ true). under b (ltb-true b n z))
      (λ (z : ltb b n ≡ false).
      let m = ltb-false b n z in
      let e : n + (b - n) ≡ b = omega arith in subst (λ (x : ℕ). f x ≡ fold x) e (row-settles stored sent n t l s (b - n) (omega arith)))
      (test (ltb b n))

  -- a row whose bytes are as they are
  and-unfolded : (n : ℕ) → every (row_test (one_label (run n 32)) (one_label (run n 32)) n) (up_to 32 (λ i. i)) ≡ true → 33 ≤ length (one_label (run n 32))
      → SettledTo n → same (one_label (run n 32)) (map f (one_label (run n 32))) ≡ true → SettledTo (n + 32)
  and-unfolded n = and-row (one_label (run n 32)) (one_label (run n 32)) n

pub fold-settled : FoldSettled
unfolding all-definitions
fold-settled f r b h =
    let rows : NamesAgree (read_by f) every_byte = r.2.2.2.2.2.2.2 in
    let to0 : SettledTo f 0 = λ b h. absurd (omega arith) in
    let to32 = and-unfolded f 0 refl (omega arith) to0 rows.0 in
    let to64 = and-unfolded f 32 refl (omega arith) to32 rows.2.0 in
    let to96 = and-row f (one_label (64 ∷ (run 97 26 ++ run 91 5))) (one_label (run 64 32)) 64 refl (omega arith) to64 rows.2.2.0 in
    let to128 = and-unfolded f 96 refl (omega arith) to96 rows.2.2.2.0 in
    let to160 = and-unfolded f 128 refl (omega arith) to128 rows.2.2.2.2.0 in
    let to192 = and-unfolded f 160 refl (omega arith) to160 rows.2.2.2.2.2.0 in
    let to224 = and-unfolded f 192 refl (omega arith) to192 rows.2.2.2.2.2.2.0 in
    let to256 = and-unfolded f 224 refl (omega arith) to224 rows.2.2.2.2.2.2.2.0 in
    subst (Folded b) (sym (to256 b h)) (folded b)
