-- What `all` answers over the numbers from a on, where a fold grows by the same tests. Assumes nothing.
use Prim.Native.Nat.{ℕ, zero, suc, ◌+◌, ◌-◌, ◌≤◌}
use native.Mathlib.Nat.{add-zero}
use native.Mathlib.Omega.{arith}
use mathlib.Core.Path.{◌≡◌, sym, ap, ◌∙◌}
use mathlib.Core.Bool.{Bool, true, ◌&&◌, and-true, and_assoc}
use denote.Param.Members.{Mut}
use Rattle.std.proofs.iter.Yields.{nat_range_steps}
use Rattle.std.proofs.lemmas.Iterator.{YieldsList-from_range}
use Rattle.std.proofs.lemmas.Iterator.Search.{all_from_yields_List}
use Rattle.std.specs.declared.ops.Range.{Range}
use Rattle.std.specs.Fn.{Called}
use Rattle.std.specs.Iterator.{ChecksAll}
use Rattle.std.specs.List.{list_all, range_with_len}

module _ (a : ℕ) (fold test : ℕ → Bool) (start : fold a ≡ true) (next : (i : ℕ) → a ≤ i → fold (i + 1) ≡ fold i && test i) where
  grown : (i n : ℕ) → a ≤ i → fold i && list_all test (range_with_len i n) ≡ fold (i + n)
  grown i zero l = rw add-zero (and-true (fold i))
  grown i (suc n) l =
      let e : i + 1 + n ≡ i + suc n = omega arith in
      let m : a ≤ i + 1 = omega arith in
      sym (and_assoc (fold i) (test i) (list_all test (range_with_len (i + 1) n))) ∙ ap (λ (v : Bool). v && list_all test (range_with_len (i + 1) n)) (sym (next i l)) ∙ grown (i + 1) n m ∙ ap fold e

  module _ {C : Type 0} {calls : Mut C (ℕ × Unit {0}) Bool} (b : ℕ) (l : a ≤ b) {s u : Range ℕ} {f : C} {r : Bool} where
    pub all_is : ChecksAll nat_range_steps calls s f r u → s ≡ record { start = a; end = b } → ((x : ℕ) (y : Bool) (q : C) → Called calls f (x, tt) y q → (q ≡ f) × (y ≡ test x)) → r ≡ fold b
    all_is ran e k =
        let n = b - a in
        let m : a + n ≡ b = omega arith in
        let h : a ≤ a = omega arith in
        all_from_yields_List test u f r ran (YieldsList-from_range a b n e (omega arith)) k ∙ ap (λ (v : Bool). v && list_all test (range_with_len a n)) (sym start) ∙ grown a n h ∙ ap fold m
