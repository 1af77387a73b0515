-- No address is past its limit exactly if none is at any entry, counted up to that entry. Assumes nothing.
use Prim.Native.Nat.{ℕ, ◌+◌, ◌*◌, ◌≤◌}
use native.Mathlib.Omega.{arith}
use mathlib.Core.Path.{◌≡◌, refl, sym, ap, ◌∙◌}
use mathlib.Core.Bool.{Bool, true, false, cond, ◌&&◌, and-true}
use mathlib.Core.List.{List, [], ◌∷◌, ◌++◌}
use lib.ListN.{get_or}
use lib.Dec.{eqb, leb}
use borrow.Author.Tests.{eqb-true, eq-eqb, leb-true, le-leb}
use Rattle.model.specs.Lists.{bit, count, every}
use Rattle.model.specs.Table.{Line}
use Rattle.model.specs.Rules.{Holding, held_by, limit_of}
use Rattle.model.proofs.ListLaws.{iff, and_left, and_right, and_both, count-append}
use Rattle.model.proofs.Facts.{within_all, all-within}
use Rattle.layout.specs.Shape.{in_use}
use Rattle.layout.specs.Held.{holding_at, held_to, ok_at, within}
use Rattle.layout.proofs.HeldLaws.{held-hit, held-miss}

module _ (ls : List Line) where
  -- one holding more
  module _ (l : List Holding) (z : Holding) where
    own : count (l ++ (z ∷ [])) (held_by z.address) ≡ count l (held_by z.address) + 1
    own = count-append l (z ∷ []) (held_by z.address) ∙ (rw (eq-eqb z.address z.address refl))

    more : (a : ℕ) → count l (held_by a) ≤ count (l ++ (z ∷ [])) (held_by a)
    more a = omega (arith, count-append l (z ∷ []) (held_by a))

    grown : (a : ℕ) → ((x : ℕ) → count l (held_by x) ≤ limit_of ls x) → count l (held_by z.address) + 1 ≤ limit_of ls z.address
        → count (l ++ (z ∷ [])) (held_by a) ≤ limit_of ls a
    grown a h k = go (eqb z.address a) refl
      where
        go : (v : Bool) → eqb z.address a ≡ v → count (l ++ (z ∷ [])) (held_by a) ≤ limit_of ls a
        go true e = let q : z.address ≡ a = eqb-true z.address a e in rw (← q) (rw own k)
        go false e = let c = count-append l (z ∷ []) (held_by a) in let f : bit (eqb z.address a) ≡ 0 = ap bit e in omega (arith, h a)

    pub within-snoc : every (within ls (l ++ (z ∷ []))) (l ++ (z ∷ [])) ≡ every (within ls l) l && leb (count l (held_by z.address) + 1) (limit_of ls z.address)
    within-snoc =
        let c = count l (held_by z.address) + 1 in
        let m = limit_of ls z.address in
        iff (every (within ls (l ++ (z ∷ []))) (l ++ (z ∷ []))) (every (within ls l) l && leb c m)
        (λ h.
        let f = within_all ls (l ++ (z ∷ [])) h in
        and_both (every (within ls l) l) (leb c m) (all-within ls l (λ a. omega (arith, more a, f a))) (le-leb c m (rw own at (f z.address))))
        (λ h.
        let f = within_all ls l (and_left (every (within ls l) l) (leb c m) h) in
        let k = leb-true c m (and_right (every (within ls l) l) (leb c m) h) in
        all-within ls (l ++ (z ∷ [])) (λ a. grown a f k))

  -- one slot more
  module _ (r : ℕ) where
    pub within-next : (b : List ℕ) (i : ℕ) → every (within ls (held_to r b (i + 1))) (held_to r b (i + 1))
        ≡ every (within ls (held_to r b i)) (held_to r b i) && ok_at r b (λ k. leb (count (held_to r b i) (held_by k.address) + 1) (limit_of ls k.address)) i
    within-next b i = go (in_use (get_or b (320 * i) 0)) refl
      where
        go : (v : Bool) → in_use (get_or b (320 * i) 0) ≡ v → every (within ls (held_to r b (i + 1))) (held_to r b (i + 1))
            ≡ every (within ls (held_to r b i)) (held_to r b i)
            && cond v (leb (count (held_to r b i) (held_by (holding_at r b (320 * i)).address) + 1) (limit_of ls (holding_at r b (320 * i)).address)) true
        go true e = ap (λ (hs : List Holding). every (within ls hs) hs) (held-hit r b i e) ∙ within-snoc (held_to r b i) (holding_at r b (320 * i))
        go false e = ap (λ (hs : List Holding). every (within ls hs) hs) (held-miss r b i e) ∙ sym (and-true (every (within ls (held_to r b i)) (held_to r b i)))
