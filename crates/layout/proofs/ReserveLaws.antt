-- The reserve with one holding more. Assumes nothing.
use Prim.Native.Nat.{ℕ, ◌+◌, ◌-◌, ◌*◌}
use native.Mathlib.Omega.{arith}
use mathlib.Core.Path.{◌≡◌, refl, ap, ◌∙◌}
use mathlib.Core.Bool.{Bool, true, false, not, cond}
use mathlib.Core.List.{List, [], ◌∷◌}
use lib.ListN.{get_or}
use lib.Dec.{eqb, leb}
use borrow.Author.Tests.{eqb-true, eq-eqb, leb-true, leb-false, le-leb, not-true}
use Rattle.model.specs.Lists.{bit, count, any, every, no_two}
use Rattle.model.specs.Table.{Line}
use Rattle.model.specs.Rules.{held_by, share_of, shares, reserve, Counts}
use Rattle.model.specs.Sound.{same_address}
use Rattle.model.proofs.ListLaws.{and_left, and_right, eqb-sym}
use Rattle.layout.specs.Shape.{in_use}
use Rattle.layout.specs.Held.{holding_at, held_to}
use Rattle.layout.proofs.HeldLaws.{held_none, count_next}
use Rattle.layout.proofs.LineLaws.{unlisted}

-- the address a has one holding more by d than by c
module _ (c d : Counts) (a : ℕ) (step : (x : ℕ) → d (held_by x) ≡ c (held_by x) + bit (eqb a x)) where
  other : (x : ℕ) → eqb x a ≡ false → d (held_by x) ≡ c (held_by x)
  other x e = let z : bit (eqb a x) ≡ 0 = ap bit (eqb-sym a x ∙ e) in omega (arith, step x)

  -- lines of other addresses keep what they kept
  reserve-others : (ls : List Line) → unlisted ls a ≡ true → reserve ls d ≡ reserve ls c
  unfolding reserve every
  reserve-others [] h = refl
  reserve-others (l ∷ ls) h =
      let n : eqb l.address a ≡ false = not-true (eqb l.address a) (and_left (not (eqb l.address a)) (unlisted ls a) h) in
      let r = reserve-others ls (and_right (not (eqb l.address a)) (unlisted ls a) h) in
      rw (other l.address n, r)

  others : (l : Line) (ls : List Line) → l.address ≡ a → every (λ x. not (same_address l x)) ls ≡ true → unlisted ls a ≡ true
  unfolding every
  others l [] e h = refl
  others l (x ∷ ls) e h =
      let s : eqb l.address x.address ≡ eqb x.address a = eqb-sym l.address x.address ∙ ap (eqb x.address) e in
      rw (← s, and_left (not (same_address l x)) (every (λ y. not (same_address l y)) ls) h, others l ls e (and_right (not (same_address l x)) (every (λ y. not (same_address l y)) ls) h))

  -- below its share the holding is one that was reserved; from there on it is one beside the reserve
  pub reserve-more : (ls : List Line) → no_two same_address ls ≡ true → reserve ls d + 1 ≡ reserve ls c + bit (leb (share_of ls a) (c (held_by a)))
  unfolding reserve share_of no_two
  reserve-more [] h = rw (le-leb 0 (c (held_by a)) (omega arith))
  reserve-more (l ∷ ls) h =
      let rest = every (λ x. not (same_address l x)) ls in
      go (eqb l.address a) refl (and_left rest (no_two same_address ls) h) (reserve-more ls (and_right rest (no_two same_address ls) h))
    where
      own : (v : Bool) → leb l.share (c (held_by a)) ≡ v → d (held_by a) ≡ c (held_by a) + 1 → reserve ls d ≡ reserve ls c
          → l.share - d (held_by a) + reserve ls d + 1 ≡ l.share - c (held_by a) + reserve ls c + bit v
      own true e p q = omega (arith, leb-true l.share (c (held_by a)) e)
      own false e p q = omega (arith, leb-false l.share (c (held_by a)) e)

      go : (v : Bool) → eqb l.address a ≡ v → every (λ x. not (same_address l x)) ls ≡ true
          → reserve ls d + 1 ≡ reserve ls c + bit (leb (share_of ls a) (c (held_by a)))
          → l.share - d (held_by l.address) + reserve ls d + 1
          ≡ l.share - c (held_by l.address) + reserve ls c + bit (leb (cond v l.share (share_of ls a)) (c (held_by a)))
      go true e n m =
          let q : l.address ≡ a = eqb-true l.address a e in
          let o : bit (eqb a a) ≡ 1 = ap bit (eq-eqb a a refl) in
          rw q (own (leb l.share (c (held_by a))) refl (omega (arith, step a)) (reserve-others ls (others l ls q n)))
      go false e n m = let o = other l.address e in omega arith

module _ (r : ℕ) where
  -- one slot more, with an entry: the reserve and the entries grow together by one where the address has reached its share
  pub reserve-held : (b : List ℕ) (ls : List Line) (i : ℕ) → in_use (get_or b (320 * i) 0) ≡ true → no_two same_address ls ≡ true
      → reserve ls (count (held_to r b (i + 1))) + count (held_to r b (i + 1)) any
      ≡ reserve ls (count (held_to r b i)) + count (held_to r b i) any
      + bit (leb (share_of ls (holding_at r b (320 * i)).address) (count (held_to r b i) (held_by (holding_at r b (320 * i)).address)))
  reserve-held b ls i u h =
      let m = reserve-more (count (held_to r b i)) (count (held_to r b (i + 1))) (holding_at r b (320 * i)).address (λ x. rw u at (count_next r b i (held_by x))) ls h in
      let n = rw u at (count_next r b i any) in
      omega arith

-- before the first slot all shares are reserved
all-shares : (ls : List Line) → shares ls ≡ reserve ls (count []) + 0
unfolding shares reserve
all-shares [] = refl
all-shares (l ∷ ls) = omega (arith, all-shares ls)

pub reserve-start : (r : ℕ) (b : List ℕ) (ls : List Line) → shares ls ≡ reserve ls (count (held_to r b 0)) + count (held_to r b 0) any
reserve-start r b ls = rw held_none (all-shares ls)
