-- The roster's records: the test of all against its faults. Assumes nothing.
use Prim.Native.Nat.{ℕ, zero, suc, ◌+◌, ◌*◌, ◌≤◌, ◌<◌}
use native.Mathlib.Nat.{add-zero}
use native.Mathlib.Omega.{arith}
use mathlib.Core.Path.{◌≡◌, refl, sym, ap, ◌∙◌}
use mathlib.Core.Bool.{true, false, ◌&&◌}
use mathlib.Core.List.{List, [], ◌∷◌, ◌++◌}
use lib.ListN.{length, get_or}
use lib.Dec.{eqb, leb}
use borrow.Author.Tests.{leb-true, leb-false, eqb-true, eqb-false, eq-eqb}
use Rattle.model.specs.Lists.{every, no_two, up_to}
use Rattle.model.specs.Numbers.{Bytes, big_endian, bytes_of, part}
use Rattle.model.specs.Table.{Line, read_line}
use Rattle.model.specs.Rules.{shares}
use Rattle.model.specs.Sound.{valid_line, same_address, sound_roster}
use Rattle.model.specs.Calls.{roster_count, roster_lines, good_roster}
use Rattle.model.proofs.NumberLaws.{bytes-big, big-part}
use Rattle.model.proofs.ListLaws.{and_left, and_right, not-both, every-up_to, every-index, length-up_to, get_or-up_to, one_place}
use Rattle.model.proofs.RoundTrip.{no_line}
use Rattle.model.proofs.Facts.{roster-facts}
use Rattle.model.proofs.CallLaws.{GivenRoster, given-roster}
use Rattle.claims.specs.Roster.{share_at, limit_at}
use Rattle.claims.specs.Refusals.{share_total, RosterFault}
use Rattle.claims.proofs.Refusals.Ladders.{Two, first-miss, some-two}

-- THE SHARES

shares-snoc : (ls : List Line) (l : Line) → shares (ls ++ (l ∷ [])) ≡ shares ls + l.share
unfolding shares
shares-snoc [] l = omega arith
shares-snoc (x ∷ ls) l = omega (arith, shares-snoc ls l)

shares-total : (r : List ℕ) (m : ℕ) → shares (up_to m (λ i. read_line r (19 * i))) ≡ share_total r m
unfolding up_to shares read_line
shares-total r zero = refl
shares-total r (suc m) = shares-snoc (up_to m (λ i. read_line r (19 * i))) (read_line r (19 * m)) ∙ ap (λ (x : ℕ). x + share_at r m) (shares-total r m)

-- THE ADDRESSES: equal numbers are equal bytes

module _ (r : List ℕ) (a b : ℕ) where
  equal-parts : Bytes r → a + 16 ≤ length r → b + 16 ≤ length r → big_endian r a 16 ≡ big_endian r b 16 → part a 16 r ≡ part b 16 r
  equal-parts bytes l m e = sym (bytes-big r a 16 bytes l) ∙ ap (bytes_of 16) e ∙ bytes-big r b 16 bytes m

  equal-numbers : part a 16 r ≡ part b 16 r → big_endian r a 16 ≡ big_endian r b 16
  equal-numbers e =
      let x : big_endian (part a 16 r) 0 16 ≡ big_endian r (a + 0) 16 = big-part r a 16 0 16 (omega arith) in
      let y : big_endian (part b 16 r) 0 16 ≡ big_endian r (b + 0) 16 = big-part r b 16 0 16 (omega arith) in
      let number : ℕ → ℕ = λ z. big_endian r z 16 in
      ap number (sym (add-zero a)) ∙ sym x ∙ ap (λ (s : List ℕ). big_endian s 0 16) e ∙ y ∙ ap number (add-zero b)

module _ (n : ℕ) (r : List ℕ) where
  -- FROM THE TEST TO A FAULT

  line-fault : (i : ℕ) → 19 * i < length r → valid_line (read_line r (19 * i)) ≡ false → RosterFault n r
  unfolding read_line
  line-fault i l =
      not-both (leb (share_at r i) (limit_at r i) && leb 1 (limit_at r i)) (leb (limit_at r i) 64)
      (not-both (leb (share_at r i) (limit_at r i)) (leb 1 (limit_at r i))
      (λ x. RosterFault.share_over_limit i l (leb-false (share_at r i) (limit_at r i) x))
      (λ t x. RosterFault.limit_zero i l (leb-false 1 (limit_at r i) x)))
      (λ t x. RosterFault.limit_over i l (leb-false (limit_at r i) 64 x))

  module _ (bytes : Bytes r) (whole : length r ≡ 19 * roster_count r) where
    twice-fault : Two same_address (roster_count r) (λ i. read_line r (19 * i)) → RosterFault n r
    unfolding read_line
    twice-fault t =
        let i = t.one in
        let j = t.other in
        let l = t.less in
        let w = t.within in
        RosterFault.listed_twice i j l (omega arith)
        (equal-parts r (19 * i + 1) (19 * j + 1) bytes (omega arith) (omega arith)
        (eqb-true (big_endian r (19 * i + 1) 16) (big_endian r (19 * j + 1) 16) t.agree))

    rules-fault : sound_roster n (roster_lines r) ≡ false → RosterFault n r
    unfolding sound_roster
    rules-fault =
        let f : ℕ → Line = λ i. read_line r (19 * i) in
        not-both (every valid_line (roster_lines r) && no_two same_address (roster_lines r)) (leb (shares (roster_lines r)) n)
        (not-both (every valid_line (roster_lines r)) (no_two same_address (roster_lines r))
        (λ x.
        let m = first-miss (λ i. valid_line (read_line r (19 * i))) (roster_count r) (sym (every-up_to (roster_count r) f valid_line) ∙ x) in
        line-fault m.index (omega (arith, m.within)) m.misses)
        (λ t x. twice-fault (some-two same_address (roster_count r) f x)))
        (λ t x.
        RosterFault.shares_over (roster_count r) whole (rw (shares-total r (roster_count r)) at (leb-false (shares (roster_lines r)) n x)))

  pub bad-roster : Bytes r → good_roster n r ≡ false → RosterFault n r
  unfolding good_roster
  bad-roster bytes =
      let a = eqb (length r) (19 * roster_count r) in
      let b = leb (roster_count r) 16 in
      let c = every (λ i. eqb (get_or r (19 * i) 0) 3) (up_to (roster_count r) (λ i. i)) in
      let e = sound_roster n (roster_lines r) in
      not-both (a && b && c) e
      (not-both (a && b) c
      (not-both a b
      (λ x. RosterFault.not_whole (λ m z. eqb-false (length r) (19 * roster_count r) x (omega arith)))
      (λ t x.
      let w = eqb-true (length r) (19 * roster_count r) t in
      RosterFault.too_many (omega (arith, w, leb-false (roster_count r) 16 x))))
      (λ t x.
      let w = eqb-true (length r) (19 * roster_count r) (and_left a b t) in
      let m = first-miss (λ i. eqb (get_or r (19 * i) 0) 3) (roster_count r) x in
      RosterFault.other_kind m.index (omega (arith, w, m.within)) (eqb-false (get_or r (19 * m.index) 0) 3 m.misses)))
      (λ t x. rules-fault bytes (eqb-true (length r) (19 * roster_count r) (and_left a b (and_left (a && b) c t))) x)

  -- FROM THE TEST TO NO FAULT

  module _ (g : GivenRoster n r) where
    inside : (i : ℕ) → 19 * i < length r → i < roster_count r
    inside i l = omega (arith, g.whole)

    all_valid : every valid_line (roster_lines r) ≡ true
    unfolding sound_roster
    all_valid =
        let a = every valid_line (roster_lines r) in
        let b = no_two same_address (roster_lines r) in
        and_left a b (and_left (a && b) (leb (shares (roster_lines r)) n) g.sound)

    line-valid : (i : ℕ) → 19 * i < length r → (share_at r i ≤ limit_at r i) × (1 ≤ limit_at r i) × (limit_at r i ≤ 64)
    unfolding read_line
    line-valid i l =
        let a = leb (share_at r i) (limit_at r i) in
        let b = leb 1 (limit_at r i) in
        let c = leb (limit_at r i) 64 in
        let v : a && b && c ≡ true =
        every-index (λ i. valid_line (read_line r (19 * i))) (roster_count r)
        (sym (every-up_to (roster_count r) (λ i. read_line r (19 * i)) valid_line) ∙ all_valid) i (inside i l) in
        let ab = and_left (a && b) c v in
        let low = leb-true 1 (limit_at r i) (and_right a b ab) in
        let high = leb-true (limit_at r i) 64 (and_right (a && b) c v) in
        (leb-true (share_at r i) (limit_at r i) (and_left a b ab), low, high)

    -- equal addresses are one record's
    one_line : (i j : ℕ) → 19 * i < length r → 19 * j < length r → part (19 * i + 1) 16 r ≡ part (19 * j + 1) 16 r → i ≡ j
    unfolding read_line
    one_line i j li lj e =
        let f : ℕ → Line = λ k. read_line r (19 * k) in
        let m = roster_count r in
        let a = big_endian r (19 * j + 1) 16 in
        let at_i : get_or (up_to m f) i no_line ≡ f i = get_or-up_to m f i no_line (inside i li) in
        let at_j : get_or (up_to m f) j no_line ≡ f j = get_or-up_to m f j no_line (inside j lj) in
        one_place (roster_lines r) i j no_line (λ (l : Line). eqb l.address a) ((roster-facts n (roster_lines r) g.sound).listed_once a)
        (rw (length-up_to m f) (inside i li))
        (rw (length-up_to m f) (inside j lj))
        (rw at_i (eq-eqb (big_endian r (19 * i + 1) 16) a (equal-numbers r (19 * i + 1) (19 * j + 1) e)))
        (rw at_j (eq-eqb a a refl))

    faultless : RosterFault n r → ⊥
    faultless (RosterFault.not_whole w) = w (roster_count r) g.whole
    faultless (RosterFault.too_many l) = omega (arith, g.whole, g.few)
    faultless (RosterFault.other_kind i l k) = k (g.kinds i (inside i l))
    faultless (RosterFault.share_over_limit i l x) = let v = line-valid i l in omega (arith, v.0)
    faultless (RosterFault.limit_zero i l x) = let v = line-valid i l in omega (arith, v.1)
    faultless (RosterFault.limit_over i l x) = let v = line-valid i l in omega (arith, v.2)
    faultless (RosterFault.listed_twice i j l m e) = omega (arith, one_line i j (omega arith) m e)
    faultless (RosterFault.shares_over m w l) =
        let e : m ≡ roster_count r = omega arith in
        let s : shares (roster_lines r) ≤ n = (roster-facts n (roster_lines r) g.sound).share_sum in
        let x : shares (roster_lines r) ≡ share_total r m = rw e (shares-total r (roster_count r)) in
        omega (arith, s, x)

  pub good-roster : good_roster n r ≡ true → RosterFault n r → ⊥
  good-roster h = faultless (given-roster n r h)
