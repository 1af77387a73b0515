-- One slot more in each pass over pairs; records by themselves before their rules of pairs; the roster that a making is given. Assumes nothing.
use Prim.Native.Nat.{ℕ, ◌+◌, ◌*◌, ◌<◌}
use native.Mathlib.Omega.{arith}
use mathlib.Core.Path.{◌≡◌, refl, ◌∙◌}
use mathlib.Core.Bool.{Bool, true, false, not, cond, ◌&&◌, and_assoc}
use mathlib.Core.List.{List}
use lib.ListN.{length, get_or}
use lib.Dec.{eqb, leb}
use borrow.Author.Tests.{eqb-true, lt-leb}
use Rattle.model.specs.Lists.{count, any, every, no_two}
use Rattle.model.specs.Table.{Line, listed}
use Rattle.model.specs.Rules.{Holding, numbered, held_by, limit_of, reserve}
use Rattle.model.specs.Sound.{valid_entry, same_number, same_question, sound_roster, sound_holdings}
use Rattle.model.specs.Calls.{good_roster, roster_count}
use Rattle.model.proofs.ListLaws.{never, and_left, and_right, swap}
use Rattle.layout.specs.Shape.{in_use, lines_to, parts_shape}
use Rattle.layout.specs.Held.{holding_at, held_to, ok_at, within, rules_of}
use Rattle.sound.specs.Holders.{holder_sound, holders_sound, entries_sound}
use Rattle.layout.proofs.HeldLaws.{two-next, two-yes, two-no, grows-no}
use Rattle.layout.proofs.AgeLaws.{held-count, held-numbers, held-questions, held-reserve, held-within}
use Rattle.layout.proofs.LimitLaws.{within-next}

module _ (b : List ℕ) (ls : List Line) where
  both : (i : ℕ) (p q : Holding → Bool) → ok_at 0 b (λ k. p k && q k) i ≡ ok_at 0 b p i && ok_at 0 b q i
  both i p q = go (in_use (get_or b (320 * i) 0))
    where
      go : (v : Bool) → cond v (p (holding_at 0 b (320 * i)) && q (holding_at 0 b (320 * i))) true
          ≡ cond v (p (holding_at 0 b (320 * i))) true && cond v (q (holding_at 0 b (320 * i))) true
      go true = refl
      go false = refl

  pub fits_next : (i : ℕ) → holders_sound b ls (i + 1) ≡ holders_sound b ls i && ok_at 0 b (holder_sound b ls i) i
  fits_next i =
      let p : Holding → Bool = λ k. every (λ h. not (same_question h k)) (held_to 0 b i) in
      let q : Holding → Bool = λ k. leb (count (held_to 0 b i) (held_by k.address) + 1) (limit_of ls k.address) in
      rw (two-next 0 b i same_question, within-next ls 0 b i, both i p q)
      (swap (no_two same_question (held_to 0 b i)) (ok_at 0 b p i) (every (within ls (held_to 0 b i)) (held_to 0 b i)) (ok_at 0 b q i))

-- slot i has an entry
module _ (b : List ℕ) (i : ℕ) (held : in_use (get_or b (320 * i) 0) ≡ true) where
  -- of number x
  module _ (x : ℕ) (number : x ≡ (holding_at 0 b (320 * i)).number) where
    pub numbers-yes : every (λ h. not (numbered x h)) (held_to 0 b i) ≡ true → no_two same_number (held_to 0 b i) ≡ true → no_two same_number (held_to 0 b (i + 1)) ≡ true
    numbers-yes h e = two-yes 0 b i same_number (rw (held, ← number) h) e

    pub numbers-no : (n : ℕ) → i < n → every (λ h. not (numbered x h)) (held_to 0 b i) ≡ false → no_two same_number (held_to 0 b n) ≡ false
    numbers-no n l h = two-no 0 b n i l same_number (rw (held, ← number) h)

  module _ (ls : List Line) where
    pub holder-yes : holder_sound b ls i (holding_at 0 b (320 * i)) ≡ true → holders_sound b ls i ≡ true → holders_sound b ls (i + 1) ≡ true
    holder-yes h e = fits_next b ls i ∙ (rw (e, held, h))

    pub holder-no : (n : ℕ) → i < n → holder_sound b ls i (holding_at 0 b (320 * i)) ≡ false → holders_sound b ls n ≡ false
    holder-no n l h = grows-no (λ j. holders_sound b ls j) (λ j. ok_at 0 b (holder_sound b ls j) j) (fits_next b ls) n i l (rw (held, h))

-- the entries' rules in the code's order
pub holdings-is : (n : ℕ) (ls : List Line) (hs : List Holding) → sound_holdings n ls hs
    ≡ every valid_entry hs && (no_two same_number hs && ((no_two same_question hs && every (within ls hs) hs) && leb (reserve ls (count hs) + count hs any) n))
unfolding sound_holdings
holdings-is n ls hs = simp and_assoc

-- no age is seen by the rules of several entries
pub holdings-are : (r : ℕ) (b : List ℕ) (ls : List Line) (n : ℕ) → sound_holdings n ls (held_to r b n) ≡ every valid_entry (held_to r b n) && entries_sound b ls n
holdings-are r b ls n =
    holdings-is n ls (held_to r b n) ∙ (rw (held-numbers r b n, held-questions r b n, held-within r b n ls, held-reserve r b n ls, held-count r b n any (λ e. refl)))

-- RECORDS BY THEMSELVES, before the rules of several

module _ (r : ℕ) (lines slots : List ℕ) (n : ℕ) where
  abbrev records_good : Bool
  records_good = parts_shape lines slots n && every valid_entry (held_to r slots n)

  abbrev listed_lines : List Line
  listed_lines = lines_to lines (listed lines 16)

  -- where all are good, the rules that are judged after it are left
  pub all-good : records_good ≡ true → parts_shape lines slots n && rules_of r lines slots n ≡ sound_roster n listed_lines && entries_sound slots listed_lines n
  all-good z =
      rw (
        and_left (parts_shape lines slots n) (every valid_entry (held_to r slots n)) z,
        holdings-are r slots listed_lines n,
        and_right (parts_shape lines slots n) (every valid_entry (held_to r slots n)) z,
      )

  -- where one is not good, none of them matters
  pub not_good : records_good ≡ false → parts_shape lines slots n && rules_of r lines slots n ≡ false
  not_good z =
      rw (holdings-are r slots listed_lines n) (go (parts_shape lines slots n) (sound_roster n listed_lines) (every valid_entry (held_to r slots n)) (entries_sound slots listed_lines n) z)
    where
      go : (s q e x : Bool) → s && e ≡ false → s && (q && (e && x)) ≡ false
      go false q e x z = refl
      go true false e x z = refl
      go true true false x z = refl
      go true true true x z = never refl z

-- a roster of more than 16 lines
pub too_long : (n : ℕ) (r : List ℕ) → 304 < length r → good_roster n r ≡ false
unfolding good_roster
too_long n r h = go (eqb (length r) (19 * roster_count r)) refl
  where
    go : (v : Bool) → eqb (length r) (19 * roster_count r) ≡ v → good_roster n r ≡ false
    go true e =
        let q : length r ≡ 19 * roster_count r = eqb-true (length r) (19 * roster_count r) e in
        let m : 16 < roster_count r = omega arith in
        rw (e, lt-leb (roster_count r) 16 m)
    go false e = rw e
