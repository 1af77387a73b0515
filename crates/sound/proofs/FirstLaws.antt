-- The table of first slots: for each byte a slot below which no entry ends in it; what a walk that looks from there on has found. Assumes nothing.
use Prim.Native.Nat.{ℕ, zero, suc, ◌+◌, ◌*◌, ◌%◌, ◌<◌, min}
use native.Mathlib.Numerals.{add-one}
use native.Mathlib.Omega.{arith}
use mathlib.Core.Path.{◌≡◌, refl, sym, ap, ◌∙◌}
use mathlib.Core.Bool.{Bool, true, false, not, cond}
use mathlib.Core.List.{List}
use mathlib.Core.Logic.{◌≢◌}
use lib.ListN.{length, get_or, set}
use lib.Seq.{get_or-set_same, get_or-set_other}
use lib.Dec.{eqb}
use borrow.Author.Count.{below_more}
use borrow.Author.Tests.{eqb-true, eqb-false, ne_eqb}
use Rattle.model.specs.Lists.{every, no_two}
use Rattle.model.specs.Numbers.{big_endian, Bytes}
use Rattle.model.specs.Table.{Line, read_entry}
use Rattle.model.specs.Rules.{Holding, numbered, held_by}
use Rattle.model.specs.Sound.{same_number, same_question}
use Rattle.model.proofs.ListLaws.{every-nil, no_two-nil, never}
use Rattle.layout.specs.Shape.{in_use}
use Rattle.layout.specs.Held.{holding_at, held_to, ok_at}
use Rattle.layout.proofs.HeldLaws.{held_none, every-yes, two-yes}
use Rattle.holdings.specs.declared.Slots.{Slots}
use Rattle.sound.specs.Entries.{LooksFrom, entry_of, number_apart, address_apart}
use Rattle.sound.specs.Holders.{holder_sound, holders_sound}
use Rattle.sound.proofs.HolderLaws.{fits_next}

-- THE TABLE

-- of the slots below i, none below first[x] has an entry that ends in x
abbrev pub Firsts : List ℕ → ℕ → ℕ → List ℕ → Type 0
Firsts b last i first = (x j : ℕ) → j < i → j < get_or first x 0 → in_use (get_or b (320 * j) 0) ≡ true → ¬ (get_or b (320 * j + last) 0 ≡ x)

module _ (b : List ℕ) (last : ℕ) where
  -- one slot more
  module _ (i : ℕ) (first : List ℕ) (f : Firsts b last i first) where
    pub firsts-free : in_use (get_or b (320 * i) 0) ≡ false → Firsts b last (i + 1) first
    firsts-free u x = below_more (λ j. j < get_or first x 0 → in_use (get_or b (320 * j) 0) ≡ true → ¬ (get_or b (320 * j + last) 0 ≡ x)) i (f x) (λ m h. never h u)

    -- slot i has an entry that ends in x; p is the slot to look from
    module _ (x p : ℕ) (e : x ≡ get_or b (320 * i + last) 0) (q : p ≡ min (get_or first x 0) i) where
      pub firsts-held : x < length first → Firsts b last (i + 1) (set first x p)
      firsts-held l y j n m h = go (eqb y x) refl
        where
          go : (v : Bool) → eqb y x ≡ v → ¬ (get_or b (320 * j + last) 0 ≡ y)
          go true z =
              let w : y ≡ x = eqb-true y x z in
              let k : j < p = rw (w, get_or-set_same first x p 0 l) at m in
              rw w (f x j (omega arith) (omega arith) h)
          go false z =
              let w : y ≢ x = eqb-false y x z in
              let k : j < get_or first y 0 = rw (get_or-set_other first x y p 0 w) at m in
              below_more (λ k. k < get_or first y 0 → in_use (get_or b (320 * k) 0) ≡ true → ¬ (get_or b (320 * k + last) 0 ≡ y)) i (f y) (λ m h d. w (sym d ∙ sym e)) j n k h

-- THE LAST BYTE

-- the last byte of a number and of an address stands last where it is stored
last_byte : (s : List ℕ) (at k : ℕ) → Bytes s → big_endian s at (suc k) % 256 ≡ get_or s (at + k) 0
unfolding big_endian
last_byte s at k b = let l = b (at + k) in omega arith

number-ends : (s : List ℕ) (a : ℕ) → Bytes s → big_endian s (a + 19) 8 % 256 ≡ get_or s (a + 26) 0
number-ends s a b = last_byte s (a + 19) 7 b ∙ ap (λ (k : ℕ). get_or s k 0) {x = a + 19 + 7} {y = a + 26} (omega arith)

address-ends : (s : List ℕ) (a : ℕ) → Bytes s → big_endian s (a + 1) 16 % 256 ≡ get_or s (a + 16) 0
address-ends s a b = last_byte s (a + 1) 15 b ∙ ap (λ (k : ℕ). get_or s k 0) {x = a + 1 + 15} {y = a + 16} (omega arith)

-- numbers that end in other bytes are not the same
apart : (x y c d : ℕ) → x % 256 ≡ c → y % 256 ≡ d → ¬ (c ≡ d) → eqb x y ≡ false
apart x y c d p q n = ne_eqb x y (λ e. n (sym p ∙ ap (λ (k : ℕ). k % 256) e ∙ q))

module _ (b : List ℕ) where
  if-held : (p : Holding → Bool) (i : ℕ) → (in_use (get_or b (320 * i) 0) ≡ true → p (holding_at 0 b (320 * i)) ≡ true) → ok_at 0 b p i ≡ true
  if-held p i f = go (in_use (get_or b (320 * i) 0)) refl
    where
      go : (v : Bool) → in_use (get_or b (320 * i) 0) ≡ v → cond v (p (holding_at 0 b (320 * i))) true ≡ true
      go true u = f u
      go false u = refl

  -- each entry of the slots below n passes
  every_held : (p : Holding → Bool) (n : ℕ) → ((j : ℕ) → j < n → in_use (get_or b (320 * j) 0) ≡ true → p (holding_at 0 b (320 * j)) ≡ true) → every p (held_to 0 b n) ≡ true
  every_held p zero f = rw held_none (every-nil p)
  every_held p (suc n) f = rw (← add-one n) (every-yes 0 b n p (if-held p n (f n (omega arith))) (every_held p n (λ j l. f j (omega arith))))

  -- WHERE EACH ENTRY PASSES

  pub all-numbers : (n : ℕ) → ((i : ℕ) → i < n → in_use (get_or b (320 * i) 0) ≡ true → every (λ h. not (numbered (holding_at 0 b (320 * i)).number h)) (held_to 0 b i) ≡ true)
      → no_two same_number (held_to 0 b n) ≡ true
  all-numbers zero f = rw held_none (no_two-nil same_number)
  all-numbers (suc n) f =
      rw (← add-one n) (two-yes 0 b n same_number (if-held (λ k. every (λ h. not (numbered k.number h)) (held_to 0 b n)) n (f n (omega arith))) (all-numbers n (λ i l. f i (omega arith))))

  pub all-holders : (ls : List Line) (n : ℕ) → ((i : ℕ) → i < n → in_use (get_or b (320 * i) 0) ≡ true → holder_sound b ls i (holding_at 0 b (320 * i)) ≡ true) → holders_sound b ls n ≡ true
  all-holders ls zero f = rw (held_none, no_two-nil same_question) (every-nil _)
  all-holders ls (suc n) f = rw (← add-one n, fits_next b ls n, all-holders ls n (λ i l. f i (omega arith))) (if-held (holder_sound b ls n) n (f n (omega arith)))

-- BELOW THE SLOT TO LOOK FROM

module _ (s : Slots) (from i : ℕ) where
  pub none-numbered : LooksFrom s 26 from i → number_apart s i from ≡ true
  unfolding holding_at read_entry
  none-numbered l =
      let b = s.bytes.now in
      every_held b (λ h. not (numbered (entry_of s i).number h)) from
      (λ j m u. ap not (apart _ _ _ _ (number-ends b (320 * j) l.bytes) (number-ends b (320 * i) l.bytes) (l.others j m u)))

  pub none-holds : LooksFrom s 16 from i → address_apart s i from ≡ true
  unfolding holding_at read_entry
  none-holds l =
      let b = s.bytes.now in
      every_held b (λ h. not (held_by (entry_of s i).address h)) from
      (λ j m u. ap not (apart _ _ _ _ (address-ends b (320 * j) l.bytes) (address-ends b (320 * i) l.bytes) (l.others j m u)))
