-- What is read of a part that starts at k is what is read of the whole, k further on; a table read from its parts. Assumes nothing.
use Prim.Native.Nat.{ℕ, ◌+◌, ◌-◌, ◌*◌}
use native.Mathlib.Omega.{arith}
use mathlib.Core.Bool.{Bool}
use mathlib.Core.Path.{◌≡◌, refl, sym, ap, ◌∙◌}
use mathlib.Core.List.{List, [], ◌++◌, append-nil, append_assoc}
use lib.ListN.{length, get_or, take, drop, length-drop}
use lib.Seq.{get_or-drop, drop-drop, take-add, take-length, drop-length}
use Rattle.model.specs.Numbers.{big_endian, part, splice}
use Rattle.model.specs.Lists.{up_to, index_of}
use Rattle.model.specs.Table.{Slot, read_table, read_slot, read_entry, read_line, Layout, running_at, lines_at, base, line_at, slot_at, listed, layout_of, slots_in, size_of}
use Rattle.model.specs.Rules.{Holding, holdings}
use Rattle.model.specs.Serve.{has, find_entry}
use Rattle.model.proofs.NumberLaws.{big-ext}
use Rattle.model.proofs.ListLaws.{up_to-ext}
use Rattle.layout.specs.Shape.{slots_to, lines_to}
use Rattle.layout.specs.Held.{held_to}

module _ (k : ℕ) (b : List ℕ) where
  pub big-drop : (at n : ℕ) → big_endian (drop k b) at n ≡ big_endian b (k + at) n
  big-drop at n = big-ext (drop k b) b at (k + at) n (λ i l. let e : k + (at + i) ≡ k + at + i = omega arith in get_or-drop k b (at + i) 0 ∙ ap (λ (x : ℕ). get_or b x 0) e)

  pub part-drop : (at n : ℕ) → part at n (drop k b) ≡ part (k + at) n b
  unfolding part
  part-drop at n = rw (drop-drop at k b)

  module _ (at : ℕ) where
    further : (o : ℕ) → k + (at + o) ≡ k + at + o
    further o = omega arith

    byte : (o : ℕ) → get_or (drop k b) (at + o) 0 ≡ get_or b (k + at + o) 0
    byte o = get_or-drop k b (at + o) 0 ∙ ap (λ (x : ℕ). get_or b x 0) (further o)

    number : (o n : ℕ) → big_endian (drop k b) (at + o) n ≡ big_endian b (k + at + o) n
    number o n = big-drop (at + o) n ∙ ap (λ (x : ℕ). big_endian b x n) (further o)

    pub line-drop : read_line (drop k b) at ≡ read_line b (k + at)
    unfolding read_line
    line-drop = rw (number 1 16, byte 17, byte 18)

    pub entry-drop : read_entry (drop k b) at ≡ read_entry b (k + at)
    unfolding read_entry
    entry-drop =
        let n : part (at + 40) (get_or b (k + at + 39) 0) (drop k b) ≡ part (k + at + 40) (get_or b (k + at + 39) 0) b =
        part-drop (at + 40) (get_or b (k + at + 39) 0) ∙ ap (λ (x : ℕ). part x (get_or b (k + at + 39) 0) b) (further 40) in
        rw (number 1 16, number 17 2, number 19 8, number 27 4, number 31 4, number 35 2, number 37 2, byte 39, n, get_or-drop k b at 0)

    pub slot-drop : read_slot (drop k b) at ≡ read_slot b (k + at)
    unfolding read_slot
    slot-drop = rw (get_or-drop k b at 0, entry-drop)

-- A PART THAT IS LENT, from a place to the end

pub tail-is : (b : List ℕ) {a k : ℕ} → a ≡ k → take (length b - a) (drop a b) ≡ drop k b
tail-is b {a = a} e = ap (λ (n : ℕ). take n (drop a b)) (sym (length-drop a b)) ∙ take-length (drop a b) ∙ ap (λ (n : ℕ). drop n b) e

-- it comes back changed
pub tail-back : (b : List ℕ) {a k : ℕ} {vs ws : List ℕ} → a ≡ k → vs ≡ ws → take a b ++ (vs ++ drop (length b - a) (drop a b)) ≡ take k b ++ ws
tail-back b {a = a} {ws = ws} e f =
    let n : drop (length b - a) (drop a b) ≡ [] = ap (λ (n : ℕ). drop n (drop a b)) (sym (length-drop a b)) ∙ drop-length (drop a b) in
    rw (f, n, append-nil ws) (ap (λ (n : ℕ). take n b ++ ws) e)

pub tail-splice : (b : List ℕ) (k at w : ℕ) (vs : List ℕ) → take k b ++ splice at w vs (drop k b) ≡ splice (k + at) w vs b
unfolding splice
tail-splice b k at w vs =
    let e : k + (at + w) ≡ k + at + w = omega arith in
    rw (take-add k at b, drop-drop (at + w) k b, e) (sym (append_assoc (take k b) (take at (drop k b)) (vs ++ drop (k + at + w) b)))

-- some of its bytes were written
pub tail_written : (b : List ℕ) (at w : ℕ) (vs : List ℕ) {a k : ℕ} {ws : List ℕ} → a ≡ k → ws ≡ splice at w vs (take (length b - a) (drop a b))
    → take a b ++ (ws ++ drop (length b - a) (drop a b)) ≡ splice (k + at) w vs b
tail_written b at w vs {k = k} e f = tail-back b e (f ∙ ap (splice at w vs) (tail-is b e)) ∙ tail-splice b k at w vs

-- A TABLE'S PARTS, by the layout of its length

module _ (b : List ℕ) where
  abbrev l : Layout
  l = layout_of (length b)

  pub roster-read : (read_table b).roster ≡ lines_to (drop (lines_at l) b) (listed (drop (lines_at l) b) 16)
  unfolding read_table
  roster-read =
      up_to-ext (listed (drop (lines_at l) b) 16) (λ j. read_line b (line_at l j)) (λ j. read_line (drop (lines_at l) b) (19 * j)) (λ j h. sym (line-drop (lines_at l) b (19 * j)))

  running-is : (read_table b).clock.running ≡ big_endian b (running_at l) 4
  unfolding read_table
  running-is = refl

  slots_at : (n : ℕ) → up_to n (λ j. read_slot b (slot_at l j)) ≡ slots_to (drop (base l) b) n
  slots_at n = up_to-ext n (λ j. read_slot b (slot_at l j)) (λ j. read_slot (drop (base l) b) (320 * j)) (λ j h. sym (slot-drop (base l) b (320 * j)))

  pub parts-read : (read_table b).slots ≡ slots_to (drop (base l) b) (slots_in (length b))
  unfolding read_table
  parts-read = slots_at (slots_in (length b))

  pub holdings-parts : holdings (read_table b) ≡ held_to (big_endian b (running_at l) 4) (drop (base l) b) (slots_in (length b))
  unfolding read_table held_to
  holdings-parts = rw (slots_at (slots_in (length b)))

  module _ (n : ℕ) (size : length b ≡ size_of l n) where
    size_is : slots_in (length b) ≡ n
    size_is = omega arith

    pub slots_read : (read_table b).slots ≡ slots_to (drop (base l) b) n
    slots_read = parts-read ∙ ap (λ (k : ℕ). slots_to (drop (base l) b) k) size_is

    pub find-read : (p : Holding → Bool) → find_entry p (read_table b) ≡ index_of (has (big_endian b (running_at l) 4) p) (slots_to (drop (base l) b) n)
    unfolding find_entry
    find-read p =
        ap (λ (s : List Slot). index_of (has (read_table b).clock.running p) s) slots_read
        ∙ ap (λ (r : ℕ). index_of (has r p) (slots_to (drop (base l) b) n)) running-is

    pub holdings-read : holdings (read_table b) ≡ held_to (big_endian b (running_at l) 4) (drop (base l) b) n
    holdings-read = holdings-parts ∙ ap (λ (k : ℕ). held_to (big_endian b (running_at l) 4) (drop (base l) b) k) size_is
