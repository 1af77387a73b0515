-- What was written is read: the table comes back from its bytes. Assumes nothing.
use Prim.Native.Nat.{ℕ, zero, suc, ◌+◌, ◌-◌, ◌*◌, ◌%◌, ◌≤◌, ◌<◌}
use native.Mathlib.Nat.{eq-or-lt_of_le}
use native.Mathlib.Numerals.{add-one}
use native.Mathlib.Omega.{arith}
use mathlib.Core.Path.{◌≡◌, refl, sym, ap, ◌∙◌}
use mathlib.Core.Bool.{Bool, true, false, cond, ◌&&◌}
use mathlib.Core.List.{List, [], ◌∷◌, ◌++◌, append_assoc}
use mathlib.Core.Logic.{⊎_elim, ◌≢◌}
use lib.ListN.{length, get_or, take, drop, replicate, length-append}
use lib.Seq.{get_or_at, get_or-drop}
use lib.Dec.{eqb, lit<}
use borrow.Author.Tests.{eqb-true, eq-eqb, ne_eqb}
use Rattle.model.specs.Lists.{up_to, flat}
use Rattle.model.specs.Numbers.{big_endian}
use Rattle.model.specs.Clock.{Weeks, ten_bit, thirteen_bit}
use Rattle.model.specs.Table.{Line, free, Layout, Table, slot_bytes, line_bytes, unused_line, roster_bytes, clock_kind, place_bytes, clock_bytes, table_bytes, read_as, read_table, read_slot, read_line, running_at, lines_at, slot_at, line_at, size_of, weeks_for, layout_of, listed, slots_in}
use Rattle.model.specs.Sound.{Fits}
use Rattle.model.proofs.ListLaws.{and_left, and_right, length-up_to, up_to-ext, up_to-get_or, length-flat}
use Rattle.model.proofs.SlotLaws.{length-line, slot-back, field-behind, line-kind, line-back}
use Rattle.model.proofs.TableLaws.{flat-cut, length_front, length-roster, length-clock, fits-rows, length-table, clock_fields}

-- HOW MANY LINES ARE LISTED
module _ (b : List ℕ) where
  pub listed_more : (i : ℕ) → listed b i ≡ i → get_or b (19 * i) 0 ≡ 3 → listed b (i + 1) ≡ i + 1
  unfolding listed
  listed_more i e k = rw (add-one, e, eq-eqb i i refl, eq-eqb (get_or b (19 * i) 0) 3 k)

  pub listed-stop : (i m : ℕ) → listed b i ≡ i → get_or b (19 * i) 0 ≢ 3 → i < m → listed b m ≡ i
  unfolding listed
  listed-stop i zero e n h = absurd (omega arith)
  listed-stop i (suc m) e n h =
      ⊎_elim
      (λ (q : i ≡ m). rw (← q, e, eq-eqb i i refl, ne_eqb (get_or b (19 * i) 0) 3 n))
      (λ (q : i < m). let r = listed-stop i m e n q in rw (r, ne_eqb i m (λ z. omega arith)))
      (let q : i ≤ m = omega arith in eq-or-lt_of_le q)

  pub listed-none : listed b 0 ≡ 0
  unfolding listed
  listed-none = refl

  pub listed_le : (m : ℕ) → listed b m ≤ m
  unfolding listed
  listed_le zero = omega arith
  listed_le (suc m) = go (eqb (listed b m) m && eqb (get_or b (19 * m) 0) 3) (listed_le m)
    where
      go : (v : Bool) → listed b m ≤ m → cond v (suc m) (listed b m) ≤ suc m
      go true h = omega arith
      go false h = omega arith

  pub listed-full : (m : ℕ) → ((i : ℕ) → i < m → get_or b (19 * i) 0 ≡ 3) → listed b m ≡ m
  listed-full zero h = listed-none
  listed-full (suc m) h = rw (← add-one m) (listed_more m (listed-full m (λ i l. h i (omega arith))) (h m (omega arith)))

pub listed-kind : (b : List ℕ) (m i : ℕ) → i < listed b m → get_or b (19 * i) 0 ≡ 3
unfolding listed
listed-kind b zero i h = absurd (omega arith)
listed-kind b (suc m) i h = go (eqb (listed b m) m && eqb (get_or b (19 * m) 0) 3) refl h (λ (l : i < listed b m). listed-kind b m i l)
  where
    go : (v : Bool) → eqb (listed b m) m && eqb (get_or b (19 * m) 0) 3 ≡ v → i < cond v (suc m) (listed b m) → (i < listed b m → get_or b (19 * i) 0 ≡ 3)
        → get_or b (19 * i) 0 ≡ 3
    go true e l rec =
        let f : listed b m ≡ m = eqb-true (listed b m) m (and_left (eqb (listed b m) m) (eqb (get_or b (19 * m) 0) 3) e) in
        ⊎_elim
        (λ (q : i ≡ m). rw q (eqb-true (get_or b (19 * m) 0) 3 (and_right (eqb (listed b m) m) (eqb (get_or b (19 * m) 0) 3) e)))
        (λ (q : i < m). rec (omega arith))
        (let q : i ≤ m = omega arith in eq-or-lt_of_le q)
    go false e l rec = rec l

-- THE LENGTH SAYS THE LAYOUT AND THE SLOTS
weeks-back : (w : Weeks) (n : ℕ) → weeks_for (size_of (record { weeks = w }) n) ≡ w
weeks-back ten_bit n = let e : (313 + 320 * n) % 320 ≢ 317 = λ h. omega arith in rw (ne_eqb ((313 + 320 * n) % 320) 317 e)
weeks-back thirteen_bit n = let e : (317 + 320 * n) % 320 ≡ 317 = omega arith in rw (eq-eqb ((317 + 320 * n) % 320) 317 e)

pub layout-back : (l : Layout) (n : ℕ) → layout_of (size_of l n) ≡ l
unfolding layout_of
layout-back l n = ap (λ (w : Weeks). record { weeks = w }) (weeks-back l.weeks n)

pub slots-back : (l : Layout) (n : ℕ) → slots_in (size_of l n) ≡ n
slots-back l n = rw (layout-back l n) (omega arith)

-- what is read where there is no line
abbrev pub no_line : Line
no_line = record { address = 0; share = 0; limit = 0 }

module _ (t : Table) (lines : length t.roster ≤ 16) (f : Fits t) where
  pub slot-at : (i : ℕ) → i < length t.slots → read_slot (table_bytes t) (slot_at t.layout i) ≡ get_or t.slots i free
  unfolding table_bytes
  slot-at i l =
      let p = (clock_bytes t.layout t.clock ++ roster_bytes t.roster) ++ flat slot_bytes (take i t.slots) in
      let q = flat slot_bytes (drop (suc i) t.slots) in
      let s = get_or t.slots i free in
      let e : clock_bytes t.layout t.clock ++ (roster_bytes t.roster ++ flat slot_bytes t.slots) ≡ p ++ (slot_bytes s ++ q) =
      sym (append_assoc (clock_bytes t.layout t.clock) (roster_bytes t.roster) (flat slot_bytes t.slots))
      ∙ ap (λ (z : List ℕ). (clock_bytes t.layout t.clock ++ roster_bytes t.roster) ++ z) (flat-cut slot_bytes t.slots i free l)
      ∙ sym (append_assoc (clock_bytes t.layout t.clock ++ roster_bytes t.roster) (flat slot_bytes (take i t.slots)) (slot_bytes s ++ q)) in
      let pk : length p ≡ slot_at t.layout i =
      rw (
        length-append,
        length-append,
        length-clock t.layout t.clock,
        length-roster t.roster lines,
        length_front slot_bytes 320 t.slots (fits-rows t lines f) i (omega arith),
      ) in
      ap (λ (z : List ℕ). read_slot z (slot_at t.layout i)) e ∙ slot-back p (slot_at t.layout i) s q pk (f.slots i l)

  rest : List ℕ
  rest = flat (λ (i : ℕ). unused_line) (up_to (16 - length t.roster) (λ i. i)) ++ flat slot_bytes t.slots

  abbrev lines-before : ℕ → List ℕ
  lines-before i = clock_bytes t.layout t.clock ++ flat line_bytes (take i t.roster)

  abbrev lines_after : ℕ → List ℕ
  lines_after i = flat line_bytes (drop (suc i) t.roster) ++ rest

  lines_cut : (i : ℕ) → i < length t.roster
      → table_bytes t ≡ lines-before i ++ (line_bytes (get_or t.roster i no_line) ++ lines_after i)
  unfolding table_bytes roster_bytes rest
  lines_cut i l = rw (flat-cut line_bytes t.roster i no_line l) (simp append_assoc)

  head-length : (i : ℕ) → i ≤ length t.roster → length (lines-before i) ≡ line_at t.layout i
  head-length i l =
      rw (length-append, length-clock t.layout t.clock, length_front line_bytes 19 t.roster (λ j d m. length-line (get_or t.roster j d)) i l)

  kind_at : (i : ℕ) → i < length t.roster → get_or (table_bytes t) (line_at t.layout i) 0 ≡ 3
  kind_at i l =
      ap (λ (z : List ℕ). get_or z (line_at t.layout i) 0) (lines_cut i l)
      ∙ line-kind (lines-before i) (line_at t.layout i) (get_or t.roster i no_line) (lines_after i) (head-length i (omega arith)) (f.lines i l)

  line-at : (i : ℕ) → i < length t.roster → read_line (table_bytes t) (line_at t.layout i) ≡ get_or t.roster i no_line
  line-at i l =
      ap (λ (z : List ℕ). read_line z (line_at t.layout i)) (lines_cut i l)
      ∙ line-back (lines-before i) (line_at t.layout i) (get_or t.roster i no_line) (lines_after i) (head-length i (omega arith)) (f.lines i l)

  unused-cut : (m : ℕ)
      → flat (λ (i : ℕ). unused_line) (up_to (suc m) (λ i. i)) ≡ 2 ∷ (replicate 18 0 ++ flat (λ (i : ℕ). unused_line) (drop 1 (up_to (suc m) (λ i. i))))
  unfolding unused_line flat
  unused-cut m = flat-cut (λ (i : ℕ). unused_line) (up_to (suc m) (λ i. i)) 0 0 (rw (length-up_to (suc m) (λ i. i)) (omega arith))

  kind-after : length t.roster < 16 → get_or (table_bytes t) (line_at t.layout (length t.roster)) 0 ≡ 2
  unfolding table_bytes roster_bytes
  kind-after h =
      let m = length t.roster in
      let p = clock_bytes t.layout t.clock ++ flat line_bytes t.roster in
      let k : 16 - m ≡ suc (15 - m) = omega arith in
      let q = (replicate 18 0 ++ flat (λ (i : ℕ). unused_line) (drop 1 (up_to (suc (15 - m)) (λ i. i)))) ++ flat slot_bytes t.slots in
      let lp : length p ≡ line_at t.layout m =
      rw (length-append, length-clock t.layout t.clock, length-flat line_bytes 19 t.roster (λ j d l. length-line (get_or t.roster j d))) in
      let u = flat (λ (i : ℕ). unused_line) (up_to (16 - m) (λ i. i)) in
      let e : clock_bytes t.layout t.clock ++ ((flat line_bytes t.roster ++ u) ++ flat slot_bytes t.slots) ≡ p ++ (2 ∷ q) =
      rw (k, unused-cut (15 - m)) (simp append_assoc) in
      ap (λ (z : List ℕ). get_or z (line_at t.layout m) 0) e ∙ get_or_at p 2 q 0 (line_at t.layout m) lp

  abbrev lines-part : List ℕ
  lines-part = drop (lines_at t.layout) (table_bytes t)

  kind-in : (i : ℕ) → get_or lines-part (19 * i) 0 ≡ get_or (table_bytes t) (line_at t.layout i) 0
  kind-in i = get_or-drop (lines_at t.layout) (table_bytes t) (19 * i) 0

  listed-is : listed lines-part 16 ≡ length t.roster
  listed-is =
      let full = listed-full lines-part (length t.roster) (λ i h. kind-in i ∙ kind_at i h) in
      ⊎_elim
      (λ (q : length t.roster ≡ 16). (rw q at full) ∙ sym q)
      (λ (q : length t.roster < 16). listed-stop lines-part (length t.roster) 16 full (λ z. omega (arith, kind-in (length t.roster), kind-after q)) q)
      (eq-or-lt_of_le lines)

  place-back : big_endian (table_bytes t) 1 (place_bytes t.layout) ≡ t.clock.place
  unfolding table_bytes clock_bytes
  place-back =
      field-behind [] 0 ((1, clock_kind t.layout) ∷ clock_fields t.layout t.clock) (roster_bytes t.roster ++ flat slot_bytes t.slots) 1 refl (lit< tt)
      f.place

  running-back : big_endian (table_bytes t) (running_at t.layout) 4 ≡ t.clock.running
  unfolding table_bytes clock_bytes
  running-back =
      ap (λ (k : ℕ). big_endian (table_bytes t) k 4) (omega arith)
      ∙ field-behind [] 0 ((1, clock_kind t.layout) ∷ clock_fields t.layout t.clock) (roster_bytes t.roster ++ flat slot_bytes t.slots) 2 refl (lit< tt)
      f.running

  pub layout-kept : layout_of (length (table_bytes t)) ≡ t.layout
  layout-kept = ap layout_of (length-table t lines f) ∙ layout-back t.layout (length t.slots)

  size_back : slots_in (length (table_bytes t)) ≡ length t.slots
  size_back = ap slots_in (length-table t lines f) ∙ slots-back t.layout (length t.slots)

  pub table-back : read_table (table_bytes t) ≡ t
  unfolding read_table
  table-back =
      let b = table_bytes t in
      let l = t.layout in
      let ss : up_to (length t.slots) (λ i. read_slot b (slot_at l i)) ≡ t.slots =
      up_to-ext (length t.slots) (λ i. read_slot b (slot_at l i)) (λ i. get_or t.slots i free) (λ i h. slot-at i h) ∙ up_to-get_or t.slots free in
      let rs : up_to (length t.roster) (λ i. read_line b (line_at l i)) ≡ t.roster =
      up_to-ext (length t.roster) (λ i. read_line b (line_at l i)) (λ i. get_or t.roster i no_line) (λ i h. line-at i h)
      ∙ up_to-get_or t.roster no_line in
      ap (λ (k : Layout). read_as k (slots_in (length b)) b) layout-kept
      ∙ ap (λ (n : ℕ). read_as l n b) size_back
      ∙ (rw (place-back, running-back, listed-is, ss, rs))
