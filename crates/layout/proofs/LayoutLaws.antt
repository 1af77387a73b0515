-- The whole table: its bytes are those of the table read from them exactly if kinds and zeros are right. Assumes nothing.
use Prim.Native.Nat.{ℕ, suc, ◌+◌, ◌-◌, ◌*◌, ◌≤◌, ◌<◌}
use native.Mathlib.Nat.{zero-add}
use native.Mathlib.Omega.{arith}
use mathlib.Core.Path.{◌≡◌, refl, sym, ap, ◌∙◌}
use mathlib.Core.Bool.{Bool, true, and-true}
use mathlib.Core.List.{List, [], ◌∷◌, ◌++◌}
use lib.ListN.{length, get_or, take, drop, take-append-drop, length-drop}
use lib.Seq.{drop-drop}
use lib.Dec.{eqb, lit<}
use borrow.Author.Tests.{eq-eqb}
use Rattle.model.specs.Numbers.{big_endian, Bytes, part, encode}
use Rattle.model.proofs.NumberLaws.{length_part, encode-first, big-one, part-all, bytes_drop}
use Rattle.model.specs.Lists.{every, up_to, flat, same}
use Rattle.model.specs.Table.{slot_bytes, line_bytes, unused_line, roster_bytes, Layout, clock_kind, place_bytes, clock_bytes, table_bytes, read_table, read_slot, read_line, running_at, lines_at, base, size_of, layout_of, listed}
use Rattle.model.proofs.ListLaws.{eqb-sym, same_refl, same-append, part-add, same_rows, length-up_to, length-rows}
use Rattle.model.proofs.SlotLaws.{length-slot, length-line, length-unused, fits-short}
use Rattle.model.proofs.TableLaws.{length-clock, length-roster, clock_fields, clock-starts}
use Rattle.model.proofs.Meaning.{fits-slot, lines-read, layout-read}
use Rattle.layout.specs.Shape.{all, slot_shape, unused_shape, unused_from, parts_shape, table_shape, slots_to, lines_to}
use Rattle.layout.proofs.PartLaws.{roster-read, slots_read}
use Rattle.model.proofs.RoundTrip.{listed_le, listed-kind}
use Rattle.layout.proofs.ShapeLaws.{all_yes, all-ext, same-cons, part-head, read_all, read-all, slot-shape-is}

all-is : (p : ℕ → Bool) (n : ℕ) → every p (up_to n (λ i. i)) ≡ all p n
unfolding all
all-is p n = refl

module _ (b : List ℕ) (bytes : Bytes b) where
  line-is : (at : ℕ) → at + 19 ≤ length b → same (line_bytes (read_line b at)) (part at 19 b) ≡ eqb (get_or b at 0) 3
  unfolding line_bytes read_line
  line-is at h =
      let e : encode ((16, big_endian b (at + 1) 16) ∷ (1, get_or b (at + 17) 0) ∷ (1, get_or b (at + 18) 0) ∷ []) ≡ part (at + 1) 18 b =
      rw (← big-one b (at + 17), ← big-one b (at + 18)) (read-all b bytes at 1 (16 ∷ 1 ∷ 1 ∷ []) (omega arith)) in
      rw (encode-first 3 ((16, big_endian b (at + 1) 16) ∷ (1, get_or b (at + 17) 0) ∷ (1, get_or b (at + 18) 0) ∷ []) (lit< tt), e, part-head at 18 b (omega arith), same-cons, same_refl (part (at + 1) 18 b)) (and-true (eqb 3 (get_or b at 0)) ∙ eqb-sym 3 (get_or b at 0))

  -- the first m lines, all of kind 3, are the bytes there
  pub lines_same : (m : ℕ) → 19 * m ≤ length b → ((i : ℕ) → i < m → get_or b (19 * i) 0 ≡ 3)
      → same (flat line_bytes (lines_to b m)) (part 0 (19 * m) b) ≡ true
  lines_same m h k =
      same_rows line_bytes 19 (λ j. read_line b (19 * j)) b 0 m (λ i l. length-line (read_line b (19 * i))) (omega arith)
      ∙ all-is (λ i. same (line_bytes (read_line b (19 * i))) (part (0 + 19 * i) 19 b)) m
      ∙ all_yes (λ i. same (line_bytes (read_line b (19 * i))) (part (0 + 19 * i) 19 b)) m
      (λ i l.
      ap (λ (x : ℕ). same (line_bytes (read_line b (19 * i))) (part x 19 b)) (zero-add (19 * i)) ∙ line-is (19 * i) (omega arith)
      ∙ eq-eqb (get_or b (19 * i) 0) 3 (k i l))

  pub unused-is : (at : ℕ) → at + 19 ≤ length b → same unused_line (part at 19 b) ≡ unused_shape b at
  unfolding unused_line unused_shape
  unused-is at h = rw (part-head at 18 b (omega arith), same-cons, eqb-sym 2 (get_or b at 0))

  -- the slots' part
  slots-are : (n : ℕ) → length b ≡ 320 * n → same (flat slot_bytes (slots_to b n)) b ≡ all (λ i. slot_shape b (320 * i)) n
  slots-are n size =
      let w : part 0 (320 * n) b ≡ b = ap (λ (k : ℕ). part 0 k b) (sym size) ∙ part-all b in
      ap (λ (x : List ℕ). same (flat slot_bytes (slots_to b n)) x) (sym w)
      ∙ same_rows slot_bytes 320 (λ j. read_slot b (320 * j)) b 0 n (λ i l. length-slot (read_slot b (320 * i)) (fits-short (read_slot b (320 * i)) (fits-slot b bytes (320 * i)))) (omega arith)
      ∙ all-is (λ i. same (slot_bytes (read_slot b (320 * i))) (part (0 + 320 * i) 320 b)) n
      ∙ all-ext (λ i. same (slot_bytes (read_slot b (320 * i))) (part (0 + 320 * i) 320 b)) (λ i. slot_shape b (320 * i)) n
      (λ i l. ap (λ (x : ℕ). same (slot_bytes (read_slot b (320 * i))) (part x 320 b)) (zero-add (320 * i)) ∙ slot-shape-is b bytes (320 * i) (omega arith))

  -- the lines' part
  module _ (size : 304 ≤ length b) where
    lines_are : same (flat line_bytes (lines_to b (listed b 16))) (part 0 (19 * listed b 16) b) ≡ true
    lines_are = let le : listed b 16 ≤ 16 = listed_le b 16 in lines_same (listed b 16) (omega arith) (listed-kind b 16)

    unused-are : (m : ℕ) → m ≤ 16 → same (flat (λ (i : ℕ). unused_line) (up_to (16 - m) (λ i. i))) (part (19 * m) (19 * (16 - m)) b) ≡ unused_from b m
    unfolding unused_from
    unused-are m le =
        same_rows (λ (i : ℕ). unused_line) 19 (λ i. i) b (19 * m) (16 - m) (λ i l. length-unused) (omega arith)
        ∙ all-is (λ i. same unused_line (part (19 * m + 19 * i) 19 b)) (16 - m)
        ∙ all-ext (λ i. same unused_line (part (19 * m + 19 * i) 19 b)) (λ i. unused_shape b (19 * m + 19 * i)) (16 - m) (λ i l. unused-is (19 * m + 19 * i) (omega arith))

    roster-is : same (roster_bytes (lines_to b (listed b 16))) (part 0 304 b) ≡ unused_from b (listed b 16)
    unfolding roster_bytes
    roster-is =
        let m = listed b 16 in
        let le : m ≤ 16 = listed_le b 16 in
        let e : 304 ≡ 19 * m + 19 * (16 - m) = omega arith in
        let cut : part 0 304 b ≡ part 0 (19 * m) b ++ part (19 * m) (19 * (16 - m)) b =
        ap (λ (k : ℕ). part 0 k b) e ∙ part-add 0 (19 * m) (19 * (16 - m)) b ∙ ap (λ (k : ℕ). part 0 (19 * m) b ++ part k (19 * (16 - m)) b) (zero-add (19 * m)) in
        let ll : length (lines_to b m) ≡ m = length-up_to m (λ j. read_line b (19 * j)) in
        let len : length (flat line_bytes (lines_to b m)) ≡ length (part 0 (19 * m) b) =
        length-rows line_bytes 19 m (λ j. read_line b (19 * j)) (λ i l. length-line (read_line b (19 * i))) ∙ sym (length_part 0 (19 * m) b (omega arith)) in
        rw (cut, ll, same-append (flat line_bytes (lines_to b m)) (flat (λ (i : ℕ). unused_line) (up_to (16 - m) (λ i. i))) (part 0 (19 * m) b) (part (19 * m) (19 * (16 - m)) b) len, lines_are) (unused-are m le)

-- the whole table, by the layout of its length
module _ (b : List ℕ) (bytes : Bytes b) (n : ℕ) (size : length b ≡ size_of (layout_of (length b)) n) where
  abbrev l : Layout
  l = layout_of (length b)

  abbrev lines : List ℕ
  lines = drop (lines_at l) b

  abbrev slots : List ℕ
  slots = drop (base l) b

  whole : b ≡ part 0 (lines_at l) b ++ (part 0 304 lines ++ slots)
  unfolding part
  whole =
      sym (take-append-drop (lines_at l) b)
      ∙ ap (λ (x : List ℕ). take (lines_at l) b ++ x)
      (sym (take-append-drop 304 lines) ∙ ap (λ (x : List ℕ). take 304 lines ++ x) (drop-drop 304 (lines_at l) b))

  clock-is : same (clock_bytes l (read_table b).clock) (part 0 (lines_at l) b) ≡ eqb (get_or b 0 0) (clock_kind l)
  unfolding read_table
  clock-is =
      let c = (read_table b).clock in
      let w = place_bytes l + 4 in
      let fields : read_all b 0 1 (place_bytes l ∷ 4 ∷ []) ≡ clock_fields l c = rw (zero-add (running_at l)) in
      let e : encode (clock_fields l c) ≡ part 1 w b =
      ap encode (sym fields) ∙ read-all b bytes 0 1 (place_bytes l ∷ 4 ∷ []) (omega arith) ∙ ap (λ (k : ℕ). part 1 k b) (omega arith) in
      let f : lines_at l ≡ suc w = omega arith in
      rw (clock-starts l c, e, f, part-head 0 w b (omega arith), same-cons, same_refl (part 1 w b))
      (and-true (eqb (clock_kind l) (get_or b 0 0)) ∙ eqb-sym (clock_kind l) (get_or b 0 0))

  pub layout_is : same (table_bytes (read_table b)) b ≡ table_shape l b n
  unfolding table_bytes table_shape parts_shape
  layout_is =
      let ls = lines_to lines (listed lines 16) in
      let c0 : b ≡ part 0 (lines_at l) b ++ (part 0 304 lines ++ slots) = whole in
      let sl : length lines ≡ length b - lines_at l = length-drop (lines_at l) b in
      let ss : length slots ≡ length b - base l = length-drop (base l) b in
      let lc : length (clock_bytes l (read_table b).clock) ≡ length (part 0 (lines_at l) b) =
      length-clock l (read_table b).clock ∙ sym (length_part 0 (lines_at l) b (omega arith)) in
      let lr : length (roster_bytes ls) ≡ length (part 0 304 lines) = length-roster ls (rw (roster-read b) at (lines-read b)) ∙ sym (length_part 0 304 lines (omega arith)) in
      rw (layout-read b)
      (ap (λ (x : List ℕ). same (clock_bytes l (read_table b).clock ++ (roster_bytes (read_table b).roster ++ flat slot_bytes (read_table b).slots)) x) c0
      ∙ same-append (clock_bytes l (read_table b).clock) (roster_bytes (read_table b).roster ++ flat slot_bytes (read_table b).slots) (part 0 (lines_at l) b)
      (part 0 304 lines ++ slots) lc
      ∙ (rw (
        clock-is,
        roster-read b,
        slots_read b n size,
        same-append (roster_bytes ls) (flat slot_bytes (slots_to slots n)) (part 0 304 lines) slots lr,
        roster-is lines (bytes_drop (lines_at l) b bytes) (omega arith),
        slots-are slots (bytes_drop (base l) b bytes) n (omega arith),
      )))
