-- What is read at a place of a table's bytes, and the table read back slot by slot. Assumes nothing.
use Prim.Native.Nat.{ℕ, ◌-◌, ◌*◌, ◌<◌}
use native.Mathlib.Omega.{arith}
use mathlib.Core.Path.{◌≡◌, refl, sym, ap, ◌∙◌}
use mathlib.Core.Bool.{true, false, ◌&&◌}
use mathlib.Core.List.{List}
use lib.ListN.{length, get_or, drop, length-drop}
use lib.Dec.{eqb}
use Rattle.model.specs.Numbers.{big_endian, Bytes, part}
use Rattle.model.specs.Table.{Slot, free, held, slot_bytes, table_bytes, read_table, read_slot, read_entry, clock_kind, place_bytes, running_at, lines_at, base, size_of, layout_of, slots_in, listed}
use Rattle.model.proofs.ListLaws.{and_right, same_refl, same_true, get_or-up_to}
use Rattle.model.proofs.NumberLaws.{bytes_drop}
use Rattle.model.proofs.TableLaws.{length-table}
use Rattle.model.proofs.Meaning.{fits_read, lines-read, slots_read, layout-read}
use Rattle.layout.specs.Shape.{in_use, all, slot_shape, unused_from, parts_shape, table_shape}
use Rattle.layout.proofs.PartLaws.{parts-read}
use Rattle.layout.proofs.ShapeLaws.{all-at, slot-shape-is}
use Rattle.layout.proofs.LayoutLaws.{layout_is}

pub read_held : (b : List ℕ) (at : ℕ) → in_use (get_or b at 0) ≡ true → read_slot b at ≡ held (read_entry b at)
unfolding read_slot
read_held b at h = rw h

pub read-free : (b : List ℕ) (at : ℕ) → in_use (get_or b at 0) ≡ false → read_slot b at ≡ free
unfolding read_slot
read-free b at h = rw h

module _ (b : List ℕ) where
  pub place_read : (read_table b).clock.place ≡ big_endian b 1 (place_bytes (layout_of (length b)))
  unfolding read_table
  place_read = refl

  pub running-read : (read_table b).clock.running ≡ big_endian b (running_at (layout_of (length b))) 4
  unfolding read_table
  running-read = refl

  pub slot_read : (i : ℕ) (d : Slot) → i < slots_in (length b) → get_or (read_table b).slots i d ≡ read_slot (drop (base (layout_of (length b))) b) (320 * i)
  slot_read i d l = rw (parts-read b) (get_or-up_to (slots_in (length b)) (λ j. read_slot (drop (base (layout_of (length b))) b) (320 * j)) i d l)

module _ (b : List ℕ) (bytes : Bytes b) where
  pub formed-length : length (table_bytes (read_table b)) ≡ size_of (layout_of (length b)) (slots_in (length b))
  formed-length = length-table (read_table b) (lines-read b) (fits_read b bytes) ∙ (rw (layout-read b, slots_read b))

  -- bytes that are those of the table read from them
  module _ (formed : table_bytes (read_table b) ≡ b) where
    pub formed-size : length b ≡ size_of (layout_of (length b)) (slots_in (length b))
    formed-size = sym (ap length formed) ∙ formed-length

    pub formed-shape : table_shape (layout_of (length b)) b (slots_in (length b)) ≡ true
    formed-shape = sym (layout_is b bytes (slots_in (length b)) formed-size) ∙ (rw formed (same_refl b))

    pub formed-slot : (i : ℕ) → i < slots_in (length b) → slot_bytes (read_slot (drop (base (layout_of (length b))) b) (320 * i)) ≡ part (320 * i) 320 (drop (base (layout_of (length b))) b)
    unfolding table_shape parts_shape
    formed-slot i l =
        let n = slots_in (length b) in
        let k = layout_of (length b) in
        let s = drop (base k) b in
        let h = eqb (get_or b 0 0) (clock_kind k) in
        let u = unused_from (drop (lines_at k) b) (listed (drop (lines_at k) b) 16) in
        let a = all (λ j. slot_shape s (320 * j)) n in
        let t : a ≡ true = and_right u a (and_right h (u && a) formed-shape) in
        let z : length s ≡ length b - base k = length-drop (base k) b in
        same_true (slot_bytes (read_slot s (320 * i))) (part (320 * i) 320 s)
        (slot-shape-is s (bytes_drop (base k) b bytes) (320 * i) (omega (arith, formed-size)) ∙ all-at (λ j. slot_shape s (320 * j)) n i t l)
