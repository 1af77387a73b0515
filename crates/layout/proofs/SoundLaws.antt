-- Soundness of bytes as what code tests, in its order. Assumes nothing.
use Prim.Native.Nat.{ℕ, ◌*◌, ◌≤◌}
use mathlib.Core.Path.{◌≡◌, refl, ◌∙◌}
use mathlib.Core.Bool.{Bool, true, false, ◌&&◌, and-true, and_assoc}
use mathlib.Core.List.{List}
use lib.ListN.{length, get_or, drop}
use lib.Dec.{eqb, ltb}
use borrow.Author.Tests.{le-leb}
use Rattle.model.specs.Numbers.{big_endian, Bytes}
use Rattle.model.specs.Clock.{cycle_of}
use Rattle.model.specs.Table.{read_table, read_slot, read_line, Layout, clock_kind, place_bytes, running_at, lines_at, base, size_of, layout_of, slots_in, listed}
use Rattle.model.specs.Sound.{Sound, sound_table, sound_bytes}
use Rattle.model.proofs.ListLaws.{length-up_to, swap}
use Rattle.model.proofs.Meaning.{bytes_back, table-sound, slots_read as slots_length, layout-read}
use Rattle.layout.specs.Shape.{parts_shape, table_shape, slots_to, lines_to}
use Rattle.layout.specs.Held.{held_to, rules_of}
use Rattle.layout.proofs.ReadLaws.{place_read, running-read, formed-size}
use Rattle.layout.proofs.LayoutLaws.{layout_is}
use Rattle.layout.proofs.PartLaws.{roster-read, slots_read}
use Rattle.model.proofs.RoundTrip.{listed_le}

module _ (b : List ℕ) (bytes : Bytes b) where
  module _ (n : ℕ) (size : length b ≡ size_of (layout_of (length b)) n) (lo : 1 ≤ n) (hi : n ≤ 64) where
    abbrev l : Layout
    l = layout_of (length b)

    abbrev lines : List ℕ
    lines = drop (lines_at l) b

    abbrev slots : List ℕ
    slots = drop (base l) b

    table_is : sound_table (read_table b) ≡ ltb (big_endian b 1 (place_bytes l)) (cycle_of l.weeks) && rules_of (big_endian b (running_at l) 4) lines slots n
    unfolding sound_table held_to
    table_is =
        let m = listed lines 16 in
        let ls : length (slots_to slots n) ≡ n = length-up_to n (λ j. read_slot slots (320 * j)) in
        let lr : length (lines_to lines m) ≡ m = length-up_to m (λ j. read_line lines (19 * j)) in
        rw (layout-read b, slots_read b n size, roster-read b, ls, lr, le-leb 1 n lo, le-leb n 64 hi, le-leb m 16 (listed_le lines 16), place_read b, running-read b)
        (simp (and-true, and_assoc))

    -- the kind and the place of the clock's record; the rest by lines and slots
    pub sound-is : sound_bytes b ≡ eqb (get_or b 0 0) (clock_kind l) && (ltb (big_endian b 1 (place_bytes l)) (cycle_of l.weeks) && (parts_shape lines slots n && rules_of (big_endian b (running_at l) 4) lines slots n))
    unfolding sound_bytes table_shape
    sound-is = rw (layout_is b bytes n size, table_is) (swap (eqb (get_or b 0 0) (clock_kind l)) (parts_shape lines slots n) (ltb (big_endian b 1 (place_bytes l)) (cycle_of l.weeks)) (rules_of (big_endian b (running_at l) 4) lines slots n) ∙ simp and_assoc)

  -- a sound table's length
  pub sound-size : sound_bytes b ≡ true → (length b ≡ size_of (layout_of (length b)) (slots_in (length b))) × (1 ≤ slots_in (length b)) × (slots_in (length b) ≤ 64)
  sound-size h =
      let s : Sound (read_table b) = table-sound b h in
      (formed-size b bytes (bytes_back b h), (rw (slots_length b) at s.slots_min), (rw (slots_length b) at s.slots_max))

  pub not_sound : ((length b ≡ size_of (layout_of (length b)) (slots_in (length b))) → 1 ≤ slots_in (length b) → slots_in (length b) ≤ 64 → ⊥) → false ≡ sound_bytes b
  not_sound bad = go (sound_bytes b) refl
    where
      go : (v : Bool) → sound_bytes b ≡ v → false ≡ v
      go true e = let s = sound-size e in absurd (bad s.0 s.1 s.2)
      go false e = refl
