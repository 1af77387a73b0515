-- What bytes are read as fits its fields, and sound bytes are the bytes of a sound table. Assumes nothing.
use Prim.Native.Nat.{ℕ, ◌+◌, ◌≤◌}
use native.Mathlib.Omega.{arith}
use mathlib.Core.Path.{◌≡◌, refl, sym, ap, ◌∙◌}
use mathlib.Core.Bool.{Bool, true, false, cond, ◌||◌}
use mathlib.Core.List.{List}
use lib.ListN.{length, get_or, drop, length-take}
use lib.Dec.{eqb}
use Rattle.model.specs.Lists.{same}
use Rattle.model.specs.Numbers.{Bytes, part}
use Rattle.model.specs.Table.{free, held, Layout, place_bytes, table_bytes, read_table, read_slot, read_line, read_entry, running_at, lines_at, slot_at, line_at, listed, layout_of, slots_in, size_of}
use Rattle.model.specs.Sound.{FitsEntry, FitsSlot, FitsLine, Fits, Sound, SoundBytes, sound_table, sound_bytes}
use Rattle.model.proofs.NumberLaws.{big_lt, bytes-part}
use Rattle.model.proofs.ListLaws.{and_left, and_right, same_true, same_refl, length-up_to, get_or-up_to}
use Rattle.model.proofs.RoundTrip.{no_line, table-back, listed_le, slots-back}
use Rattle.model.proofs.Facts.{sound-facts, facts-sound}

-- bytes are read as values that fit
module _ (b : List ℕ) (bytes : Bytes b) where
  pub fits_line : (at : ℕ) → FitsLine (read_line b at)
  unfolding read_line
  fits_line at = record { address = big_lt b (at + 1) 16 bytes; share = bytes (at + 17); limit = bytes (at + 18) }

  pub fits-entry : (at : ℕ) → FitsEntry (read_entry b at)
  unfolding read_entry part
  fits-entry at =
      record {
        address = big_lt b (at + 1) 16 bytes;
        port = big_lt b (at + 17) 2 bytes;
        number = big_lt b (at + 19) 8 bytes;
        lease = big_lt b (at + 27) 4 bytes;
        stamp = big_lt b (at + 31) 4 bytes;
        qtype = big_lt b (at + 35) 2 bytes;
        qclass = big_lt b (at + 37) 2 bytes;
        size = simp length-take (omega (arith, bytes (at + 39)));
        bytes = bytes-part (at + 40) (get_or b (at + 39) 0) b bytes;
      }

  pub fits-slot : (at : ℕ) → FitsSlot (read_slot b at)
  unfolding read_slot
  fits-slot at = go (eqb (get_or b at 0) 5 || eqb (get_or b at 0) 6)
    where
      go : (v : Bool) → FitsSlot (cond v (held (read_entry b at)) free)
      go true = fits-entry at
      go false = tt

  pub fits_read : Fits (read_table b)
  unfolding read_table
  fits_read =
      let l = layout_of (length b) in
      record {
        place = big_lt b 1 (place_bytes l) bytes;
        running = big_lt b (running_at l) 4 bytes;
        lines = λ i h.
            let m = (rw (length-up_to (listed (drop (lines_at l) b) 16) (λ j. read_line b (line_at l j))) at h) in
            rw (get_or-up_to (listed (drop (lines_at l) b) 16) (λ j. read_line b (line_at l j)) i no_line m) (fits_line (line_at l i));
        slots = λ i h.
            let m = (rw (length-up_to (slots_in (length b)) (λ j. read_slot b (slot_at l j))) at h) in
            rw (get_or-up_to (slots_in (length b)) (λ j. read_slot b (slot_at l j)) i free m) (fits-slot (slot_at l i));
      }

pub lines-read : (b : List ℕ) → length (read_table b).roster ≤ 16
unfolding read_table
lines-read b =
    let l = layout_of (length b) in
    rw (length-up_to (listed (drop (lines_at l) b) 16) (λ j. read_line b (line_at l j))) (listed_le (drop (lines_at l) b) 16)

pub slots_read : (b : List ℕ) → length (read_table b).slots ≡ slots_in (length b)
unfolding read_table
slots_read b = length-up_to (slots_in (length b)) (λ j. read_slot b (slot_at (layout_of (length b)) j))

pub layout-read : (b : List ℕ) → (read_table b).layout ≡ layout_of (length b)
unfolding read_table
layout-read b = refl

pub slots-count : (b : List ℕ) (l : Layout) (n : ℕ) → length b ≡ size_of l n → length (read_table b).slots ≡ n
slots-count b l n size = slots_read b ∙ ap slots_in size ∙ slots-back l n

-- SOUND BYTES are the bytes of a sound table

-- they are those of the table that they are read as
pub bytes_back : (b : List ℕ) → sound_bytes b ≡ true → table_bytes (read_table b) ≡ b
unfolding sound_bytes
bytes_back b h = same_true (table_bytes (read_table b)) b (and_left (same (table_bytes (read_table b)) b) (sound_table (read_table b)) h)

pub table-sound : (b : List ℕ) → sound_bytes b ≡ true → Sound (read_table b)
unfolding sound_bytes
table-sound b h = sound-facts (read_table b) (and_right (same (table_bytes (read_table b)) b) (sound_table (read_table b)) h)

pub sound-means : (b : List ℕ) → Bytes b → sound_bytes b ≡ true → SoundBytes b
sound-means b bytes h = record { table = read_table b; sound = table-sound b h; fits = fits_read b bytes; bytes = bytes_back b h }

-- what sound bytes are read as
pub read-stored : (b : List ℕ) (s : SoundBytes b) → read_table b ≡ s.table
read-stored b s = ap read_table (sym s.bytes) ∙ table-back s.table s.sound.lines s.fits

pub means-sound : (b : List ℕ) → SoundBytes b → sound_bytes b ≡ true
unfolding sound_bytes
means-sound b s = rw (read-stored b s, s.bytes, same_refl b) (facts-sound s.table s.sound)
