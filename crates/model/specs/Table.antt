-- Document 01, "The table": what it holds, and its layout in bytes. Assumes nothing.
use Rattle.std.specs.Prelude.{ℕ, zero, suc, ◌+◌, ◌-◌, ◌*◌, ◌/◌, ◌%◌, Bool, cond, ◌&&◌, ◌||◌, List, [], ◌∷◌, ◌++◌, length, get_or, drop, replicate, eqb}
use Rattle.model.specs.Lists.{up_to, flat}
use Rattle.model.specs.Numbers.{big_endian, part, encode}
use Rattle.model.specs.Clock.{Clock, Weeks, ten_bit, thirteen_bit, cycle_of}

-- a listed address with its share and its limit; an address is one number of 16 bytes
pub record Line : Type 0 where
  pub address : ℕ
  pub share : ℕ
  pub limit : ℕ

-- a pending or established entry; the name is its wire bytes, folded
pub record Entry : Type 0 where
  pub established : Bool
  pub address : ℕ
  pub port : ℕ
  pub number : ℕ
  pub lease : ℕ
  pub stamp : ℕ
  pub qtype : ℕ
  pub qclass : ℕ
  pub name : List ℕ

pub data Slot : Type 0 where
  free : Slot
  held : Entry → Slot

-- how a table is laid out: by the weeks that its clock counts (document 02, Ticket 7)
pub record Layout : Type 0 where
  pub weeks : Weeks

-- listed addresses alone: the unused roster lines hold nothing
pub record Table : Type 0 where
  pub layout : Layout
  pub clock : Clock
  pub roster : List Line
  pub slots : List Slot

-- THE LAYOUT: each record a byte of kind and its body

-- the clock's kind, and the bytes of its place: 0x01 and 4 with weeks of ten bits, 0x09 and 8 with weeks of thirteen
abbrev pub kind_with : Weeks → ℕ
kind_with ten_bit = 1
kind_with thirteen_bit = 9

abbrev pub clock_kind : Layout → ℕ
clock_kind l = kind_with l.weeks

abbrev pub place_width : Weeks → ℕ
place_width ten_bit = 4
place_width thirteen_bit = 8

abbrev pub place_bytes : Layout → ℕ
place_bytes l = place_width l.weeks

-- 0x01, body 8: last place 4, running count 4; or 0x09, body 12: last place 8, running count 4
unfoldable pub clock_bytes : Layout → Clock → List ℕ
clock_bytes l c = encode ((1, clock_kind l) ∷ (place_bytes l, c.place) ∷ (4, c.running) ∷ [])

-- 0x02, body 18: an unused roster line, all zero
unfoldable pub unused_line : List ℕ
unused_line = 2 ∷ replicate 18 0

-- 0x03, body 18: listed address 16, share 1, limit 1
unfoldable pub line_bytes : Line → List ℕ
line_bytes l = encode ((1, 3) ∷ (16, l.address) ∷ (1, l.share) ∷ (1, l.limit) ∷ [])

-- 0x05 pending, 0x06 established
abbrev pub kind_of : Bool → ℕ
kind_of established = cond established 6 5

-- an entry's fields before its name: the kind, then address 16, port 2, LLQ number 8, granted lease 4, stamp 4, type 2, class 2, name length 1
abbrev pub entry_fields : Entry → List (ℕ × ℕ)
entry_fields e =
    (1, kind_of e.established) ∷ (16, e.address) ∷ (2, e.port) ∷ (8, e.number) ∷ (4, e.lease) ∷ (4, e.stamp) ∷ (2, e.qtype) ∷ (2, e.qclass)
    ∷ (1, length e.name) ∷ []

-- 0x04, body 319: a free slot, all zero; 0x05 and 0x06, body 319: the name in 255 bytes padded with zeros, then 25 zeros
unfoldable pub slot_bytes : Slot → List ℕ
slot_bytes free = 4 ∷ replicate 319 0
slot_bytes (held e) = encode (entry_fields e) ++ (e.name ++ replicate (280 - length e.name) 0)

-- 16 roster lines, the listed ones first
unfoldable pub roster_bytes : List Line → List ℕ
roster_bytes ls = flat line_bytes ls ++ flat (λ (i : ℕ). unused_line) (up_to (16 - length ls) (λ i. i))

-- one clock record, 16 roster lines, the slots
unfoldable pub table_bytes : Table → List ℕ
table_bytes t = clock_bytes t.layout t.clock ++ (roster_bytes t.roster ++ flat slot_bytes t.slots)

-- THE PLACES that follow from it

-- where the running count stands, behind the kind and the place, and where the lines start, behind the running count
abbrev pub running_at : Layout → ℕ
running_at l = 1 + place_bytes l

abbrev pub lines_at : Layout → ℕ
lines_at l = running_at l + 4

-- where the slots start: behind 16 lines of 19 bytes
abbrev pub base : Layout → ℕ
base l = lines_at l + 19 * 16

abbrev pub line_at : Layout → ℕ → ℕ
line_at l i = lines_at l + 19 * i

abbrev pub slot_at : Layout → ℕ → ℕ
slot_at l i = base l + 320 * i

-- the length of a table of n slots: 313 + 320n, or 317 + 320n
abbrev pub size_of : Layout → ℕ → ℕ
size_of l n = base l + 320 * n

-- the length alone says which layout a table has: the two differ in the rest modulo 320; a length of any other rest is no table's
abbrev pub weeks_for : ℕ → Weeks
weeks_for size = cond (eqb (size % 320) 317) thirteen_bit ten_bit

unfoldable pub layout_of : ℕ → Layout
layout_of size = record { weeks = weeks_for size }

-- the slots of a table of a length
abbrev pub slots_in : ℕ → ℕ
slots_in size = (size - base (layout_of size)) / 320

-- the cycle of a table's clock
abbrev pub cycle_in : Table → ℕ
cycle_in t = cycle_of t.layout.weeks

-- THE TABLE READ BACK, from its places

unfoldable pub read_line : List ℕ → ℕ → Line
read_line b at = record { address = big_endian b (at + 1) 16; share = get_or b (at + 17) 0; limit = get_or b (at + 18) 0 }

unfoldable pub read_entry : List ℕ → ℕ → Entry
read_entry b at =
    record {
      established = eqb (get_or b at 0) 6;
      address = big_endian b (at + 1) 16;
      port = big_endian b (at + 17) 2;
      number = big_endian b (at + 19) 8;
      lease = big_endian b (at + 27) 4;
      stamp = big_endian b (at + 31) 4;
      qtype = big_endian b (at + 35) 2;
      qclass = big_endian b (at + 37) 2;
      name = part (at + 40) (get_or b (at + 39) 0) b;
    }

unfoldable pub read_slot : List ℕ → ℕ → Slot
read_slot b at = cond (eqb (get_or b at 0) 5 || eqb (get_or b at 0) 6) (held (read_entry b at)) free

-- of bytes that start with the lines: how many of kind 3 stand first, of m
unfoldable pub listed : List ℕ → ℕ → ℕ
listed b zero = 0
listed b (suc m) = cond (eqb (listed b m) m && eqb (get_or b (19 * m) 0) 3) (suc m) (listed b m)

-- by the layout l of n slots
abbrev pub read_as : Layout → ℕ → List ℕ → Table
read_as l n b =
    record {
      layout = l;
      clock = record { place = big_endian b 1 (place_bytes l); running = big_endian b (running_at l) 4 };
      roster = up_to (listed (drop (lines_at l) b) 16) (λ i. read_line b (line_at l i));
      slots = up_to n (λ i. read_slot b (slot_at l i));
    }

unfoldable pub read_table : List ℕ → Table
read_table b = read_as (layout_of (length b)) (slots_in (length b)) b
