-- The kinds and zeros of the layout as tests at a place in the bytes: what code looks at. Lines and slots are looked at in the part of a table
-- that starts with them, so that nothing said of them knows where that is. Assumes nothing.
use Rattle.std.specs.Prelude.{ℕ, ◌+◌, ◌-◌, ◌*◌, Bool, cond, ◌&&◌, ◌||◌, List, get_or, drop, replicate, eqb}
use Rattle.model.specs.Lists.{every, up_to, same}
use Rattle.model.specs.Numbers.{part}
use Rattle.model.specs.Table.{Slot, Line, Layout, clock_kind, lines_at, base, read_slot, read_line, listed}

-- each number below n passes
unfoldable pub all : (ℕ → Bool) → ℕ → Bool
all p n = every p (up_to n (λ i. i))

-- a listed line's kind
abbrev pub listed_kind : ℕ
listed_kind = 3

-- the kind is an entry's, pending or established
abbrev pub in_use : ℕ → Bool
in_use k = eqb k 5 || eqb k 6

-- the n bytes from index at are zero
abbrev pub zeros_at : List ℕ → ℕ → ℕ → Bool
zeros_at b at n = same (replicate n 0) (part at n b)

-- a slot: an entry with zeros behind its name, or a free slot, all zero
unfoldable pub slot_shape : List ℕ → ℕ → Bool
slot_shape b at =
    cond (in_use (get_or b at 0)) (zeros_at b (at + 40 + get_or b (at + 39) 0) (280 - get_or b (at + 39) 0)) (eqb (get_or b at 0) 4 && zeros_at b (at + 1) 319)

-- an unused roster line, all zero
unfoldable pub unused_shape : List ℕ → ℕ → Bool
unused_shape b at = eqb (get_or b at 0) 2 && zeros_at b (at + 1) 18

-- the slots below i of the slots' part, as the model has them
abbrev pub slots_to : List ℕ → ℕ → List Slot
slots_to b i = up_to i (λ j. read_slot b (320 * j))

-- the first i lines of the lines' part
abbrev pub lines_to : List ℕ → ℕ → List Line
lines_to b i = up_to i (λ j. read_line b (19 * j))

-- its lines from m on are unused
unfoldable pub unused_from : List ℕ → ℕ → Bool
unused_from b m = all (λ i. unused_shape b (19 * m + 19 * i)) (16 - m)

-- kinds, order and zeros of lines and n slots
unfoldable pub parts_shape : List ℕ → List ℕ → ℕ → Bool
parts_shape lines slots n = unused_from lines (listed lines 16) && all (λ i. slot_shape slots (320 * i)) n

-- kinds, order, lengths and zeros of a table of layout l with n slots
unfoldable pub table_shape : Layout → List ℕ → ℕ → Bool
table_shape l b n = eqb (get_or b 0 0) (clock_kind l) && parts_shape (drop (lines_at l) b) (drop (base l) b) n
