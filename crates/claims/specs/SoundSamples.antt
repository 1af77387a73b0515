-- Sound and unsound tables at the ends of each rule, computed beside expected. Assumes nothing.
use Rattle.std.specs.Prelude.{ℕ, ◌≡◌, Bool, true, false, List, [], ◌∷◌, ◌++◌, map, replicate, set}
use Rattle.model.specs.Clock.{Weeks, ten_bit, thirteen_bit}
use Rattle.model.specs.Table.{Line, Slot, free, held, Table, table_bytes}
use Rattle.model.specs.Sound.{sound_table, sound_bytes}

-- an entry of address 9
abbrev pub entry : Bool → ℕ → ℕ → ℕ → ℕ → List ℕ → Slot
entry established port number lease stamp name =
    held (record { established = established; address = 9; port = port; number = number; lease = lease; stamp = stamp; qtype = 12; qclass = 1; name = name })

abbrev pub line : ℕ → ℕ → ℕ → Line
line address share limit = record { address = address; share = share; limit = limit }

-- at a running count of 100; with weeks of ten bits where none are named
abbrev pub table_with : Weeks → ℕ → List Line → List Slot → Table
table_with w place ls ss = record { layout = record { weeks = w }; clock = record { place = place; running = 100 }; roster = ls; slots = ss }

abbrev pub table : ℕ → List Line → List Slot → Table
table = table_with ten_bit

abbrev pub name : List ℕ
name = 1 ∷ 97 ∷ 0 ∷ []

-- ONE ENTRY, by its number, lease, stamp and name, and whether it is sound
pub record EntrySample : Type 0 where
  pub number : ℕ
  pub lease : ℕ
  pub stamp : ℕ
  pub name : List ℕ
  pub sound : Bool

abbrev pub sample : ℕ → ℕ → ℕ → List ℕ → Bool → EntrySample
sample number lease stamp name sound = record { number = number; lease = lease; stamp = stamp; name = name; sound = sound }

abbrev pub named : List ℕ → Bool → EntrySample
named name sound = sample 7 60 100 name sound

abbrev pub entry_samples : List EntrySample
entry_samples =
    sample 0 60 100 name false  -- numbers are non-zero
    ∷ sample 18446744073709551615 60 100 name true
    ∷ sample 7 59 100 name false  -- leases are 60 to 7,200
    ∷ sample 7 7200 100 name true
    ∷ sample 7 7201 100 name false
    ∷ sample 7 60 41 name true  -- ages are under leases: 59, 60, and a stamp ahead of the count
    ∷ sample 7 60 40 name false
    ∷ sample 7 60 101 name false
    ∷ named (0 ∷ []) true  -- names: the root,
    ∷ named [] false  -- nothing,
    ∷ named (1 ∷ 65 ∷ 0 ∷ []) false  -- upper case at both ends,
    ∷ named (1 ∷ 90 ∷ 0 ∷ []) false
    ∷ named (1 ∷ 64 ∷ 0 ∷ []) true  -- beside it,
    ∷ named (1 ∷ 91 ∷ 0 ∷ []) true
    ∷ named (2 ∷ 97 ∷ 98 ∷ 0 ∷ []) true  -- of two letters, in the first, in the last,
    ∷ named (2 ∷ 65 ∷ 98 ∷ 0 ∷ []) false
    ∷ named (2 ∷ 97 ∷ 66 ∷ 0 ∷ []) false
    ∷ named (1 ∷ 97 ∷ 1 ∷ 98 ∷ 0 ∷ []) true  -- of two labels, in the first, in the second,
    ∷ named (1 ∷ 65 ∷ 1 ∷ 98 ∷ 0 ∷ []) false
    ∷ named (1 ∷ 97 ∷ 1 ∷ 66 ∷ 0 ∷ []) false
    ∷ named (63 ∷ (replicate 63 97 ++ (0 ∷ []))) true  -- labels of 63 and 64 bytes,
    ∷ named (64 ∷ (replicate 64 97 ++ (0 ∷ []))) false
    ∷ named (1 ∷ 97 ∷ 0 ∷ 0 ∷ []) false  -- labels that end before the stated length,
    ∷ named (1 ∷ 97 ∷ 0 ∷ 1 ∷ 98 ∷ 0 ∷ []) false
    ∷ named (2 ∷ 97 ∷ 0 ∷ []) false  -- and behind it
    ∷ named (1 ∷ 97 ∷ []) false
    ∷ []

-- pending or established, beside a free slot
abbrev pub one : Bool → EntrySample → Bool × Bool
one established e = (sound_table (table 5 [] (entry established 1 e.number e.lease e.stamp e.name ∷ free ∷ [])), e.sound)

-- TABLES

-- two entries, by their states and the second's port and number
abbrev pub two : Bool → Bool → ℕ → ℕ → Bool
two first second port number = sound_table (table 5 [] (entry first 1 7 60 100 name ∷ entry second port number 60 100 name ∷ []))

-- four entries of address 9, two of them established, and a fifth, with a roster
abbrev pub four : List Slot
four = entry false 1 11 60 100 name ∷ entry true 2 12 60 100 name ∷ entry false 3 13 60 100 name ∷ entry true 4 14 60 100 name ∷ []

abbrev pub five : List Line → Bool
five ls = sound_table (table 5 ls (four ++ (entry false 5 15 60 100 name ∷ free ∷ [])))

-- a roster on two free slots
abbrev pub roster : List Line → Bool
roster ls = sound_table (table 5 ls (free ∷ free ∷ []))

-- the bytes of a table of one entry and one free slot, with byte i changed to x
abbrev pub damaged_with : Weeks → ℕ → ℕ → Bool
damaged_with w i x = sound_bytes (set (table_bytes (table_with w 5 [] (entry false 1 7 60 100 name ∷ free ∷ []))) i x)

abbrev pub damaged : ℕ → ℕ → Bool
damaged = damaged_with ten_bit

-- the bytes of a free table of one slot with these behind them
abbrev pub longer : Weeks → List ℕ → Bool
longer w xs = sound_bytes (table_bytes (table_with w 5 [] (free ∷ [])) ++ xs)

-- computed beside expected
abbrev pub table_samples : List (Bool × Bool)
table_samples =
    (sound_table (table 619315199 [] (free ∷ [])), true)  -- the last place is under 619,315,200
    ∷ (sound_table (table 619315200 [] (free ∷ [])), false)
    ∷ (sound_table (table_with thirteen_bit 619315200 [] (free ∷ [])), true)  -- with weeks of thirteen bits under 4,954,521,600
    ∷ (sound_table (table_with thirteen_bit 4954521599 [] (free ∷ [])), true)
    ∷ (sound_table (table_with thirteen_bit 4954521600 [] (free ∷ [])), false)
    ∷ (sound_table (table 5 [] []), false)  -- 1 to 64 slots
    ∷ (sound_table (table 5 [] (replicate 64 free)), true)
    ∷ (sound_table (table 5 [] (replicate 65 free)), false)
    ∷ (roster (line 1 0 0 ∷ []), false)  -- share at most limit, limit 1 to 64
    ∷ (roster (line 1 2 1 ∷ []), false)
    ∷ (roster (line 1 0 64 ∷ []), true)
    ∷ (roster (line 1 0 65 ∷ []), false)
    ∷ (roster (line 1 1 1 ∷ line 2 1 1 ∷ []), true)  -- shares sum to at most n
    ∷ (roster (line 1 1 1 ∷ line 2 2 2 ∷ []), false)
    ∷ (roster (line 1 0 1 ∷ line 1 0 1 ∷ []), false)  -- listed addresses differ
    ∷ (two false false 2 8, true)  -- entries differ in number and in question, whatever their states
    ∷ (two false false 2 7, false)
    ∷ (two false false 1 8, false)
    ∷ (two false true 2 8, true)
    ∷ (two false true 2 7, false)
    ∷ (two false true 1 8, false)
    ∷ (two true true 2 8, true)
    ∷ (two true true 2 7, false)
    ∷ (two true true 1 8, false)
    ∷ (sound_table (table 5 [] four), true)  -- limits: 4 unlisted, the line's if listed
    ∷ (five [], false)
    ∷ (five (line 9 0 5 ∷ []), true)
    ∷ (five (line 7 2 2 ∷ line 9 0 5 ∷ []), false)  -- one free slot for a reserve of two
    ∷ (damaged 0 1, true)  -- the bytes as they are, then: kinds,
    ∷ (damaged 0 2, false)
    ∷ (damaged 9 4, false)
    ∷ (damaged 313 7, false)
    ∷ (damaged 313 6, true)  -- established is as sound as pending,
    ∷ (damaged 633 2, false)
    ∷ (damaged 10 1, false)  -- zeros of an unused line,
    ∷ (damaged 634 1, false)  -- of a free slot,
    ∷ (damaged 356 1, false)  -- behind a name,
    ∷ (damaged 632 1, false)  -- at an entry's end,
    ∷ (damaged 352 4, false)  -- and the name's stated length
    ∷ (damaged_with thirteen_bit 0 9, true)  -- the clock's kind is by the length: 9 at 317 + 320n, and not 1,
    ∷ (damaged_with thirteen_bit 0 1, false)
    ∷ (damaged 0 9, false)  -- 1 at 313 + 320n, and not 9
    ∷ (longer ten_bit [], true)  -- a table of kind 1 and four bytes more is none,
    ∷ (longer ten_bit (0 ∷ 0 ∷ 0 ∷ 0 ∷ []), false)
    ∷ (longer thirteen_bit [], true)
    ∷ (damaged_with thirteen_bit 317 6, true)  -- and the places behind the clock are four further on
    ∷ (damaged_with thirteen_bit 313 6, false)
    ∷ (damaged_with thirteen_bit 4 1, true)  -- a place of 2^32 + 5, and of 2^33 + 5
    ∷ (damaged_with thirteen_bit 4 2, false)
    ∷ []

abbrev pub AgreeAll : List (Bool × Bool) → Type 0
AgreeAll [] = Unit {0}
AgreeAll (r ∷ rs) = (r.0 ≡ r.1) × AgreeAll rs

-- each entry is judged pending and established
pub record SoundSamples : Type 0 where
  pub tables : AgreeAll table_samples
  pub pending : AgreeAll (map (one false) entry_samples)
  pub established : AgreeAll (map (one true) entry_samples)
