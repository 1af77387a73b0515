-- What making writes. Assumes nothing.
use Rattle.std.specs.Prelude.{ℕ, List, replicate}
use Rattle.model.specs.Lists.{up_to, flat}
use Rattle.model.specs.Table.{Layout, Table, free, slot_bytes, unused_line}
use Rattle.model.specs.Calls.{roster_lines}

-- k unused roster lines
unfoldable pub unused_lines : ℕ → List ℕ
unused_lines k = flat (λ (i : ℕ). unused_line) (up_to k (λ i. i))

-- n free slots
unfoldable pub free_slots : ℕ → List ℕ
free_slots n = flat (λ (i : ℕ). slot_bytes free) (up_to n (λ i. i))

-- a layout, a place, running count 0, the roster's lines in the order given, and n free slots
abbrev pub fresh : Layout → ℕ → List ℕ → ℕ → Table
fresh l place roster n = record { layout = l; clock = record { place = place; running = 0 }; roster = roster_lines roster; slots = replicate n free }
