-- A refusal's number, and what a result tells: the number, and what goes with it. Assumes nothing.
use Rattle.std.specs.Prelude.{ℕ, ◌≡◌, true, false, List, length, Result, Ok, Err}
use Rattle.model.specs.Clock.{valid_reading}
use Rattle.model.specs.Table.{layout_of}
use Rattle.model.specs.Sound.{sound_bytes}
use Rattle.layout.specs.declared.Layout.{Layout}
use Rattle.layout.specs.Places.{LayoutFor}
use Rattle.query.specs.Parts as query
use Rattle.llq.specs.declared.Refusal.{Refusal}
use Rattle.llq.specs.declared.Refusal.TheVariants.{Table, Reading, Datagram, Room, Roster}

-- document 01's number of a refusal
abbrev pub number_of : Refusal → ℕ
number_of Table = 1
number_of Reading = 2
number_of (Datagram q) = query.number_of q
number_of Room = 8
number_of Roster = 9

-- of a result: 0 where the call is done
abbrev pub number_in : {A : Type 0} → Result A Refusal → ℕ
number_in (Ok a) = 0
number_in (Err e) = number_of e

-- how many entries were freed or how long the reply is: 0 where the call is refused
abbrev pub count_in : Result ℕ Refusal → ℕ
count_in (Ok n) = n
count_in (Err e) = 0

-- refusals 1 and 2 of a call on a table, or the layout of a sound table whose clock takes the reading
abbrev pub Finds : ℕ → ℕ → List ℕ → Result Layout Refusal → Type 0
Finds week second b (Ok l) = (sound_bytes b ≡ true) × (valid_reading (layout_of (length b)).weeks week second ≡ true) × LayoutFor l (length b)
Finds week second b (Err Table) = sound_bytes b ≡ false
Finds week second b (Err Reading) = (sound_bytes b ≡ true) × (valid_reading (layout_of (length b)).weeks week second ≡ false)
Finds week second b (Err (Datagram q)) = ⊥
Finds week second b (Err Room) = ⊥
Finds week second b (Err Roster) = ⊥
