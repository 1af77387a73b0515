-- The slots and lines that code looks at, as the passes over several entries see them. Assumes nothing.
use Rattle.std.specs.Prelude.{ℕ, ◌≡◌, ◌+◌, ◌*◌, ◌<◌, ◌≤◌, Bool, true, not, get_or}
use Rattle.model.specs.Lists.{every}
use Rattle.model.specs.Numbers.{Bytes}
use Rattle.model.specs.Rules.{Holding, numbered, held_by}
use Rattle.layout.specs.Shape.{in_use}
use Rattle.layout.specs.Held.{holding_at, held_to}
use Rattle.roster.specs.declared.Lines.{Lines}
use Rattle.roster.specs.Lines.{lines_of}
use Rattle.holdings.specs.declared.Slots.{Slots}
use Rattle.sound.specs.Holders as holders

-- slot i has an entry
pub record HasEntry (s : Slots) (i : ℕ) : Type 0 where
  pub within : i < s.n
  pub held : in_use (get_or s.bytes.now (320 * i) 0) ≡ true

-- slot i has an entry, and none of the entries below slot `from` ends in the same byte; `last` is where that lies in a slot
pub record LooksFrom (s : Slots) (last from i : ℕ) : Type 0 where
  pub entry : HasEntry s i
  pub upto : from ≤ i
  pub bytes : Bytes s.bytes.now
  pub others : (j : ℕ) → j < from → in_use (get_or s.bytes.now (320 * j) 0) ≡ true → ¬ (get_or s.bytes.now (320 * j + last) 0 ≡ get_or s.bytes.now (320 * i + last) 0)

-- the entry of slot i
abbrev pub entry_of : Slots → ℕ → Holding
entry_of s i = holding_at 0 s.bytes.now (320 * i)

-- none of the entries below slot j has its number; none has its address
abbrev pub number_apart : Slots → ℕ → ℕ → Bool
number_apart s i j = every (λ h. not (numbered (entry_of s i).number h)) (held_to 0 s.bytes.now j)

abbrev pub address_apart : Slots → ℕ → ℕ → Bool
address_apart s i j = every (λ h. not (held_by (entry_of s i).address h)) (held_to 0 s.bytes.now j)

-- the rules of several entries: those of slot i's, with those below it; of all as holders; all
abbrev pub holder_sound : Slots → Lines → ℕ → Bool
holder_sound s l i = holders.holder_sound s.bytes.now (lines_of l) i (entry_of s i)

abbrev pub holders_sound : Slots → Lines → Bool
holders_sound s l = holders.holders_sound s.bytes.now (lines_of l) s.n

abbrev pub entries_sound : Slots → Lines → Bool
entries_sound s l = holders.entries_sound s.bytes.now (lines_of l) s.n
