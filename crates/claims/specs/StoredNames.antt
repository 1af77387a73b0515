-- Stored names: soundness's test of a name, told by its bytes. Assumes nothing.
use Rattle.std.specs.Prelude.{ℕ, ◌+◌, ◌≤◌, ◌<◌, ◌≡◌, true, List, length, get_or}
use Rattle.model.specs.Names.{lower_name}
use Rattle.claims.specs.Refusals.{Label, NameEnds}
use Rattle.claims.specs.Exactly.{Exactly}

-- a valid wire name in lower case of the list's length
pub record StoredName (s : List ℕ) : Type 0 where
  -- the name that starts at 0 ends at the list's length
  pub fills : NameEnds s 0 (length s)
  -- no byte of its labels is A to Z: the bytes of the label at q are those behind its length byte
  pub lower : (q i : ℕ) → Label s 0 q → q < i → i ≤ q + get_or s q 0 → 65 ≤ get_or s i 0 → get_or s i 0 ≤ 90 → ⊥

-- THE CLAIM, of every list of numbers
abbrev pub StoredNames : Type 0
StoredNames = (s : List ℕ) → Exactly (lower_name 0 s ≡ true) (StoredName s)
