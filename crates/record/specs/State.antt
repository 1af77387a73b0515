-- The state that a slot's kind says, and the kind of each state. Assumes nothing.
use Rattle.std.specs.Prelude.{ℕ, Bool, true, false, cond, eqb}
use Rattle.record.specs.declared.State.{State}
use Rattle.record.specs.declared.State.TheVariants.{Free, Pending, Established}

-- 0x05 pending, 0x06 established; any other holds no entry
abbrev pub state_of : ℕ → State
state_of k = cond (eqb k 5) Pending (cond (eqb k 6) Established Free)

-- 0x04, 0x05, 0x06
abbrev pub kind_byte : State → ℕ
kind_byte Free = 4
kind_byte Pending = 5
kind_byte Established = 6

-- a slot in this state has an entry
abbrev pub has_entry : State → Bool
has_entry Free = false
has_entry Pending = true
has_entry Established = true

-- its entry is established
abbrev pub is_established : State → Bool
is_established Free = false
is_established Pending = false
is_established Established = true
