-- What a table's length says of its clock and its slots, in numbers written out, apart from the model's layouts (document 02, Ticket 7): 313 + 320n
-- bytes have weeks of ten bits, 317 + 320n weeks of thirteen. Assumes nothing.
use Rattle.std.specs.Prelude.{ℕ, ◌+◌, ◌-◌, ◌/◌, ◌%◌, Bool, cond, eqb}
use Rattle.model.specs.Clock.{Weeks, ten_bit, thirteen_bit}

-- 317 + 320n is three less than a multiple of 320, and 313 + 320n is not
abbrev pub is_wide : ℕ → Bool
is_wide size = eqb ((size + 3) % 320) 0

-- the seconds of a clock's cycle, with weeks of ten bits and of thirteen
abbrev pub cycle_with : Weeks → ℕ
cycle_with ten_bit = 619315200
cycle_with thirteen_bit = 4954521600

-- those of a table so long, and the largest week
abbrev pub cycle_for : ℕ → ℕ
cycle_for size = cond (is_wide size) (cycle_with thirteen_bit) (cycle_with ten_bit)

abbrev pub last_week : ℕ → ℕ
last_week size = cond (is_wide size) 8191 1023

-- n, of both lengths
abbrev pub slots_for : ℕ → ℕ
slots_for size = (size - 313) / 320
