-- Document 01, "The clock". Assumes nothing.
use Rattle.std.specs.Prelude.{ℕ, ◌+◌, ◌-◌, ◌*◌, ◌/◌, ◌%◌, ◌^◌, Bool, cond, ◌&&◌, ℤ, pos, negsuc, neg_ℤ, ◌+ℤ◌, ◌-ℤ◌, ltb, leb}
use Rattle.std.specs.Int.Signed.{lt_z}

-- what the table keeps: the last place and the running count
pub record Clock : Type 0 where
  pub place : ℕ
  pub running : ℕ

-- the weeks that a receiver sends: of ten bits (IS-GPS-200), or of thirteen (document 02, Ticket 7)
pub data Weeks : Type 0 where
  ten_bit : Weeks
  thirteen_bit : Weeks

-- how many there are, and the seconds after which the week is back at 0
abbrev pub weeks_in : Weeks → ℕ
weeks_in ten_bit = 1024
weeks_in thirteen_bit = 8192

abbrev pub cycle_of : Weeks → ℕ
cycle_of w = weeks_in w * 604800

-- a reading is a week 0 to 1,023, or to 8,191, and a second 0 to 604,799
abbrev pub valid_reading : Weeks → ℕ → ℕ → Bool
valid_reading w week second = ltb week (weeks_in w) && ltb second 604800

-- its place
abbrev pub place_of : ℕ → ℕ → ℕ
place_of week second = week * 604800 + second

-- a difference of two places brought, by whole cycles c, into −c/2 to c/2 − 1
unfoldable pub brought : ℕ → ℤ → ℤ
brought c z = cond (lt_z z (neg_ℤ (pos (c / 2)))) (z +ℤ pos c) (cond (lt_z z (pos (c / 2))) z (z -ℤ pos c))

-- the step from the last place to a new one, in a cycle of c seconds
unfoldable pub step : ℕ → ℕ → ℕ → ℤ
step c from to = brought c (pos to -ℤ pos from)

-- the seconds that a clock may go back without being taken for one that was set back (document 02, Ticket 4)
abbrev pub slack : ℕ
slack = 60

-- a step of 0 or more is added to the running count, modulo 4,294,967,296, and the new place is kept;
-- a negative step of 60 seconds or less changes nothing, a larger one leaves the running count and keeps the new place
abbrev pub moved : Clock → ℕ → ℤ → Clock
moved k to (pos n) = record { place = to; running = (k.running + n) % 2 ^ 32 }
moved k to (negsuc n) = cond (leb (n + 1) slack) k (record { place = to; running = k.running })

-- the clock k moved on to a new place, in a cycle of c seconds
unfoldable pub advance : ℕ → Clock → ℕ → Clock
advance c k to = moved k to (step c k.place to)

-- an entry's age: the running count less its stamp, modulo 4,294,967,296
abbrev pub age_at : ℕ → ℕ → ℕ
age_at running stamp = (running + 2 ^ 32 - stamp) % 2 ^ 32

-- an entry has run out when its age is at least its lease (LLQ-LEASE, RFC 8764 section 5.2.2)
abbrev pub run_out : ℕ → ℕ → Bool
run_out age lease = leb lease age
