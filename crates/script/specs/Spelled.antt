-- What a script's bytes spell: a list of calls. Assumes nothing.
use Rattle.std.specs.Prelude.{ℕ, zero, suc, ◌+◌, cond, List, [], ◌∷◌, ◌++◌, length, get_or, eqb, leb}
use Rattle.model.specs.Numbers.{big_endian, part}
use Rattle.model.specs.Calls.{MakeCall, TickCall, ServeCall}
use Rattle.claims.specs.Tally.{Call, making, ticking, serving}
use Rattle.claims.specs.CallBuilders.{make_at, tick_at, datagram_at}

-- A RECORD at index at of a script s: a head of 39 bytes, its numbers big endian, and a body.
-- In the head: kind 1, week 4, second 4, address 16, port 2, the host's number 8, room 2, size of the body 2.

abbrev pub kind_at : List ℕ → ℕ → ℕ
kind_at s at = get_or s at 0

abbrev pub week_at : List ℕ → ℕ → ℕ
week_at s at = big_endian s (at + 1) 4

abbrev pub second_at : List ℕ → ℕ → ℕ
second_at s at = big_endian s (at + 5) 4

abbrev pub address_at : List ℕ → ℕ → ℕ
address_at s at = big_endian s (at + 9) 16

abbrev pub port_at : List ℕ → ℕ → ℕ
port_at s at = big_endian s (at + 25) 2

abbrev pub random_at : List ℕ → ℕ → ℕ
random_at s at = big_endian s (at + 27) 8

-- the reply buffer's length; in a making it tells whoever lends the table how much to lend
abbrev pub room_at : List ℕ → ℕ → ℕ
room_at s at = big_endian s (at + 35) 2

abbrev pub size_at : List ℕ → ℕ → ℕ
size_at s at = big_endian s (at + 37) 2

-- a making's roster, or a datagram
abbrev pub body_at : List ℕ → ℕ → List ℕ
body_at s at = part (at + 39) (size_at s at) s

-- where the next record starts
abbrev pub next_at : List ℕ → ℕ → ℕ
next_at s at = at + 39 + size_at s at

-- ITS CALL

abbrev pub making_at : List ℕ → ℕ → MakeCall
making_at s at = make_at (week_at s at) (second_at s at) (body_at s at)

abbrev pub ticking_at : List ℕ → ℕ → TickCall
ticking_at s at = tick_at (week_at s at) (second_at s at)

abbrev pub serving_at : List ℕ → ℕ → ServeCall
serving_at s at =
    datagram_at (week_at s at) (second_at s at) (record { address = address_at s at; port = port_at s at }) (random_at s at) (body_at s at) (room_at s at)

-- 'M' makes, 'T' ticks, 'S' serves; a record of any other kind is no call
unfoldable pub call_at : List ℕ → ℕ → List Call
call_at s at =
    cond (eqb (kind_at s at) 77) (making (making_at s at) ∷ [])
    (cond (eqb (kind_at s at) 84) (ticking (ticking_at s at) ∷ [])
    (cond (eqb (kind_at s at) 83) (serving (serving_at s at) ∷ []) []))

-- THE CALLS

-- of at most k records from index at on, up to the first for which too few bytes are left
unfoldable pub calls_from : ℕ → List ℕ → ℕ → List Call
calls_from zero s at = []
calls_from (suc k) s at = cond (leb (next_at s at) (length s)) (call_at s at ++ calls_from k s (next_at s at)) []

-- of all records: there are no more of them than bytes
abbrev pub calls_in : List ℕ → List Call
calls_in s = calls_from (length s) s 0
