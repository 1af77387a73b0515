-- A script written out, and the calls that it spells. Assumes nothing.
use Rattle.std.specs.Prelude.{ℕ, ◌≡◌, List, [], ◌∷◌, ◌++◌, replicate}
use Rattle.claims.specs.Tally.{Call, making, ticking, serving}
use Rattle.claims.specs.CallBuilders.{make_at, tick_at, datagram_at}
use Rattle.script.specs.Spelled.{calls_in}

-- a making on 633 bytes, a record that is no call, a tick, a datagram of three bytes from 192.0.2.5 port 5353, and a record that is not whole
unfoldable pub pinned : List ℕ
pinned =
    (77 ∷ 0 ∷ 0 ∷ 0 ∷ 1 ∷ 0 ∷ 0 ∷ 0 ∷ 5 ∷ []) ++ (replicate 26 0 ++ (2 ∷ 121 ∷ 0 ∷ 0 ∷ []
    ++ ((68 ∷ []) ++ (replicate 38 0
    ++ ((84 ∷ 0 ∷ 0 ∷ 0 ∷ 1 ∷ 0 ∷ 0 ∷ 1 ∷ 4 ∷ []) ++ (replicate 30 0
    ++ ((83 ∷ 0 ∷ 0 ∷ 3 ∷ 255 ∷ 0 ∷ 9 ∷ 58 ∷ 127 ∷ []) ++ (replicate 10 0 ++ ((255 ∷ 255 ∷ 192 ∷ 0 ∷ 2 ∷ 5 ∷ 20 ∷ 233 ∷ []) ++ (replicate 7 0
    ++ ((9 ∷ 0 ∷ 60 ∷ 0 ∷ 3 ∷ 18 ∷ 52 ∷ 1 ∷ []) ++ ((84 ∷ []) ++ replicate 37 0))))))))))))

unfoldable pub pinned_calls : List Call
pinned_calls =
    making (make_at 1 5 [])
    ∷ ticking (tick_at 1 260)
    ∷ serving (datagram_at 1023 604799 (record { address = 281473902969349; port = 5353 }) 9 (18 ∷ 52 ∷ 1 ∷ []) 60)
    ∷ []

-- THE CLAIM
abbrev pub SpelledOut : Type 0
SpelledOut = calls_in pinned ≡ pinned_calls
