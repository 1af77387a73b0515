-- The calls of samples and wrong servers: each call's record is written here alone, so that a further argument is one line. Assumes nothing.
use Rattle.std.specs.Prelude.{ℕ, List}
use Rattle.model.specs.Serve.{Sender}
use Rattle.model.specs.Calls.{MakeCall, TickCall, ServeCall}

-- a making at a reading's week and second, with the roster's bytes
abbrev pub make_at : ℕ → ℕ → List ℕ → MakeCall
make_at week second roster = record { week = week; second = second; roster = roster }

-- a tick at a reading
abbrev pub tick_at : ℕ → ℕ → TickCall
tick_at week second = record { week = week; second = second }

-- at a reading, from a sender, with the host's number: a datagram, and room for its reply
abbrev pub datagram_at : ℕ → ℕ → Sender → ℕ → List ℕ → ℕ → ServeCall
datagram_at week second sender random datagram room =
    record { week = week; second = second; sender = sender; random = random; datagram = datagram; room = room }
