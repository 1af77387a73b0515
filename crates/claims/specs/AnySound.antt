-- Demand 3's facts from any sound table on, not from a fresh one alone: the tally starts with what the bytes hold. Assumes nothing.
use Rattle.std.specs.Prelude.{ℕ, List, length}
use Rattle.model.specs.Table.{Table, cycle_in, read_table}
use Rattle.model.specs.Rules.{holdings}
use Rattle.model.specs.Sound.{SoundBytes}
use Rattle.model.specs.Meets.{Server}
use Rattle.claims.specs.Tally.{Tally}
use Rattle.claims.specs.Events.{Event, Trace, AllInRange}
use Rattle.claims.specs.Demand3.{Agrees, Along}

-- the tally of a table: its clock and cycle, n, roster and entries, each at its age
abbrev pub tally_of : Table → Tally
tally_of t =
    record {
      cycle = cycle_in t;
      place = t.clock.place;
      running = t.clock.running;
      n = length t.slots;
      roster = t.roster;
      holdings = holdings t;
    }

pub record AnySound (s : Server) : Type 0 where
  -- whatever tally agrees with the bytes, all along the list
  pub along : (b : List ℕ) (y : Tally) (es : List Event) → Agrees b y → AllInRange es → Trace s b es → Along (length b) y es
  -- and every sound table has one
  pub agrees : (b : List ℕ) → SoundBytes b → Agrees b (tally_of (read_table b))
