-- A script carried out on one table: the calls that its bytes spell, as a trace of the model's server, with demand 3 along it. Assumes nothing.
use Rattle.std.specs.Prelude.{ℕ, ◌+◌, ◌≡◌, List, ◌∷◌, ◌++◌, Option, None, Some, is_some, map, length, leb}
use Rattle.model.specs.Lists.{flat}
use Rattle.model.specs.Numbers.{splice}
use Rattle.model.specs.Calls.{MakeCall}
use Rattle.model.specs.Meets.{model}
use Rattle.claims.specs.Tally.{Tally, Call, begin_tally}
use Rattle.claims.specs.Events.{Event, made, call_of, Trace}
use Rattle.claims.specs.Demand3.{Agrees, Along}
use Rattle.claims.specs.LiveAge.{left_by}
use Rattle.script.specs.Spelled.{calls_in}
use Rattle.script.specs.Answers.{answer_bytes, AllFilled, answers_length}

-- CALLS CARRIED OUT on a table, from the bytes before to the bytes after; their answers stand in a lent buffer from index from up to index to
pub record Carried (calls : List Call) (before after lent left : List ℕ) (from to : ℕ) : Type 0 where
  -- what each call was answered, and what it left
  pub events : List Event
  pub spelled : map call_of events ≡ calls
  -- each got the table as the one before it left it, and did what the model does
  pub trace : Trace model before events
  pub table : left_by before events ≡ after
  pub filled : AllFilled events
  -- one answer after the other; all other bytes keep what they held
  pub size : length (flat answer_bytes events) ≡ answers_length calls
  pub end : to ≡ from + answers_length calls
  pub answers : left ≡ splice from (answers_length calls) (flat answer_bytes events) lent

-- DEMAND 3 along calls on a table
pub record Demand3Along (before : List ℕ) (events : List Event) : Type 0 where
  -- its facts hold from every answered making on
  pub begun : (earlier : List Event) (c : MakeCall) (b : List ℕ) (rest : List Event) → events ≡ earlier ++ (made c 0 b ∷ rest)
      → Agrees b (begin_tally (length (left_by before earlier)) c)
      × Along (length (left_by before earlier)) (begin_tally (length (left_by before earlier)) c) rest
  -- and from the first call on, where the table agrees with a tally: a list of calls may be carried out in several scripts
  pub onward : (y : Tally) → Agrees before y → Along (length before) y events

-- WHAT RUNNING A SCRIPT DOES: how many bytes the answers take, or nothing
pub record Runs (script before after lent left : List ℕ) (r : Option ℕ) : Type 0 where
  -- it is carried out exactly if the answers fit the lent buffer
  pub fits : is_some r ≡ leb (answers_length (calls_in script)) (length lent)
  -- otherwise nothing is done: table and buffer keep every byte
  pub kept : r ≡ None → (after ≡ before) × (left ≡ lent)
  -- the calls that its bytes spell
  pub carried : (n : ℕ) → r ≡ Some n → Carried (calls_in script) before after lent left 0 n
  pub demand3 : (n : ℕ) (d : r ≡ Some n) → Demand3Along before (carried n d).events
