-- A setup sent again: the client gets the number that it got and the life that remains, and the table stays as it is. A lease that was told stays
-- a right answer while the entry keeps it. Assumes nothing.
use Rattle.std.specs.Prelude.{ℕ, ◌+◌, ◌-◌, ◌<◌, ◌≡◌, List, [], ◌∷◌}
use Rattle.model.specs.Query.{Question, LlqOption}
use Rattle.model.specs.Table.{Entry, held, Table, read_table}
use Rattle.model.specs.Sound.{Sound, SoundBytes}
use Rattle.model.specs.Serve.{Sender, Served, slot_of, serve_option}
use Rattle.model.specs.Meets.{Server}
use Rattle.claims.specs.Events.{Event, table_of, Trace, AllInRange}
use Rattle.claims.specs.Changes.{Setup, Response, Own, age_of, RightResponse}
use Rattle.claims.specs.LiveAge.{steps_along, left_by, SameStamp}

-- what a repeated setup gives: error 0, this number and lease, and the table as it was
pub record Repeated (t : Table) (llq seconds : ℕ) (x : Served) : Type 0 where
  pub table : x.table ≡ t
  pub opcode : x.outcome.opcode ≡ 1
  pub error : x.outcome.error ≡ 0
  pub number : x.outcome.number ≡ llq
  pub lease : x.outcome.lease ≡ seconds

-- these seconds remain to the entry: with its age they are the granted lease
abbrev pub Remains : Table → Entry → ℕ → Type 0
Remains t e seconds = seconds + age_of t.clock.running e ≡ e.lease

-- A SETUP for an entry that is there, pending or established: whatever the host's number and the lease asked, it is told the life that remains
abbrev pub SetupRepeats : Type 0
SetupRepeats =
    (s : Sender) (r : ℕ) (q : Question) (o : LlqOption) (t : Table) (j : ℕ) (e : Entry)
    → Sound t
    → Setup o
    → slot_of t j ≡ held e
    → Own s q e
    → (seconds : ℕ) × (Remains t e seconds × Repeated t e.number seconds (serve_option s r q o t))

-- THE SAME SETUP TWICE, one after the other, where the first was answered with error 0
abbrev pub SetupTwice : Type 0
SetupTwice =
    (s : Sender) (r r2 : ℕ) (q : Question) (o o2 : LlqOption) (t : Table)
    → Sound t
    → Setup o
    → Setup o2
    → (serve_option s r q o t).outcome.error ≡ 0
    → Repeated (serve_option s r q o t).table (serve_option s r q o t).outcome.number (serve_option s r q o t).outcome.lease
    (serve_option s r2 q o2 (serve_option s r q o t).table)

-- A LEASE THAT WAS TOLD

-- slot j holds the entry with the lease and the stamp that it had, its state aside
pub record SameLease (j : ℕ) (e : Entry) (b : List ℕ) : Type 0 where
  pub kept : SameStamp j e (read_table b)
  pub lease : kept.entry.lease ≡ e.lease

-- after each call of the list
abbrev pub SameLeaseAlong : ℕ → Entry → List Event → Type 0
SameLeaseAlong j e [] = Unit {0}
SameLeaseAlong j e (x ∷ xs) = SameLease j e (table_of x) × SameLeaseAlong j e xs

-- THE CLAIM, of any list of calls on a sound table along which a slot keeps an entry's lease: the seconds that remained at the start, which a
-- challenge told,
pub record ToldLeases (s : Server) : Type 0 where
  -- are a right response's lease at the end,
  pub right : (b : List ℕ) (es : List Event) (j : ℕ) (e x : Entry) → SoundBytes b → AllInRange es → Trace s b es → slot_of (read_table b) j ≡ held e
      → SameLeaseAlong j e es → slot_of (read_table (left_by b es)) j ≡ held x → (from : Sender) (q : Question) (o : LlqOption) → Response o → Own from q e
      → e.number ≡ o.number → Remains (read_table b) e o.lease → RightResponse (read_table (left_by b es)).clock.running from q o x
  -- and less the steps forward, as whole numbers, they remain, 1 or more
  pub remains : (b : List ℕ) (es : List Event) (j : ℕ) (e : Entry) → SoundBytes b → AllInRange es → Trace s b es → slot_of (read_table b) j ≡ held e
      → SameLeaseAlong j e es → (seconds : ℕ) → Remains (read_table b) e seconds
      → (steps_along b es < seconds) × Remains (read_table (left_by b es)) e (seconds - steps_along b es)
