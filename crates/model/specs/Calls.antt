-- Document 01's three calls: from arguments and lent bytes to the numbered answer and the bytes left. Assumes nothing.
use Rattle.std.specs.Prelude.{ℕ, zero, suc, ◌*◌, ◌/◌, Bool, not, cond, ◌&&◌, ◌||◌, List, [], ◌∷◌, ◌++◌, length, get_or, drop, replicate, eqb, leb, ltb}
use Rattle.model.specs.Lists.{count, every, up_to}
use Rattle.model.specs.Clock.{valid_reading, place_of, advance}
use Rattle.model.specs.Query.{wrong_size, good_header, qdcount, good_questions, questions_end, good_opt, llq_options, matched, question, llq_option}
use Rattle.model.specs.Table.{Line, free, Table, table_bytes, read_table, read_line, size_of, layout_of, slots_in, cycle_in}
use Rattle.model.specs.Sound.{sound_bytes, sound_roster}
use Rattle.model.specs.Serve.{Sender, Outcome, serve_option, slot_run_out, moved_on}
use Rattle.model.specs.Reply.{reply_bytes, reply_length, mismatch}

-- ARGUMENTS, all but the table's bytes and the reply buffer's

pub record MakeCall : Type 0 where
  pub week : ℕ
  pub second : ℕ
  -- the roster's bytes
  pub roster : List ℕ

pub record TickCall : Type 0 where
  pub week : ℕ
  pub second : ℕ

pub record ServeCall : Type 0 where
  pub week : ℕ
  pub second : ℕ
  pub sender : Sender
  -- the host's number r
  pub random : ℕ
  pub datagram : List ℕ
  -- the length of the lent reply buffer
  pub room : ℕ

-- ANSWERS, with the bytes left in the table and in the reply buffer

pub record Made : Type 0 where
  pub number : ℕ
  pub table : List ℕ

pub record Ticked : Type 0 where
  pub number : ℕ
  pub freed : ℕ
  pub table : List ℕ

pub record Answered : Type 0 where
  pub number : ℕ
  pub length : ℕ
  pub table : List ℕ
  pub reply : List ℕ

-- REFUSALS: a number and its condition for each; the lowest number whose condition holds, 0 where none does
unfoldable pub refusal : List (ℕ × Bool) → ℕ
refusal [] = 0
refusal (k ∷ ks) = cond k.1 k.0 (refusal ks)

-- MAKING

-- the length is that of a table of 1 to 64 slots, in the layout that the length has
unfoldable pub table_length : ℕ → Bool
table_length size = leb 1 (slots_in size) && leb (slots_in size) 64 && eqb size (size_of (layout_of size) (slots_in size))

-- the roster's records
abbrev pub roster_count : List ℕ → ℕ
roster_count r = length r / 19

abbrev pub roster_lines : List ℕ → List Line
roster_lines r = up_to (roster_count r) (λ i. read_line r (19 * i))

-- 0 to 16 whole records of kind 0x03 that meet the roster rules of n slots
unfoldable pub good_roster : ℕ → List ℕ → Bool
good_roster n r =
    eqb (length r) (19 * roster_count r) && leb (roster_count r) 16 && every (λ i. eqb (get_or r (19 * i) 0) 3) (up_to (roster_count r) (λ i. i))
    && sound_roster n (roster_lines r)

unfoldable pub make_refusal : MakeCall → ℕ → ℕ
make_refusal c size =
    refusal
    ((1, not (table_length size))
    ∷ (2, not (valid_reading (layout_of size).weeks c.week c.second))
    ∷ (9, not (good_roster (slots_in size) c.roster))
    ∷ [])

-- the layout that the length has, that reading's place, running count 0, the roster in the order given, and free slots
unfoldable pub fresh_table : MakeCall → ℕ → Table
fresh_table c size =
    record {
      layout = layout_of size;
      clock = record { place = place_of c.week c.second; running = 0 };
      roster = roster_lines c.roster;
      slots = replicate (slots_in size) free;
    }

abbrev pub made_by : ℕ → MakeCall → List ℕ → Made
made_by zero c b = record { number = 0; table = table_bytes (fresh_table c (length b)) }
made_by (suc k) c b = record { number = suc k; table = b }

unfoldable pub make : MakeCall → List ℕ → Made
make c b = made_by (make_refusal c (length b)) c b

-- TICKING

unfoldable pub tick_refusal : TickCall → List ℕ → ℕ
tick_refusal c b = refusal ((1, not (sound_bytes b)) ∷ (2, not (valid_reading (layout_of (length b)).weeks c.week c.second)) ∷ [])

-- how many entries the call frees because they have run out: those that have at the moved count
unfoldable pub freed_by : Table → ℕ → ℕ
freed_by t place = count t.slots (slot_run_out (advance (cycle_in t) t.clock place).running)

abbrev pub ticked_by : ℕ → TickCall → List ℕ → Ticked
ticked_by zero c b =
    let at = place_of c.week c.second in record { number = 0; freed = freed_by (read_table b) at; table = table_bytes (moved_on (read_table b) at) }
ticked_by (suc k) c b = record { number = suc k; freed = 0; table = b }

unfoldable pub tick : TickCall → List ℕ → Ticked
tick c b = ticked_by (tick_refusal c b) c b

-- SERVING

unfoldable pub serve_refusal : ServeCall → List ℕ → ℕ
serve_refusal c b =
    let d = c.datagram in
    refusal
    ((1, not (sound_bytes b))
    ∷ (2, not (valid_reading (layout_of (length b)).weeks c.week c.second))
    ∷ (3, wrong_size d)
    ∷ (4, not (good_header d))
    ∷ (5, not (good_questions d (qdcount d)))
    ∷ (6, not (good_opt d (questions_end d)))
    ∷ (7, eqb (length (llq_options d)) 0)
    ∷ (8, ltb c.room (reply_length d) || ltb 1472 (reply_length d))
    ∷ [])

-- the table before option i: the clock moved, run-out entries freed, the options before it done in order
unfoldable pub table_before : ServeCall → Table → ℕ → Table
table_before c t zero = moved_on t (place_of c.week c.second)
table_before c t (suc i) = (serve_option c.sender c.random (question c.datagram i) (llq_option c.datagram i) (table_before c t i)).table

-- what the reply says of option i, which belongs to question i
unfoldable pub outcome_of : ServeCall → Table → ℕ → Outcome
outcome_of c t i = (serve_option c.sender c.random (question c.datagram i) (llq_option c.datagram i) (table_before c t i)).outcome

-- the table after all options; where the count and length test fails, none is done
unfoldable pub table_after : ServeCall → Table → Table
table_after c t = table_before c t (cond (matched c.datagram) (qdcount c.datagram) 0)

unfoldable pub outcomes : ServeCall → Table → List Outcome
outcomes c t = cond (matched c.datagram) (up_to (qdcount c.datagram) (outcome_of c t)) (mismatch ∷ [])

-- bytes beyond the reply's length keep what they held
abbrev pub served_by : ℕ → ServeCall → List ℕ → List ℕ → Answered
served_by zero c b reply =
    let d = c.datagram in
    record {
      number = 0;
      length = reply_length d;
      table = table_bytes (table_after c (read_table b));
      reply = reply_bytes d (outcomes c (read_table b)) ++ drop (reply_length d) reply;
    }
served_by (suc k) c b reply = record { number = suc k; length = 0; table = b; reply = reply }

unfoldable pub serve : ServeCall → List ℕ → List ℕ → Answered
serve c b reply = served_by (serve_refusal c b) c b reply
