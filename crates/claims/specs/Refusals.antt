-- Claim 1: each number is given exactly if its condition holds and none of a lower number that the call can give. Assumes nothing.
-- The conditions are spelled out clause by clause, apart from the model's reader and its ladder, but for soundness (1), which `SoundRules` and
-- `TableLayout` spell out, and, in 8, the count and length test, which `Reading` does.
use Rattle.std.specs.Prelude.{ℕ, zero, suc, ◌+◌, ◌*◌, ◌/◌, ◌%◌, ◌≤◌, ◌<◌, ◌≡◌, cond, List, ◌⊎◌, ◌≢◌, length, get_or}
use Rattle.model.specs.Numbers.{Bytes, part}
use Rattle.model.specs.Query.{matched}
use Rattle.model.specs.Sound.{SoundBytes}
use Rattle.model.specs.Calls.{MakeCall, TickCall, ServeCall}
use Rattle.model.specs.Meets.{Server}
use Rattle.claims.specs.Roster.{kind_at, share_at, limit_at}
use Rattle.claims.specs.Lengths.{last_week, slots_for}
use Rattle.claims.specs.Events.{MakeInRange, TickInRange, ServeInRange}

-- number x is k where the condition holds, and otherwise as the rest says
abbrev pub Lowest : ℕ → Type 0 → (ℕ → Type 0) → ℕ → Type 0
Lowest k P rest x = (P × (x ≡ k)) ⊎ ((P → ⊥) × rest x)

-- no condition is left: done
abbrev pub Done : ℕ → Type 0
Done x = x ≡ 0

-- 1: TABLE UNSOUND: these are not the bytes of a sound table
abbrev pub Unsound : List ℕ → Type 0
Unsound b = SoundBytes b → ⊥

-- 1, making: LENGTH WRONG: that of no table of 1 to 64 slots, with weeks of ten bits or of thirteen
abbrev pub WrongLength : ℕ → Type 0
WrongLength size = (n : ℕ) → 1 ≤ n → n ≤ 64 → (size ≢ 313 + 320 * n) × (size ≢ 317 + 320 * n)

-- 2: WEEK OR SECOND TOO LARGE, by the last week that the table's length allows
pub data ReadingFault (last week second : ℕ) : Type 0 where
  week_too_large : last < week → ReadingFault last week second
  second_too_large : 604799 < second → ReadingFault last week second

-- 3: DATAGRAM UNDER 12 OR OVER 1,472 BYTES
pub data SizeFault (d : List ℕ) : Type 0 where
  under : length d < 12 → SizeFault d
  over : 1472 < length d → SizeFault d

-- a number of two bytes
abbrev pub two_bytes : List ℕ → ℕ → ℕ
two_bytes d at = get_or d at 0 * 256 + get_or d (at + 1) 0

-- 4: HEADER
pub data HeaderFault (d : List ℕ) : Type 0 where
  not_query : 128 ≤ get_or d 2 0 → HeaderFault d
  other_opcode : get_or d 2 0 / 8 % 16 ≢ 0 → HeaderFault d
  truncated : get_or d 2 0 / 2 % 2 ≢ 0 → HeaderFault d
  no_question : two_bytes d 4 < 1 → HeaderFault d
  many_questions : 8 < two_bytes d 4 → HeaderFault d
  has_answers : two_bytes d 6 ≢ 0 → HeaderFault d
  has_authorities : two_bytes d 8 ≢ 0 → HeaderFault d
  not_one_additional : two_bytes d 10 ≢ 1 → HeaderFault d

-- 5: QUESTIONS
-- a label of the name that starts at p starts at q: the first, or behind one of 1 to 63 bytes
pub data Label (d : List ℕ) (p : ℕ) : ℕ → Type 0 where
  first : Label d p p
  next : (q r : ℕ) → Label d p q → q < length d → 1 ≤ get_or d q 0 → get_or d q 0 < 64 → r ≡ q + 1 + get_or d q 0 → Label d p r

-- the name that starts at p ends with the zero byte before e
pub record NameEnds (d : List ℕ) (p e : ℕ) : Type 0 where
  pub last : ℕ
  pub label : Label d p last
  pub inside : last < length d
  pub root : get_or d last 0 ≡ 0
  pub end : e ≡ last + 1

-- question i starts at p: the first at byte 12, each other behind the name, type and class of the one before
pub data Starts (d : List ℕ) : ℕ → ℕ → Type 0 where
  start : Starts d 0 12
  after : (i p e r : ℕ) → Starts d i p → NameEnds d p e → r ≡ e + 4 → Starts d (suc i) r

pub data QuestionFault (d : List ℕ) : Type 0 where
  -- a question runs past the end, in its name
  name_runs_out : (i p q : ℕ) → i < two_bytes d 4 → Starts d i p → Label d p q → length d ≤ q → QuestionFault d
  -- or behind it
  type_runs_out : (i p e : ℕ) → i < two_bytes d 4 → Starts d i p → NameEnds d p e → length d < e + 4 → QuestionFault d
  -- it has a label byte of 64 or more
  label_too_large : (i p q : ℕ) → i < two_bytes d 4 → Starts d i p → Label d p q → q < length d → 64 ≤ get_or d q 0 → QuestionFault d
  -- or a name over 255 bytes
  name_too_long : (i p e : ℕ) → i < two_bytes d 4 → Starts d i p → NameEnds d p e → 255 + p < e → QuestionFault d

-- 6: OPT
-- an option starts at q in data that starts at p: the first, or behind a whole one
pub data OptionStarts (d : List ℕ) (p : ℕ) : ℕ → Type 0 where
  first : OptionStarts d p p
  next : (q r : ℕ) → OptionStarts d p q → r ≡ q + 4 + two_bytes d (q + 2) → r ≤ length d → OptionStarts d p r

-- the OPT record behind the questions, at place `at`
pub data OptFault (d : List ℕ) (at : ℕ) : Type 0 where
  too_short : length d < at + 11 → OptFault d at
  not_root : get_or d at 0 ≢ 0 → OptFault d at
  not_opt : two_bytes d (at + 1) ≢ 41 → OptFault d at
  other_version : get_or d (at + 6) 0 ≢ 0 → OptFault d at
  data_not_to_end : at + 11 + two_bytes d (at + 9) ≢ length d → OptFault d at
  -- an option that does not fit what is left
  options_not_filling : (q : ℕ) → OptionStarts d (at + 11) q → q < length d → length d < q + 4 + two_bytes d (q + 2) → OptFault d at

-- 7: NO OPTION OF CODE 1
abbrev pub NoLlqOption : List ℕ → ℕ → Type 0
NoLlqOption d at = (q : ℕ) → OptionStarts d (at + 11) q → q < length d → two_bytes d q ≢ 1

-- of the place where the questions end
abbrev pub BehindQuestions : List ℕ → (ℕ → Type 0) → Type 0
BehindQuestions d P = (at : ℕ) × (Starts d (two_bytes d 4) at × P at)

-- 8: REPLY LONGER THAN THE LENT BUFFER OR THAN 1,472
-- 12 + questions + 11 + 22 for each option, of a datagram whose questions end at place `at`: as many options as questions, or one where the count
-- and length test fails
abbrev pub length_of : List ℕ → ℕ → ℕ
length_of d at = at + 11 + 22 * cond (matched d) (two_bytes d 4) 1

pub data ReplyFault (d : List ℕ) (room at : ℕ) : Type 0 where
  over_buffer : room < length_of d at → ReplyFault d room at
  over_limit : 1472 < length_of d at → ReplyFault d room at

-- 9: ROSTER, of a table of n slots
-- the shares of the first m records
abbrev pub share_total : List ℕ → ℕ → ℕ
share_total r zero = 0
share_total r (suc m) = share_total r m + share_at r m

pub data RosterFault (n : ℕ) (r : List ℕ) : Type 0 where
  not_whole : ((m : ℕ) → length r ≢ 19 * m) → RosterFault n r
  too_many : 19 * 16 < length r → RosterFault n r
  other_kind : (i : ℕ) → 19 * i < length r → kind_at r i ≢ 3 → RosterFault n r
  share_over_limit : (i : ℕ) → 19 * i < length r → limit_at r i < share_at r i → RosterFault n r
  limit_zero : (i : ℕ) → 19 * i < length r → limit_at r i < 1 → RosterFault n r
  limit_over : (i : ℕ) → 19 * i < length r → 64 < limit_at r i → RosterFault n r
  listed_twice : (i j : ℕ) → i < j → 19 * j < length r → part (19 * i + 1) 16 r ≡ part (19 * j + 1) 16 r → RosterFault n r
  shares_over : (m : ℕ) → length r ≡ 19 * m → n < share_total r m → RosterFault n r

-- THE THREE LADDERS

abbrev pub MakeNumber : MakeCall → ℕ → ℕ → Type 0
MakeNumber c size =
    Lowest 1 (WrongLength size) (Lowest 2 (ReadingFault (last_week size) c.week c.second) (Lowest 9 (RosterFault (slots_for size) c.roster) Done))

abbrev pub TickNumber : TickCall → List ℕ → ℕ → Type 0
TickNumber c b = Lowest 1 (Unsound b) (Lowest 2 (ReadingFault (last_week (length b)) c.week c.second) Done)

abbrev pub ServeNumber : ServeCall → List ℕ → ℕ → Type 0
ServeNumber c b =
    Lowest 1 (Unsound b)
    (Lowest 2 (ReadingFault (last_week (length b)) c.week c.second)
    (Lowest 3 (SizeFault c.datagram)
    (Lowest 4 (HeaderFault c.datagram)
    (Lowest 5 (QuestionFault c.datagram)
    (Lowest 6 (BehindQuestions c.datagram (OptFault c.datagram))
    (Lowest 7 (BehindQuestions c.datagram (NoLlqOption c.datagram))
    (Lowest 8 (BehindQuestions c.datagram (ReplyFault c.datagram c.room))
    Done)))))))

-- THE CLAIM, with what a refusal leaves
pub record Refusals (s : Server) : Type 0 where
  pub make_number : (c : MakeCall) (b : List ℕ) → MakeInRange c → Bytes b → MakeNumber c (length b) (s.make c b).number
  pub tick_number : (c : TickCall) (b : List ℕ) → TickInRange c → Bytes b → TickNumber c b (s.tick c b).number
  pub serve_number : (c : ServeCall) (b lent : List ℕ) → ServeInRange c → Bytes b → c.room ≡ length lent → ServeNumber c b (s.serve c b lent).number
  -- a refusal changes no byte; its count and its length are 0
  pub make_refused : (c : MakeCall) (b : List ℕ) → (s.make c b).number ≢ 0 → (s.make c b).table ≡ b
  pub tick_refused : (c : TickCall) (b : List ℕ) → (s.tick c b).number ≢ 0 → ((s.tick c b).table ≡ b) × ((s.tick c b).freed ≡ 0)
  pub serve_refused : (c : ServeCall) (b lent : List ℕ) → (s.serve c b lent).number ≢ 0
      → ((s.serve c b lent).table ≡ b) × ((s.serve c b lent).reply ≡ lent) × ((s.serve c b lent).length ≡ 0)
