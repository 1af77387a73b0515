-- What the readers of a query's parts give, in the model's terms. Assumes nothing.
use Rattle.std.specs.Prelude.{ℕ, suc, ◌/◌, ◌%◌, ◌≤◌, ◌≡◌, Bool, true, false, not, ◌&&◌, List, [], ◌∷◌, map, length, take, eqb, leb, Result, Ok, Err}
use Rattle.model.specs.Lists.{every, keep, up_to}
use Rattle.model.specs.Query.{wrong_size, message_number, flag_rd, qdcount, good_header, question_start, good_questions, EdnsOption, options_fill, options_from, opt_data}
use Rattle.model.specs.Calls.{refusal}
use Rattle.wire.specs.Records.{padded, record_at, option_record}
use Rattle.wire.specs.Read.{good_opt_record}
use Rattle.wire.specs.declared.Cursor.{Cursor}
use Rattle.wire.specs.declared.Header.{Header}
use Rattle.wire.specs.declared.Question.{Question}
use Rattle.wire.specs.declared.LlqOption.{LlqOption}
use Rattle.query.specs.declared.Refusal.{Refusal}
use Rattle.query.specs.declared.Refusal.TheVariants as refused
use Rattle.query.specs.declared.QueryHeader.{QueryHeader}
use Rattle.query.specs.declared.Questions.{Questions}
use Rattle.query.specs.declared.Options.{Options}

-- THE HEADER

-- good_header of the model, of the fields
abbrev pub good_fields : Header → Bool
good_fields h =
    eqb (h.flags / 128 % 2) 0 && eqb (h.flags / 8 % 16) 0 && eqb (h.flags / 2 % 2) 0 && (leb 1 h.qdcount && leb h.qdcount 8)
    && eqb h.ancount 0 && eqb h.nscount 0 && eqb h.arcount 1

-- refusals 3 and 4
unfoldable pub header_refusal : List ℕ → ℕ
header_refusal d = refusal ((3, wrong_size d) ∷ (4, not (good_header d)) ∷ [])

-- document 01's number of a refusal
abbrev pub number_of : Refusal → ℕ
number_of refused.Length = 3
number_of refused.Header = 4
number_of refused.Questions = 5
number_of refused.Opt = 6
number_of refused.NoLlq = 7

-- the fields, and questions that can be read
pub record QueryHeaderOf (d : List ℕ) (h : QueryHeader) : Type 0 where
  pub number : h.number.0 ≡ message_number d
  pub desired : h.desired ≡ flag_rd d
  pub count : h.count ≡ qdcount d
  pub at_least : 1 ≤ h.count
  pub at_most : h.count ≤ 8
  pub first : h.first.at ≡ 12
  pub fits : length d ≤ 1472

abbrev pub ReadsHeader : List ℕ → Result QueryHeader Refusal → Type 0
ReadsHeader d (Ok h) = (header_refusal d ≡ 0) × QueryHeaderOf d h
ReadsHeader d (Err e) = number_of e ≡ header_refusal d

-- QUESTIONS

abbrev pub blank_question : Question
blank_question = record { start = 0; len = 0; qtype = 0; qclass = 0 }

-- question i
abbrev pub record_of : List ℕ → ℕ → Question
record_of d i = record_at d (question_start d i)

-- the first m questions in an array of eight
abbrev pub first_questions : List ℕ → ℕ → List Question
first_questions d m = padded 8 blank_question (up_to m (record_of d))

pub record QuestionsOf (d : List ℕ) (m : ℕ) (q : Questions) : Type 0 where
  pub next : 1 ≤ m → q.next.at ≡ question_start d m
  pub all : 1 ≤ m → q.all ≡ first_questions d m

abbrev pub ReadsQuestions : List ℕ → ℕ → Result Questions Refusal → Type 0
ReadsQuestions d m (Ok q) = (good_questions d m ≡ true) × QuestionsOf d m q
ReadsQuestions d m (Err e) = (good_questions d m ≡ false) × (e ≡ refused.Questions)

-- THE OPT RECORD

abbrev pub ReadsOpt : List ℕ → ℕ → Result Cursor Refusal → Type 0
ReadsOpt d at (Ok first) = (good_opt_record d at ≡ true) × (first.at ≡ opt_data at) × (first.at ≤ length d)
ReadsOpt d at (Err e) = (good_opt_record d at ≡ false) × (e ≡ refused.Opt)

-- OPTIONS

abbrev pub blank_option : LlqOption
blank_option = record { version = 0; opcode = 0; error = 0; number = record { 0 = 0 }; lease = 0 }

abbrev pub is_llq : EdnsOption → Bool
is_llq o = eqb o.code 1

abbrev pub is_sized : EdnsOption → Bool
is_sized o = eqb o.size 18

-- the options of code 1 from a place
abbrev pub llq_from : List ℕ → ℕ → List EdnsOption
llq_from d at = keep is_llq (options_from (suc (length d)) d at)

-- the first eight of them by value
abbrev pub first_eight : List ℕ → List EdnsOption → List LlqOption
first_eight d os = padded 8 blank_option (take 8 (map (λ o. option_record d o.start) os))

pub record OptionsOf (d : List ℕ) (at : ℕ) (o : Options) : Type 0 where
  pub count : o.count ≡ length (llq_from d at)
  pub sized : o.sized ≡ every is_sized (llq_from d at)
  pub all : o.sized ≡ true → o.all ≡ first_eight d (llq_from d at)

-- they fill the datagram, or not
abbrev pub ReadsOptions : List ℕ → ℕ → Result Options Refusal → Type 0
ReadsOptions d at (Ok o) = (options_fill (suc (length d)) d at ≡ true) × OptionsOf d at o
ReadsOptions d at (Err e) = (options_fill (suc (length d)) d at ≡ false) × (e ≡ refused.Opt)
