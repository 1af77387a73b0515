-- Document 01, "Reading a query": a datagram d read strictly left to right, header, questions, OPT record, options. Assumes nothing.
-- Each reader is total; what it gives counts only where the tests of refusals 3 to 7 have passed.
use Rattle.std.specs.Prelude.{ℕ, zero, suc, ◌+◌, ◌/◌, ◌%◌, Bool, false, cond, ◌&&◌, ◌||◌, List, [], ◌∷◌, map, length, get_or, drop, eqb, leb, ltb}
use Rattle.model.specs.Lists.{every, keep, up_to}
use Rattle.model.specs.Numbers.{big_endian, part}
use Rattle.model.specs.Names.{fold, name_size}

-- THE DATAGRAM: 12 to 1,472 bytes, else refusal 3
abbrev pub wrong_size : List ℕ → Bool
wrong_size d = ltb (length d) 12 || ltb 1472 (length d)

-- THE HEADER, RFC 1035 section 4.1.1: the message number (ID), 16 bits of flags, four counts
abbrev pub message_number : List ℕ → ℕ
message_number d = big_endian d 0 2

-- bits of the third byte: QR, OPCODE (4), AA, TC, RD
abbrev pub flag_qr : List ℕ → ℕ
flag_qr d = get_or d 2 0 / 128 % 2

abbrev pub flag_opcode : List ℕ → ℕ
flag_opcode d = get_or d 2 0 / 8 % 16

abbrev pub flag_tc : List ℕ → ℕ
flag_tc d = get_or d 2 0 / 2 % 2

abbrev pub flag_rd : List ℕ → ℕ
flag_rd d = get_or d 2 0 % 2

abbrev pub qdcount : List ℕ → ℕ
qdcount d = big_endian d 4 2

abbrev pub ancount : List ℕ → ℕ
ancount d = big_endian d 6 2

abbrev pub nscount : List ℕ → ℕ
nscount d = big_endian d 8 2

abbrev pub arcount : List ℕ → ℕ
arcount d = big_endian d 10 2

-- refusal 4 is given where this fails
unfoldable pub good_header : List ℕ → Bool
good_header d =
    eqb (flag_qr d) 0 && eqb (flag_opcode d) 0 && eqb (flag_tc d) 0 && (leb 1 (qdcount d) && leb (qdcount d) 8) && eqb (ancount d) 0 && eqb (nscount d) 0
    && eqb (arcount d) 1

-- QUESTIONS, RFC 1035 section 4.1.2: a name, a type and a class
pub record Question : Type 0 where
  -- wire bytes, folded
  pub name : List ℕ
  pub qtype : ℕ
  pub qclass : ℕ

-- how many bytes the name at a place takes, 0 where there is none
unfoldable pub name_at : List ℕ → ℕ → ℕ
name_at d at = name_size 0 0 (drop at d)

-- a question stands at a place: a name of at most 255 bytes (RFC 1035 section 2.3.4), and four bytes more
unfoldable pub good_question : List ℕ → ℕ → Bool
good_question d at = leb 1 (name_at d at) && leb (name_at d at) 255 && leb (at + name_at d at + 4) (length d)

unfoldable pub question_at : List ℕ → ℕ → Question
question_at d at =
    record { name = map fold (part at (name_at d at) d); qtype = big_endian d (at + name_at d at) 2; qclass = big_endian d (at + name_at d at + 2) 2 }

abbrev pub question_end : List ℕ → ℕ → ℕ
question_end d at = at + name_at d at + 4

-- where question i starts
unfoldable pub question_start : List ℕ → ℕ → ℕ
question_start d zero = 12
question_start d (suc i) = question_end d (question_start d i)

abbrev pub question : List ℕ → ℕ → Question
question d i = question_at d (question_start d i)

-- the first m questions are good; refusal 5 is given where those that QDCOUNT says are not
unfoldable pub good_questions : List ℕ → ℕ → Bool
good_questions d m = every (λ i. good_question d (question_start d i)) (up_to m (λ i. i))

-- where the questions end and the OPT record starts
abbrev pub questions_end : List ℕ → ℕ
questions_end d = question_start d (qdcount d)

-- THE OPT RECORD, RFC 6891 section 6.1.2: name 1, type 2, class 2, TTL 4, data length 2, data
-- Its TTL, section 6.1.3: extended RCODE 1, version 1, flags 2
-- An option in its data, section 6.1.2: code 2, length 2, and as many bytes
pub record EdnsOption : Type 0 where
  pub code : ℕ
  -- where its bytes start, and how many there are
  pub start : ℕ
  pub size : ℕ

-- a whole option stands at a place
unfoldable pub good_option : List ℕ → ℕ → Bool
good_option d at = leb (at + 4 + big_endian d (at + 2) 2) (length d)

unfoldable pub option_at : List ℕ → ℕ → EdnsOption
option_at d at = record { code = big_endian d at 2; start = at + 4; size = big_endian d (at + 2) 2 }

abbrev pub option_end : List ℕ → ℕ → ℕ
option_end d at = at + 4 + big_endian d (at + 2) 2

-- whole options, one after the other from a place, fill the datagram to its end; k is more than there can be of them
unfoldable pub options_fill : ℕ → List ℕ → ℕ → Bool
options_fill zero d at = false
options_fill (suc k) d at = eqb at (length d) || (good_option d at && options_fill k d (option_end d at))

-- the whole options from a place on
unfoldable pub options_from : ℕ → List ℕ → ℕ → List EdnsOption
options_from zero d at = []
options_from (suc k) d at = cond (good_option d at) (option_at d at ∷ options_from k d (option_end d at)) []

-- the data of the OPT record that starts at a place
abbrev pub opt_data : ℕ → ℕ
opt_data at = at + 11

-- refusal 6 is given where this fails of the place where the questions end
unfoldable pub good_opt : List ℕ → ℕ → Bool
good_opt d at =
    leb (opt_data at) (length d) && eqb (get_or d at 0) 0 && eqb (big_endian d (at + 1) 2) 41 && eqb (get_or d (at + 6) 0) 0
    && eqb (opt_data at + big_endian d (at + 9) 2) (length d) && options_fill (suc (length d)) d (opt_data at)

-- LLQ OPTIONS: those of code 1, RFC 8764 section 3.1
unfoldable pub llq_options : List ℕ → List EdnsOption
llq_options d = keep (λ o. eqb o.code 1) (options_from (suc (length d)) d (opt_data (questions_end d)))

-- an LLQ option's 18 bytes, RFC 8764 section 3.2: version 2, opcode 2, error 2, LLQ number (LLQ-ID) 8, lease 4
pub record LlqOption : Type 0 where
  pub version : ℕ
  pub opcode : ℕ
  pub error : ℕ
  pub number : ℕ
  pub lease : ℕ

unfoldable pub llq_at : List ℕ → ℕ → LlqOption
llq_at d at =
    record {
      version = big_endian d at 2;
      opcode = big_endian d (at + 2) 2;
      error = big_endian d (at + 4) 2;
      number = big_endian d (at + 6) 8;
      lease = big_endian d (at + 14) 4;
    }

-- option i of code 1
abbrev pub llq_option : List ℕ → ℕ → LlqOption
llq_option d i = llq_at d (get_or (llq_options d) i (record { code = 0; start = 0; size = 0 })).start

-- the count and length test: as many as the questions (RFC 8764 sections 5.2.1 and 7.1), each of 18 bytes (section 3.2)
unfoldable pub matched : List ℕ → Bool
matched d = eqb (length (llq_options d)) (qdcount d) && every (λ o. eqb o.size 18) (llq_options d)
