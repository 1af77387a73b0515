-- What the code's question and option are in the model, and which header, question and option the readers make. Assumes nothing.
use Rattle.std.specs.Prelude.{ℕ, ◌+◌, ◌-◌, List, ◌++◌, map, length, get_or, replicate}
use Rattle.model.specs.Numbers.{big_endian, part}
use Rattle.model.specs.Names.{fold}
use Rattle.model.specs.Query as query
use Rattle.model.specs.Query.{name_at}
use Rattle.wire.specs.declared.Header.{Header}
use Rattle.wire.specs.declared.Question.{Question}
use Rattle.wire.specs.declared.LlqOption.{LlqOption}

-- the name is the len bytes from start, folded
abbrev pub question_of : List ℕ → Question → query.Question
question_of d q = record { name = map fold (part q.start q.len d); qtype = q.qtype; qclass = q.qclass }

abbrev pub option_of : LlqOption → query.LlqOption
option_of o = record { version = o.version; opcode = o.opcode; error = o.error; number = o.number.0; lease = o.lease }

-- the elements, and then d up to the size of an array
abbrev pub padded : {A : Type 0} → ℕ → A → List A → List A
padded n d xs = xs ++ replicate (n - length xs) d

-- the header at a place
abbrev pub header_record : List ℕ → ℕ → Header
header_record s at =
    record {
      number = record { 0 = big_endian s at 2 };
      flags = get_or s (at + 2) 0;
      qdcount = big_endian s (at + 4) 2;
      ancount = big_endian s (at + 6) 2;
      nscount = big_endian s (at + 8) 2;
      arcount = big_endian s (at + 10) 2;
    }

abbrev pub question_record : ℕ → ℕ → ℕ → ℕ → Question
question_record start len qtype qclass = record { start = start; len = len; qtype = qtype; qclass = qclass }

-- the question at a place
abbrev pub record_at : List ℕ → ℕ → Question
record_at d at = question_record at (name_at d at) (big_endian d (at + name_at d at) 2) (big_endian d (at + name_at d at + 2) 2)

-- the LLQ option at a place
abbrev pub option_record : List ℕ → ℕ → LlqOption
option_record s at =
    record {
      version = big_endian s at 2;
      opcode = big_endian s (at + 2) 2;
      error = big_endian s (at + 4) 2;
      number = record { 0 = big_endian s (at + 6) 8 };
      lease = big_endian s (at + 14) 4;
    }
