-- What the cursor reads at a place, in the model's terms, and where it goes on. Assumes nothing.
use Rattle.std.specs.Prelude.{ℕ, ◌+◌, List, Bool, cond, ◌&&◌, length, get_or, eqb, leb, ltb, Option, Some, None}
use Rattle.model.specs.Numbers.{big_endian}
use Rattle.model.specs.Query.{name_at, good_question, question_end, opt_data, good_option, option_end}
use Rattle.wire.specs.Records.{header_record, option_record}
use Rattle.wire.specs.declared.Cursor.{Cursor}
use Rattle.wire.specs.declared.Header.{Header}
use Rattle.wire.specs.declared.LlqOption.{LlqOption}
use Rattle.wire.specs.declared.Label.{Label}
use Rattle.wire.specs.declared.Label.TheVariants as label
use Rattle.wire.specs.declared.QuestionRead.{QuestionRead}
use Rattle.wire.specs.declared.OptionRead.{OptionRead}

abbrev pub cursor : ℕ → Cursor
cursor at = record { at = at }

abbrev pub read_byte : List ℕ → ℕ → Option (ℕ × Cursor)
read_byte s at = cond (ltb at (length s)) (Some (get_or s at 0, cursor (at + 1))) None

abbrev pub read_number : List ℕ → ℕ → Option (ℕ × Cursor)
read_number s at = cond (leb (at + 2) (length s)) (Some (big_endian s at 2, cursor (at + 2))) None

abbrev pub read_header : List ℕ → ℕ → Header × Cursor
read_header s at = (header_record s at, cursor (at + 12))

-- a label's bytes may run past the end: then there is none after it
abbrev pub label_of : Option (ℕ × Cursor) → Option Label
label_of (Some (b, next)) = cond (eqb b 0) (Some (label.Last next)) (cond (ltb b 64) (Some (label.Label (cursor (next.at + b)))) None)
label_of None = None

abbrev pub read_label : List ℕ → ℕ → Option Label
read_label s at = label_of (read_byte s at)

-- a name of n bytes, of which there is one where n is 1 to 255
abbrev pub named : ℕ → ℕ → Option (ℕ × Cursor)
named at n = cond (leb 1 n && leb n 255) (Some (n, cursor (at + n))) None

abbrev pub read_name : List ℕ → ℕ → Option (ℕ × Cursor)
read_name s at = named at (name_at s at)

abbrev pub question_read : ℕ → ℕ → ℕ → ℕ → QuestionRead
question_read start len qtype qclass = record { start = start; len = len; qtype = qtype; qclass = qclass }

abbrev pub read_question : List ℕ → ℕ → Option (QuestionRead × Cursor)
read_question s at =
    cond (good_question s at)
    (Some (question_read at (name_at s at) (big_endian s (at + name_at s at) 2) (big_endian s (at + name_at s at + 2) 2), cursor (question_end s at)))
    None

-- good_opt of the model, but for the options
abbrev pub good_opt_record : List ℕ → ℕ → Bool
good_opt_record s at =
    leb (opt_data at) (length s) && eqb (get_or s at 0) 0 && eqb (big_endian s (at + 1) 2) 41 && eqb (get_or s (at + 6) 0) 0
    && eqb (opt_data at + big_endian s (at + 9) 2) (length s)

abbrev pub read_opt : List ℕ → ℕ → Option Cursor
read_opt s at = cond (good_opt_record s at) (Some (cursor (opt_data at))) None

abbrev pub option_read : ℕ → Cursor → ℕ → OptionRead
option_read code body size = record { code = code; «data» = body; size = size }

abbrev pub read_option : List ℕ → ℕ → Option (OptionRead × Cursor)
read_option s at =
    cond (good_option s at) (Some (option_read (big_endian s at 2) (cursor (at + 4)) (big_endian s (at + 2) 2), cursor (option_end s at))) None

-- the 18 bytes of an LLQ option's data
abbrev pub read_llq_option : List ℕ → ℕ → LlqOption × Cursor
read_llq_option s at = (option_record s at, cursor (at + 18))
