-- Document 01's reply, byte for byte. Assumes nothing.
use Rattle.std.specs.Prelude.{ℕ, ◌+◌, ◌-◌, ◌*◌, cond, List, [], ◌∷◌, ◌++◌, length}
use Rattle.model.specs.Lists.{flat}
use Rattle.model.specs.Numbers.{encode, part}
use Rattle.model.specs.Query.{message_number, flag_rd, qdcount, questions_end, matched}
use Rattle.model.specs.Serve.{Outcome, format_err}

-- RFC 1035 section 4.1.1: message number repeated; 0x84 (QR and AA) plus the RD bit; 0; QDCOUNT repeated, 0, 0, 1
unfoldable pub header_bytes : List ℕ → List ℕ
header_bytes d = encode ((2, message_number d) ∷ (1, 132 + flag_rd d) ∷ (1, 0) ∷ (2, qdcount d) ∷ (2, 0) ∷ (2, 0) ∷ (2, 1) ∷ [])

-- questions as received, RFC 8764 section 5.2.2
abbrev pub question_bytes : List ℕ → List ℕ
question_bytes d = part 12 (questions_end d - 12) d

-- OPT, RFC 6891 section 6.1.2: root, type 41, class 1,472, TTL 0, and the length of k options
unfoldable pub opt_bytes : ℕ → List ℕ
opt_bytes k = encode ((1, 0) ∷ (2, 41) ∷ (2, 1472) ∷ (4, 0) ∷ (2, 22 * k) ∷ [])

-- RFC 8764 section 3.2: code 1, length 18, version 1, the opcode sent, error, LLQ number, lease
unfoldable pub option_bytes : Outcome → List ℕ
option_bytes o = encode ((2, 1) ∷ (2, 18) ∷ (2, 1) ∷ (2, o.opcode) ∷ (2, o.error) ∷ (8, o.number) ∷ (4, o.lease) ∷ [])

unfoldable pub reply_bytes : List ℕ → List Outcome → List ℕ
reply_bytes d os = header_bytes d ++ (question_bytes d ++ (opt_bytes (length os) ++ flat option_bytes os))

-- where the count and length test fails, one option: opcode 1, error 3, number 0, lease 0
abbrev pub mismatch : Outcome
mismatch = record { opcode = 1; error = format_err; number = 0; lease = 0 }

-- how many options the reply has
unfoldable pub reply_options : List ℕ → ℕ
reply_options d = cond (matched d) (qdcount d) 1

-- 12 + questions + 11 + 22 for each option
abbrev pub reply_length : List ℕ → ℕ
reply_length d = 12 + (questions_end d - 12) + 11 + 22 * reply_options d
