-- Claim 7: an answered datagram's reply, place by place. Assumes nothing.
use Rattle.std.specs.Prelude.{ℕ, ◌+◌, ◌-◌, ◌*◌, ◌%◌, ◌<◌, ◌≤◌, ◌≡◌, true, false, cond, List, length, get_or, drop}
use Rattle.model.specs.Numbers.{big_endian}
use Rattle.model.specs.Query.{qdcount, questions_end, matched, llq_option}
use Rattle.model.specs.Table.{read_table}
use Rattle.model.specs.Sound.{SoundBytes}
use Rattle.model.specs.Calls.{ServeCall, outcome_of}
use Rattle.model.specs.Meets.{Server}
use Rattle.claims.specs.Events.{ServeInRange}

-- how many options the reply has: QDCOUNT, or 1 where the count and length test fails
abbrev pub option_count : List ℕ → ℕ
option_count d = cond (matched d) (qdcount d) 1

-- where option i of the reply to a datagram starts
abbrev pub option_place : List ℕ → ℕ → ℕ
option_place d i = questions_end d + 11 + 22 * i

-- the 22 bytes of an option: code 1, length 18, version 1, then the opcode sent, the error code, the LLQ number and the lease in seconds
pub record OptionSays (reply : List ℕ) (at sent code llq seconds : ℕ) : Type 0 where
  pub option : big_endian reply at 2 ≡ 1
  pub size : big_endian reply (at + 2) 2 ≡ 18
  pub version : big_endian reply (at + 4) 2 ≡ 1
  pub opcode : big_endian reply (at + 6) 2 ≡ sent
  pub error : big_endian reply (at + 8) 2 ≡ code
  pub number : big_endian reply (at + 10) 8 ≡ llq
  pub lease : big_endian reply (at + 18) 4 ≡ seconds

-- THE REPLY of k bytes to a call on a table of bytes b, in the buffer that was lent and is left as reply
pub record Reply (c : ServeCall) (b lent reply : List ℕ) (k : ℕ) : Type 0 where
  -- 12 + questions + 11 + 22 for each option; it fits the buffer and 1,472 bytes
  pub size : k ≡ 12 + (questions_end c.datagram - 12) + 11 + 22 * option_count c.datagram
  pub fits : k ≤ length lent
  pub most : k ≤ 1472
  -- each element is a byte
  pub octets : (i : ℕ) → i < k → get_or reply i 0 < 256
  -- the header: the message number repeated
  pub number0 : get_or reply 0 0 ≡ get_or c.datagram 0 0
  pub number1 : get_or reply 1 0 ≡ get_or c.datagram 1 0
  -- flags: 0x84 plus the RD bit, the last of the datagram's third byte; 0
  pub flags2 : get_or reply 2 0 ≡ 132 + get_or c.datagram 2 0 % 2
  pub flags3 : get_or reply 3 0 ≡ 0
  -- QDCOUNT repeated, ANCOUNT 0, NSCOUNT 0, ARCOUNT 1
  pub qdcount4 : get_or reply 4 0 ≡ get_or c.datagram 4 0
  pub qdcount5 : get_or reply 5 0 ≡ get_or c.datagram 5 0
  pub ancount6 : get_or reply 6 0 ≡ 0
  pub ancount7 : get_or reply 7 0 ≡ 0
  pub nscount8 : get_or reply 8 0 ≡ 0
  pub nscount9 : get_or reply 9 0 ≡ 0
  pub arcount10 : get_or reply 10 0 ≡ 0
  pub arcount11 : get_or reply 11 0 ≡ 1
  -- the questions as received
  pub questions : (i : ℕ) → 12 ≤ i → i < questions_end c.datagram → get_or reply i 0 ≡ get_or c.datagram i 0
  -- the OPT record: root, type 41, class 1,472 (0x05C0), TTL 0, and the length of the options
  pub opt_name : get_or reply (questions_end c.datagram) 0 ≡ 0
  pub opt_type : big_endian reply (questions_end c.datagram + 1) 2 ≡ 41
  pub opt_class : big_endian reply (questions_end c.datagram + 3) 2 ≡ 1472
  pub opt_ttl : big_endian reply (questions_end c.datagram + 5) 4 ≡ 0
  pub opt_data : big_endian reply (questions_end c.datagram + 9) 2 ≡ 22 * option_count c.datagram
  -- option i: the opcode sent, and what option i on question i gives in the table that the options before it left
  pub options : matched c.datagram ≡ true → (i : ℕ) → i < qdcount c.datagram
      → OptionSays reply (option_place c.datagram i) (llq_option c.datagram i).opcode (outcome_of c (read_table b) i).error
      (outcome_of c (read_table b) i).number (outcome_of c (read_table b) i).lease
  -- where the count and length test fails, one option: opcode 1, error 3, number 0, lease 0
  pub mismatch : matched c.datagram ≡ false → OptionSays reply (option_place c.datagram 0) 1 3 0 0
  -- bytes past the reply are as they were, and the buffer keeps its length
  pub beyond : drop k reply ≡ drop k lent
  pub buffer : length reply ≡ length lent

-- THE CLAIM, of every sound table, every call that the C types can hold and every reply buffer
abbrev pub ReplyClaim : Server → Type 0
ReplyClaim s =
    (b lent : List ℕ) (c : ServeCall)
    → SoundBytes b
    → ServeInRange c
    → c.room ≡ length lent
    → (s.serve c b lent).number ≡ 0
    → Reply c b lent (s.serve c b lent).reply (s.serve c b lent).length
