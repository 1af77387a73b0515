-- Claim 8: what a query holds, told by the datagram's bytes: QDCOUNT, where the questions end, question i, LLQ option i, the count and length
-- test. Assumes nothing.
use Rattle.std.specs.Prelude.{ℕ, ◌+◌, ◌≤◌, ◌<◌, ◌≡◌, true, List, [], ◌∷◌, ◌≢◌, length, get_or}
use Rattle.model.specs.Numbers.{big_endian}
use Rattle.model.specs.Query.{Question, LlqOption, qdcount, questions_end, question, llq_option, matched}
use Rattle.claims.specs.Refusals.{two_bytes, NameEnds, Starts, QuestionFault, OptFault}
use Rattle.claims.specs.Exactly.{Exactly}

-- y is x with A to Z folded to a to z
pub data Folded (x y : ℕ) : Type 0 where
  letter : 65 ≤ x → x ≤ 90 → y ≡ x + 32 → Folded x y
  under : x < 65 → y ≡ x → Folded x y
  over : 90 < x → y ≡ x → Folded x y

-- a question whose name stands from p to e: each byte folded, then type and class
pub record QuestionRead (d : List ℕ) (p e : ℕ) (q : Question) : Type 0 where
  pub size : p + length q.name ≡ e
  pub name : (j : ℕ) → p + j < e → Folded (get_or d (p + j) 0) (get_or q.name j 0)
  pub qtype : q.qtype ≡ two_bytes d e
  pub qclass : q.qclass ≡ two_bytes d (e + 2)

-- the places of the options of code 1, in order, where whole options stand from q to the datagram's end
pub data LlqPlaces (d : List ℕ) : ℕ → List ℕ → Type 0 where
  end : (q : ℕ) → q ≡ length d → LlqPlaces d q []
  other : (q : ℕ) (ps : List ℕ) → q < length d → two_bytes d q ≢ 1 → LlqPlaces d (q + 4 + two_bytes d (q + 2)) ps → LlqPlaces d q ps
  llq : (q : ℕ) (ps : List ℕ) → q < length d → two_bytes d q ≡ 1 → LlqPlaces d (q + 4 + two_bytes d (q + 2)) ps → LlqPlaces d q (q ∷ ps)

-- an option at a place: code 2, length 2, version 2, opcode 2, error 2, LLQ number 8, lease 4
pub record OptionRead (d : List ℕ) (at : ℕ) (o : LlqOption) : Type 0 where
  pub version : o.version ≡ two_bytes d (at + 4)
  pub opcode : o.opcode ≡ two_bytes d (at + 6)
  pub error : o.error ≡ two_bytes d (at + 8)
  pub number : o.number ≡ big_endian d (at + 10) 8
  pub lease : o.lease ≡ big_endian d (at + 18) 4

-- the count and length test: as many as the questions, each of length 18
pub record Matching (d : List ℕ) (places : List ℕ) : Type 0 where
  pub count : length places ≡ two_bytes d 4
  pub sizes : (i : ℕ) → i < length places → two_bytes d (get_or places i 0 + 2) ≡ 18

-- A DATAGRAM whose OPT record is at place `at`
pub record QueryRead (d : List ℕ) (at : ℕ) : Type 0 where
  pub count : qdcount d ≡ two_bytes d 4
  pub behind : questions_end d ≡ at
  pub questions : (i p e : ℕ) → i < two_bytes d 4 → Starts d i p → NameEnds d p e → QuestionRead d p e (question d i)
  pub places : List ℕ
  pub are : LlqPlaces d (at + 11) places
  pub options : (i : ℕ) → i < length places → OptionRead d (get_or places i 0) (llq_option d i)
  pub matching : Exactly (matched d ≡ true) (Matching d places)

-- THE CLAIM, of every datagram that neither 5 nor 6 refuses
abbrev pub ReadsQueries : Type 0
ReadsQueries = (d : List ℕ) (at : ℕ) → (QuestionFault d → ⊥) → Starts d (two_bytes d 4) at → (OptFault d at → ⊥) → QueryRead d at
