-- What serving does once the clock is moved and run-out entries are free, from the table as it then stands. Assumes nothing.
use Rattle.std.specs.Prelude.{ℕ, zero, suc, ◌+◌, ◌≤◌, ◌<◌, ◌≡◌, Bool, cond, List, [], ◌∷◌, ◌++◌, length, drop, get_or}
use Rattle.model.specs.Lists.{up_to}
use Rattle.model.specs.Query.{qdcount, questions_end, matched, question, llq_option}
use Rattle.model.specs.Table.{Table, table_bytes, read_table}
use Rattle.model.specs.Serve.{Sender, Outcome, serve_option}
use Rattle.wire.specs.Records.{question_of, option_of}
use Rattle.wire.specs.declared.Question.{Question}
use Rattle.wire.specs.declared.LlqOption.{LlqOption}
use Rattle.model.specs.Reply.{header_bytes, question_bytes, opt_bytes, reply_bytes, reply_length, mismatch}

-- how many questions a query has, and where they end
pub record Measures (d : List ℕ) (n e : ℕ) : Type 0 where
  pub count : n ≡ qdcount d
  pub at_most : n ≤ 8
  pub end : e ≡ questions_end d
  pub from : 12 ≤ e
  pub within : e + 11 ≤ length d

-- whether the count and length test passes
abbrev pub Matches : List ℕ → Bool → Type 0
Matches d m = m ≡ matched d

-- the first n of an array are the query's questions, each with its name in the datagram
abbrev pub QuestionsOf : List ℕ → ℕ → List Question → Type 0
QuestionsOf d n all =
    (i : ℕ) (e : Question) → i < n
    → (question_of d (get_or all i e) ≡ question d i) × ((get_or all i e).start + (get_or all i e).len ≤ length d) × ((get_or all i e).len ≤ 255)

-- the first n of an array are the query's options; an element is read by get_or, whatever its default
abbrev pub OptionsOf : List ℕ → ℕ → List LlqOption → Type 0
OptionsOf d n all = (i : ℕ) (e : LlqOption) → i < n → option_of (get_or all i e) ≡ llq_option d i

-- the table after the first i options
unfoldable pub table_from : Sender → ℕ → List ℕ → Table → ℕ → Table
table_from s r d t zero = t
table_from s r d t (suc i) = (serve_option s r (question d i) (llq_option d i) (table_from s r d t i)).table

-- what the reply says of option i
unfoldable pub outcome_from : Sender → ℕ → List ℕ → Table → ℕ → Outcome
outcome_from s r d t i = (serve_option s r (question d i) (llq_option d i) (table_from s r d t i)).outcome

-- the reply before its k options: header, questions, OPT record
unfoldable pub before_options : List ℕ → ℕ → List ℕ
before_options d k = header_bytes d ++ (question_bytes d ++ opt_bytes k)

-- all options done; none where the count and length test fails
abbrev pub table_done : Sender → ℕ → List ℕ → Table → Table
table_done s r d t = table_from s r d t (cond (matched d) (qdcount d) 0)

abbrev pub outcomes_done : Sender → ℕ → List ℕ → Table → List Outcome
outcomes_done s r d t = cond (matched d) (up_to (qdcount d) (outcome_from s r d t)) (mismatch ∷ [])

-- the bytes left in the table and in the reply buffer
pub record Answers (s : Sender) (r : ℕ) (d before after lent left : List ℕ) : Type 0 where
  pub table : after ≡ table_bytes (table_done s r d (read_table before))
  pub reply : left ≡ reply_bytes d (outcomes_done s r d (read_table before)) ++ drop (reply_length d) lent
