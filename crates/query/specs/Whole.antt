-- The whole query: the refusal's number, and what is read where there is none. Assumes nothing.
use Rattle.std.specs.Prelude.{ℕ, ◌+◌, ◌≤◌, ◌<◌, ◌≡◌, Bool, not, ◌&&◌, List, [], ◌∷◌, length, get_or, eqb, Result, Ok, Err, Some, is_some}
use Rattle.model.specs.Query.{wrong_size, message_number, flag_rd, qdcount, good_header, good_questions, questions_end, question, good_opt, llq_options, llq_option, matched}
use Rattle.model.specs.Calls.{refusal}
use Rattle.wire.specs.Records.{question_of, option_of}
use Rattle.wire.specs.declared.Question.{Question}
use Rattle.wire.specs.declared.LlqOption.{LlqOption}
use Rattle.query.specs.declared.Query.{Query}
use Rattle.query.specs.declared.Refusal.{Refusal}
use Rattle.query.specs.Parts.{number_of}

-- refusals 3 to 7, the part of the model's ladder that a datagram alone decides
unfoldable pub query_refusal : List ℕ → ℕ
query_refusal d =
    refusal
    ((3, wrong_size d)
    ∷ (4, not (good_header d))
    ∷ (5, not (good_questions d (qdcount d)))
    ∷ (6, not (good_opt d (questions_end d)))
    ∷ (7, eqb (length (llq_options d)) 0)
    ∷ [])

-- the count and length test
abbrev pub match_of : ℕ → ℕ → Bool → Bool
match_of count asked sized = eqb count asked && sized

-- what a query holds of a datagram that none of them refuses; an array's element is read by get_or, whatever its default
pub record QueryOf (d : List ℕ) (q : Query) : Type 0 where
  pub number : q.number.0 ≡ message_number d
  pub desired : q.desired ≡ flag_rd d
  pub count : q.count ≡ qdcount d
  pub at_least : 1 ≤ q.count
  pub at_most : q.count ≤ 8
  pub question : (i : ℕ) (e : Question) → i < q.count → question_of d (get_or q.questions i e) ≡ question d i
  pub placed : (i : ℕ) (e : Question) → i < q.count → (get_or q.questions i e).start + (get_or q.questions i e).len ≤ length d
  pub len : (i : ℕ) (e : Question) → i < q.count → (get_or q.questions i e).len ≤ 255
  pub end : q.end ≡ questions_end d
  pub from : 12 ≤ q.end
  pub within : q.end + 11 ≤ length d
  pub matched : is_some q.options ≡ matched d
  pub option : (os : List LlqOption) → q.options ≡ Some os → (i : ℕ) (e : LlqOption) → i < q.count → option_of (get_or os i e) ≡ llq_option d i

-- the query, or why there is none
abbrev pub Reads : List ℕ → Result Query Refusal → Type 0
Reads d (Ok q) = (query_refusal d ≡ 0) × QueryOf d q
Reads d (Err e) = number_of e ≡ query_refusal d
