-- Laws of the questions that a loop reads, one after the other. Assumes nothing.
use Prim.Native.Nat.{ℕ, zero, suc, ◌+◌, ◌≤◌, ◌<◌}
use mathlib.Core.Path.{◌≡◌, refl, sym, ap, ◌∙◌}
use mathlib.Core.List.{List}
use mathlib.Core.Bool.{true, false, ◌&&◌}
use mathlib.Core.Logic.{⊎_elim}
use native.Mathlib.Omega.{arith}
use native.Mathlib.Numerals.{add-one}
use lib.ListN.{length, get_or, set, replicate}
use Rattle.std.specs.Prelude.{Some}
use Rattle.model.specs.Lists.{up_to}
use Rattle.model.specs.Query.{good_question, question_at, question_end, question_start, question, good_questions}
use Rattle.model.proofs.ListLaws.{test, never, and_both, every-nil, every-next, up_to-next, up_to-none, length-up_to, get_or-up_to}
use Rattle.model.proofs.NameLaws.{question-within}
use Rattle.model.proofs.QueryLaws.{good-at}
use Rattle.wire.specs.Records.{question_of, padded, question_record, record_at}
use Rattle.wire.specs.Read.{cursor, read_question}
use Rattle.wire.specs.declared.Cursor.{Cursor}
use Rattle.wire.specs.declared.Question.{Question}
use Rattle.wire.specs.declared.QuestionRead.{QuestionRead}
use Rattle.wire.proofs.Pad.{pad-none, pad-more, pad-at}
use Rattle.wire.proofs.Reading.{question-is}
use Rattle.query.specs.Parts.{blank_question, record_of, first_questions, QuestionsOf}

-- the default question is all zero
pub default-blank : (q : Question) → (q.start ≡ 0) × ((q.len ≡ 0) × ((q.qtype ≡ 0) × (q.qclass ≡ 0))) → q ≡ blank_question
default-blank q e =
    let f : question_record q.start q.len q.qtype q.qclass ≡ blank_question = rw (e.0, e.1.0, e.1.1.0, e.1.1.1) in
    f

module _ (d : List ℕ) where
  good_none : good_questions d 0 ≡ true
  unfolding good_questions up_to
  good_none = every-nil (λ i. good_question d (question_start d i))

  good-next : (i : ℕ) → good_questions d (i + 1) ≡ good_questions d i && good_question d (question_start d i)
  unfolding good_questions
  good-next i = every-next i (λ i. i) (λ i. good_question d (question_start d i))

  bad-at : (m i : ℕ) → i < m → good_question d (question_start d i) ≡ false → good_questions d m ≡ false
  bad-at m i h e = ⊎_elim (λ (t : good_questions d m ≡ true). never (good-at d m i t h) e) (λ (t : good_questions d m ≡ false). t) (test (good_questions d m))

  start_first : question_start d 0 ≡ 12
  unfolding question_start
  start_first = refl

  start-next : (i : ℕ) → question_start d (i + 1) ≡ question_end d (question_start d i)
  unfolding question_start
  start-next i = rw add-one

  -- question i stored behind the i before it
  array-next : (i : ℕ) → i < 8 → set (first_questions d i) i (record_of d i) ≡ first_questions d (i + 1)
  array-next i h =
      pad-more 8 blank_question (up_to i (record_of d)) (record_of d i) i (length-up_to i (record_of d)) h
      ∙ ap (padded 8 blank_question) (sym (up_to-next i (record_of d)))

  -- a question that is found starts in the datagram, and its name is short: both fit 16 bits
  pub found-fits : (at : ℕ) {q : QuestionRead} {next : Cursor} → length d ≤ 1472 → Some (q, next) ≡ read_question d at → (q.start ≤ 1472) × (q.len ≤ 255)
  found-fits at l e =
      let q = question-is d at e in
      let w = question-within d at q.0 in
      let x = ap (λ (q : Question). q.start) q.1 in
      let y = ap (λ (q : Question). q.len) q.1 in
      (omega arith, omega arith)

  -- what the loop knows at a place, i questions on, where there are some to read
  pub record Passed (i at : ℕ) (all : List Question) : Type 0 where
    pub good : good_questions d i ≡ true
    pub start : at ≡ question_start d i
    pub stored : all ≡ first_questions d i

  pub passed_none : (at : ℕ) (all : List Question) → at ≡ 12 → all ≡ replicate 8 blank_question → Passed 0 at all
  passed_none at all f e =
      record { good = good_none; start = f ∙ sym start_first; stored = e ∙ sym (rw (up_to-none (record_of d)) (pad-none 8 blank_question)) }

  module _ (m i at : ℕ) (all : List Question) (l : i < m) (f : 1 ≤ m → Passed i at all) where
    p : Passed i at all
    p = f (omega arith)

    -- a good question: it is stored, and the loop goes on at its end
    pub passed-next : (q : Question) → m ≤ 8 → good_question d at ≡ true → q ≡ record_at d at → Passed (i + 1) (question_end d at) (set all i q)
    passed-next q n g e =
        record {
          good = good-next i ∙ and_both (good_questions d i) (good_question d (question_start d i)) p.good (rw p.start at g);
          start = ap (question_end d) p.start ∙ sym (start-next i);
          stored = rw (e, p.stored, p.start) (array-next i (omega arith));
        }

    -- a bad one
    pub read-bad : good_question d at ≡ false → good_questions d m ≡ false
    read-bad b = bad-at m i l (rw p.start at b)

  -- all m are read
  pub read-end : (m at : ℕ) (all : List Question) → (1 ≤ m → Passed m at all)
      → (good_questions d m ≡ true) × QuestionsOf d m (record { all = all; next = cursor at })
  read-end zero at all f = (good_none, record { next = λ s. absurd (omega arith); all = λ s. absurd (omega arith) })
  read-end (suc m) at all f =
      let p = f (omega arith) in
      (p.good, record { next = λ s. p.start; all = λ s. p.stored })

  -- question i in the array is the model's, and its name is of at most 255 bytes, in the datagram
  module _ (m : ℕ) (g : good_questions d m ≡ true) (i : ℕ) (e : Question) (l : i < m) where
    array_at : get_or (first_questions d m) i e ≡ record_of d i
    array_at = pad-at 8 blank_question (up_to m (record_of d)) i e (rw (length-up_to m (record_of d)) l) ∙ get_or-up_to m (record_of d) i e l

    pub holds-question : question_of d (get_or (first_questions d m) i e) ≡ question d i
    unfolding question_at
    holds-question = ap (question_of d) array_at

    pub holds-placed : (get_or (first_questions d m) i e).start + (get_or (first_questions d m) i e).len ≤ length d
    holds-placed = let w = question-within d (question_start d i) (good-at d m i g l) in rw array_at (omega arith)

    pub holds-len : (get_or (first_questions d m) i e).len ≤ 255
    holds-len = rw array_at (question-within d (question_start d i) (good-at d m i g l)).1
