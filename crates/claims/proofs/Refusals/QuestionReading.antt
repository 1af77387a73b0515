-- The questions, read one after the other: where each starts, and the test of all against its faults. Assumes nothing.
use Prim.Native.Nat.{ℕ, zero, suc, ◌+◌, ◌≤◌, ◌<◌}
use native.Mathlib.Nat.{add-zero, zero-mul, zero-add}
use native.Mathlib.Omega.{arith}
use mathlib.Core.Path.{◌≡◌, refl, sym, subst}
use mathlib.Core.Bool.{true, false, ◌&&◌}
use mathlib.Core.List.{List}
use lib.ListN.{length, get_or}
use lib.Dec.{leb}
use borrow.Author.Tests.{leb-false}
use Rattle.model.specs.Numbers.{big_endian}
use Rattle.model.specs.Query.{name_at, good_question, question_start, question_end, good_questions, qdcount, questions_end}
use Rattle.model.proofs.ListLaws.{not-both}
use Rattle.model.proofs.NameLaws.{question-within}
use Rattle.model.proofs.QueryLaws.{good-at}
use Rattle.claims.specs.Refusals.{two_bytes, NameEnds, Starts, QuestionFault}
use Rattle.claims.proofs.Refusals.Ladders.{first-miss}
use Rattle.claims.proofs.Refusals.NameReading.{NameScan, name-scan, label-size, end-size, stop-size, long-size}

-- a number of two bytes
pub big-two : (d : List ℕ) (at : ℕ) → big_endian d at 2 ≡ two_bytes d at
unfolding big_endian
big-two d at = rw (zero-mul 256, zero-add (get_or d (at + 0) 0), add-zero at)

module _ (d : List ℕ) where
  -- WHERE A QUESTION STARTS

  pub start_is : (i p : ℕ) → Starts d i p → p ≡ question_start d i
  unfolding question_start
  start_is x y Starts.start = refl
  start_is x y (Starts.after i p e r s n h) =
      let a : p ≡ question_start d i = start_is i p s in
      let b : p + name_at d p ≡ e = end-size d p e n in
      rw (← a) (omega (arith, b, h))

  -- a good question's name ends
  good-ends : (p : ℕ) → good_question d p ≡ true → NameEnds d p (p + name_at d p)
  good-ends p g = go (name-scan d p)
    where
      go : NameScan d p → NameEnds d p (p + name_at d p)
      go (NameScan.ends e n) = subst (NameEnds d p) (sym (end-size d p e n)) n
      go (NameScan.stops q l h) = absurd (omega (arith, (question-within d p g).0, stop-size d p q l h))
      go (NameScan.bars q l inside h) = absurd (omega (arith, (question-within d p g).0, long-size d p q l inside h))

  -- behind good questions the next one starts
  pub starts-behind : (i : ℕ) → ((j : ℕ) → j < i → good_question d (question_start d j) ≡ true) → Starts d i (question_start d i)
  unfolding question_start
  starts-behind zero good = Starts.start
  starts-behind (suc i) good =
      let p = question_start d i in
      Starts.after i p (p + name_at d p) (question_end d p) (starts-behind i (λ j l. good j (omega arith))) (good-ends p (good i (omega arith))) refl

  -- FAULTS

  -- a question that is not good has a fault
  fault-of : (i p : ℕ) → i < two_bytes d 4 → Starts d i p → good_question d p ≡ false → QuestionFault d
  unfolding good_question
  fault-of i p l s bad = go (name-scan d p)
    where
      go : NameScan d p → QuestionFault d
      go (NameScan.stops q m h) = QuestionFault.name_runs_out i p q l s m h
      go (NameScan.bars q m inside h) = QuestionFault.label_too_large i p q l s m inside h
      go (NameScan.ends e n) =
          let a : p + name_at d p ≡ e = end-size d p e n in
          not-both (leb 1 (name_at d p) && leb (name_at d p) 255) (leb (p + name_at d p + 4) (length d))
          (not-both (leb 1 (name_at d p)) (leb (name_at d p) 255)
          (λ x. absurd (omega (arith, leb-false 1 (name_at d p) x, (label-size d p n.last n.label).0, n.end)))
          (λ t x. QuestionFault.name_too_long i p e l s n (omega (arith, leb-false (name_at d p) 255 x))))
          (λ t x. QuestionFault.type_runs_out i p e l s n (omega (arith, leb-false (p + name_at d p + 4) (length d) x)))
          bad

  module _ (good : (i : ℕ) → i < two_bytes d 4 → good_question d (question_start d i) ≡ true) where
    within : (i p : ℕ) → i < two_bytes d 4 → Starts d i p → (1 ≤ name_at d p) × (name_at d p ≤ 255) × (p + name_at d p + 4 ≤ length d)
    within i p l s = question-within d p (rw (start_is i p s) (good i l))

    faultless : QuestionFault d → ⊥
    faultless (QuestionFault.name_runs_out i p q l s m h) = let w = within i p l s in omega (arith, stop-size d p q m h)
    faultless (QuestionFault.label_too_large i p q l s m inside h) = let w = within i p l s in omega (arith, long-size d p q m inside h)
    faultless (QuestionFault.type_runs_out i p e l s n h) = let w = within i p l s in omega (arith, end-size d p e n)
    faultless (QuestionFault.name_too_long i p e l s n h) = let w = within i p l s in omega (arith, end-size d p e n)

  -- THE TEST

  pub bad-questions : good_questions d (qdcount d) ≡ false → QuestionFault d
  unfolding good_questions
  bad-questions h =
      let m = first-miss (λ i. good_question d (question_start d i)) (qdcount d) h in
      fault-of m.index (question_start d m.index) (rw (← (big-two d 4)) m.within) (starts-behind m.index m.before) m.misses

  all-good : good_questions d (qdcount d) ≡ true → (i : ℕ) → i < two_bytes d 4 → good_question d (question_start d i) ≡ true
  all-good h i l = good-at d (qdcount d) i h (rw (big-two d 4) l)

  pub good-questions : good_questions d (qdcount d) ≡ true → QuestionFault d → ⊥
  good-questions h f = faultless (all-good h) f

  -- the place behind the questions
  pub starts-end : good_questions d (qdcount d) ≡ true → Starts d (two_bytes d 4) (questions_end d)
  starts-end h = rw (big-two d 4) (starts-behind (two_bytes d 4) (all-good h))

  pub end_is : (at : ℕ) → Starts d (two_bytes d 4) at → at ≡ questions_end d
  end_is at s = rw (big-two d 4) (start_is (two_bytes d 4) at s)
