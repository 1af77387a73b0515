-- What the tests of a datagram say, one by one: the header's, where the questions stand, and that an option's values fit. Assumes nothing.
use Prim.Native.Nat.{ℕ, zero, suc, ◌+◌, ◌^◌, ◌≤◌, ◌<◌}
use native.Mathlib.Omega.{arith}
use mathlib.Core.Path.{◌≡◌}
use mathlib.Core.Bool.{true, ◌&&◌}
use mathlib.Core.List.{List}
use lib.ListN.{length}
use lib.Dec.{eqb, leb}
use borrow.Author.Tests.{eqb-true, leb-true}
use Rattle.model.specs.Numbers.{Bytes}
use Rattle.model.specs.Query.{flag_qr, flag_opcode, flag_tc, qdcount, ancount, nscount, arcount, good_header, good_question, question_start, good_questions, LlqOption, llq_at}
use Rattle.model.proofs.NumberLaws.{big_lt}
use Rattle.model.proofs.ListLaws.{and_left, and_right, every-index}
use Rattle.model.proofs.NameLaws.{question-within}

-- THE HEADER
pub record HeaderFacts (d : List ℕ) : Type 0 where
  pub query : flag_qr d ≡ 0
  pub opcode : flag_opcode d ≡ 0
  pub whole : flag_tc d ≡ 0
  pub some : 1 ≤ qdcount d
  pub few : qdcount d ≤ 8
  pub answers : ancount d ≡ 0
  pub authorities : nscount d ≡ 0
  pub additional : arcount d ≡ 1

pub header-facts : (d : List ℕ) → good_header d ≡ true → HeaderFacts d
unfolding good_header
header-facts d t =
    let a = eqb (flag_qr d) 0 in
    let b = eqb (flag_opcode d) 0 in
    let c = eqb (flag_tc d) 0 in
    let e1 = leb 1 (qdcount d) in
    let e2 = leb (qdcount d) 8 in
    let f = eqb (ancount d) 0 in
    let g = eqb (nscount d) 0 in
    let h = eqb (arcount d) 1 in
    let t6 = and_left (a && b && c && (e1 && e2) && f && g) h t in
    let t5 = and_left (a && b && c && (e1 && e2) && f) g t6 in
    let t4 = and_left (a && b && c && (e1 && e2)) f t5 in
    let t3 = and_left (a && b && c) (e1 && e2) t4 in
    let t2 = and_left (a && b) c t3 in
    let counted = and_right (a && b && c) (e1 && e2) t4 in
    record {
      query = eqb-true (flag_qr d) 0 (and_left a b t2);
      opcode = eqb-true (flag_opcode d) 0 (and_right a b t2);
      whole = eqb-true (flag_tc d) 0 (and_right (a && b) c t3);
      some = leb-true 1 (qdcount d) (and_left e1 e2 counted);
      few = leb-true (qdcount d) 8 (and_right e1 e2 counted);
      answers = eqb-true (ancount d) 0 (and_right (a && b && c && (e1 && e2)) f t5);
      authorities = eqb-true (nscount d) 0 (and_right (a && b && c && (e1 && e2) && f) g t6);
      additional = eqb-true (arcount d) 1 (and_right (a && b && c && (e1 && e2) && f && g) h t);
    }

-- THE QUESTIONS
module _ (d : List ℕ) where
  -- of m good questions, question i is good
  pub good-at : (m i : ℕ) → good_questions d m ≡ true → i < m → good_question d (question_start d i) ≡ true
  unfolding good_questions
  good-at m i g l = every-index (λ i. good_question d (question_start d i)) m g i l

  -- they start behind the header, and end in the datagram
  pub start-min : (m : ℕ) → 12 ≤ question_start d m
  unfolding question_start
  start-min zero = omega arith
  start-min (suc m) = omega (arith, start-min m)

  pub start-max : (m : ℕ) → 12 ≤ length d → good_questions d m ≡ true → question_start d m ≤ length d
  unfolding question_start
  start-max zero h g = h
  start-max (suc m) h g = (question-within d (question_start d m) (good-at (suc m) m g (omega arith))).2

-- AN LLQ OPTION'S VALUES fit their fields
pub record FitsOption (o : LlqOption) : Type 0 where
  pub version : o.version < 256 ^ 2
  pub opcode : o.opcode < 256 ^ 2
  pub error : o.error < 256 ^ 2
  pub number : o.number < 256 ^ 8
  pub lease : o.lease < 256 ^ 4

pub fits-option : (d : List ℕ) (at : ℕ) → Bytes d → FitsOption (llq_at d at)
unfolding llq_at
fits-option d at b =
    record {
      version = big_lt d at 2 b;
      opcode = big_lt d (at + 2) 2 b;
      error = big_lt d (at + 4) 2 b;
      number = big_lt d (at + 6) 8 b;
      lease = big_lt d (at + 14) 4 b;
    }
