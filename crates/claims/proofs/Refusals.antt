-- Claim 1 of the model: each number is given exactly if its condition holds and none of a lower one. Assumes nothing.
pub mod Ladders
pub mod NameReading
pub mod QuestionReading
pub mod HeaderReading
pub mod OptReading
pub mod RosterReading
use Prim.Native.Nat.{ℕ, zero, suc}
use native.Mathlib.Omega.{arith}
use mathlib.Core.Path.{◌≡◌, refl, sym, subst}
use mathlib.Core.Bool.{Bool, true, false, not, ◌||◌}
use mathlib.Core.List.{List, [], ◌∷◌}
use mathlib.Core.Logic.{◌≢◌}
use lib.ListN.{length}
use lib.Dec.{eqb, ltb}
use borrow.Author.Tests.{ltb-true, ltb-false}
use Rattle.model.specs.Numbers.{Bytes}
use Rattle.model.specs.Clock.{valid_reading}
use Rattle.model.specs.Query.{wrong_size, good_header, qdcount, good_questions, questions_end, good_opt, llq_options}
use Rattle.model.specs.Table.{layout_of}
use Rattle.model.specs.Sound.{sound_bytes}
use Rattle.model.specs.Reply.{reply_options, reply_length}
use Rattle.model.specs.Calls.{MakeCall, TickCall, ServeCall, table_length, good_roster, make_refusal, tick_refusal, serve_refusal, made_by, ticked_by, served_by, make, tick, serve}
use Rattle.model.specs.Meets.{model}
use Rattle.model.proofs.ListLaws.{never, or_left, or_right, one_of}
use Rattle.model.proofs.QueryLaws.{start-min}
use Rattle.model.proofs.CallLaws.{make-number, tick-number, serve-number}
use Rattle.model.proofs.Meaning.{sound-means, means-sound}
use Rattle.claims.specs.Events.{MakeInRange, ServeInRange}
use Rattle.claims.specs.Lengths.{last_week, slots_for}
use Rattle.claims.specs.Refusals.{Lowest, Done, Unsound, WrongLength, ReadingFault, SizeFault, HeaderFault, QuestionFault, OptFault, NoLlqOption, BehindQuestions, length_of, ReplyFault, RosterFault, MakeNumber, TickNumber, ServeNumber, Refusals}
use Rattle.claims.proofs.Refusals.Ladders.{rung, rung-not, no-rung}
use Rattle.claims.proofs.LengthLaws.{slots-for}
use Rattle.claims.proofs.Refusals.HeaderReading.{bad-length, good_length, bad-reading, good-reading, bad-size, good-size, bad-header, good-header}
use Rattle.claims.proofs.Refusals.QuestionReading.{big-two, bad-questions, good-questions, starts-end, end_is}
use Rattle.claims.proofs.Refusals.OptReading.{bad-opt, good-opt, no-option, some-option}
use Rattle.claims.proofs.Refusals.RosterReading.{bad-roster, good-roster}

-- 1: UNSOUND

unsound : (b : List ℕ) → sound_bytes b ≡ false → Unsound b
unsound b h s = never (means-sound b s) h

sound : (b : List ℕ) → Bytes b → sound_bytes b ≡ true → Unsound b → ⊥
sound b bytes h u = u (sound-means b bytes h)

-- BEHIND THE QUESTIONS: there is one such place

module _ (d : List ℕ) (good : good_questions d (qdcount d) ≡ true) (P : ℕ → Type 0) where
  pub behind : P (questions_end d) → BehindQuestions d P
  behind p = (questions_end d, (starts-end d good, p))

  not_behind : (P (questions_end d) → ⊥) → BehindQuestions d P → ⊥
  not_behind n b = n (subst P (end_is d b.0 b.1.0) b.1.1)

-- 8: THE REPLY'S LENGTH

pub length-is : (d : List ℕ) → reply_length d ≡ length_of d (questions_end d)
unfolding reply_options
length-is d = rw (← (big-two d 4)) (omega (arith, start-min d (qdcount d)))

module _ (d : List ℕ) (room : ℕ) where
  too_long : ltb room (reply_length d) || ltb 1472 (reply_length d) ≡ true → ReplyFault d room (questions_end d)
  too_long =
      one_of (ltb room (reply_length d)) (ltb 1472 (reply_length d))
      (λ x. ReplyFault.over_buffer (omega (arith, length-is d, ltb-true room (reply_length d) x)))
      (λ x. ReplyFault.over_limit (omega (arith, length-is d, ltb-true 1472 (reply_length d) x)))

  short : ltb room (reply_length d) || ltb 1472 (reply_length d) ≡ false → ReplyFault d room (questions_end d) → ⊥
  short h (ReplyFault.over_buffer l) =
      omega (arith, length-is d, ltb-false room (reply_length d) (or_left (ltb room (reply_length d)) (ltb 1472 (reply_length d)) h))
  short h (ReplyFault.over_limit l) =
      omega (arith, length-is d, ltb-false 1472 (reply_length d) (or_right (ltb room (reply_length d)) (ltb 1472 (reply_length d)) h))

-- THE LADDERS

-- In each, k says of a number what is tested from it on, and r what is stated.

make-ladder : (c : MakeCall) (size : ℕ) → MakeInRange c → MakeNumber c size (make_refusal c size)
unfolding make_refusal
make-ladder c size range =
    rw (slots-for size)
    (let n = slots_for size in
    let read = valid_reading (layout_of size).weeks c.week c.second in
    let fault = ReadingFault (last_week size) c.week c.second in
    let k9 : List (ℕ × Bool) = (9, not (good_roster n c.roster)) ∷ [] in
    let r9 : ℕ → Type 0 = Lowest 9 (RosterFault n c.roster) Done in
    let k2 : List (ℕ × Bool) = (2, not read) ∷ k9 in
    let r2 : ℕ → Type 0 = Lowest 2 fault r9 in
    rung-not 1 (table_length size) k2 (WrongLength size) r2 (bad-length size) (good_length size) λ t1.
    rung-not 2 read k9 fault r9 (bad-reading size c.week c.second) (good-reading size c.week c.second) λ t2.
    rung-not 9 (good_roster n c.roster) [] (RosterFault n c.roster) Done (bad-roster n c.roster range.roster) (good-roster n c.roster) λ t9.
    no-rung)

tick-ladder : (c : TickCall) (b : List ℕ) → Bytes b → TickNumber c b (tick_refusal c b)
unfolding tick_refusal
tick-ladder c b bytes =
    let read = valid_reading (layout_of (length b)).weeks c.week c.second in
    let fault = ReadingFault (last_week (length b)) c.week c.second in
    let k2 : List (ℕ × Bool) = (2, not read) ∷ [] in
    let r2 : ℕ → Type 0 = Lowest 2 fault Done in
    rung-not 1 (sound_bytes b) k2 (Unsound b) r2 (unsound b) (sound b bytes) λ t1.
    rung-not 2 read [] fault Done (bad-reading (length b) c.week c.second) (good-reading (length b) c.week c.second) λ t2.
    no-rung

serve-ladder : (c : ServeCall) (b : List ℕ) → ServeInRange c → Bytes b → ServeNumber c b (serve_refusal c b)
unfolding serve_refusal
serve-ladder c b range bytes =
    let d = c.datagram in
    let at = questions_end d in
    let read = valid_reading (layout_of (length b)).weeks c.week c.second in
    let fault = ReadingFault (last_week (length b)) c.week c.second in
    let long = ltb c.room (reply_length d) || ltb 1472 (reply_length d) in
    let k8 : List (ℕ × Bool) = (8, long) ∷ [] in
    let r8 : ℕ → Type 0 = Lowest 8 (BehindQuestions d (ReplyFault d c.room)) Done in
    let k7 : List (ℕ × Bool) = (7, eqb (length (llq_options d)) 0) ∷ k8 in
    let r7 : ℕ → Type 0 = Lowest 7 (BehindQuestions d (NoLlqOption d)) r8 in
    let k6 : List (ℕ × Bool) = (6, not (good_opt d at)) ∷ k7 in
    let r6 : ℕ → Type 0 = Lowest 6 (BehindQuestions d (OptFault d)) r7 in
    let k5 : List (ℕ × Bool) = (5, not (good_questions d (qdcount d))) ∷ k6 in
    let r5 : ℕ → Type 0 = Lowest 5 (QuestionFault d) r6 in
    let k4 : List (ℕ × Bool) = (4, not (good_header d)) ∷ k5 in
    let r4 : ℕ → Type 0 = Lowest 4 (HeaderFault d) r5 in
    let k3 : List (ℕ × Bool) = (3, wrong_size d) ∷ k4 in
    let r3 : ℕ → Type 0 = Lowest 3 (SizeFault d) r4 in
    let k2 : List (ℕ × Bool) = (2, not read) ∷ k3 in
    let r2 : ℕ → Type 0 = Lowest 2 fault r3 in
    rung-not 1 (sound_bytes b) k2 (Unsound b) r2 (unsound b) (sound b bytes) λ t1.
    rung-not 2 read k3 fault r3 (bad-reading (length b) c.week c.second) (good-reading (length b) c.week c.second) λ t2.
    rung 3 (wrong_size d) k4 (SizeFault d) r4 (bad-size d) (good-size d) λ t3.
    rung-not 4 (good_header d) k5 (HeaderFault d) r5 (bad-header d range.datagram) (good-header d range.datagram) λ t4.
    rung-not 5 (good_questions d (qdcount d)) k6 (QuestionFault d) r6 (bad-questions d) (good-questions d) λ t5.
    rung-not 6 (good_opt d at) k7 (BehindQuestions d (OptFault d)) r7
    (λ x. behind d t5 (OptFault d) (bad-opt d at x))
    (λ x. not_behind d t5 (OptFault d) (good-opt d at x)) λ t6.
    rung 7 (eqb (length (llq_options d)) 0) k8 (BehindQuestions d (NoLlqOption d)) r8
    (λ x. behind d t5 (NoLlqOption d) (no-option d t6 x))
    (λ x. not_behind d t5 (NoLlqOption d) (some-option d x)) λ t7.
    rung 8 long [] (BehindQuestions d (ReplyFault d c.room)) Done
    (λ x. behind d t5 (ReplyFault d c.room) (too_long d c.room x))
    (λ x. not_behind d t5 (ReplyFault d c.room) (short d c.room x)) λ t8.
    no-rung

-- WHAT A REFUSAL LEAVES

made-refused : (k : ℕ) (c : MakeCall) (b : List ℕ) → (made_by k c b).number ≢ 0 → (made_by k c b).table ≡ b
made-refused zero c b n = absurd (n refl)
made-refused (suc k) c b n = refl

ticked-refused : (k : ℕ) (c : TickCall) (b : List ℕ) → (ticked_by k c b).number ≢ 0 → ((ticked_by k c b).table ≡ b) × ((ticked_by k c b).freed ≡ 0)
ticked-refused zero c b n = absurd (n refl)
ticked-refused (suc k) c b n = (refl, refl)

served-refused : (k : ℕ) (c : ServeCall) (b lent : List ℕ) → (served_by k c b lent).number ≢ 0
    → ((served_by k c b lent).table ≡ b) × ((served_by k c b lent).reply ≡ lent) × ((served_by k c b lent).length ≡ 0)
served-refused zero c b lent n = absurd (n refl)
served-refused (suc k) c b lent n = (refl, refl, refl)

pub refusals : Refusals model
unfolding make tick serve
refusals =
    record {
      make_number = λ c b range bytes. subst (MakeNumber c (length b)) (sym (make-number c b)) (make-ladder c (length b) range);
      tick_number = λ c b range bytes. subst (TickNumber c b) (sym (tick-number c b)) (tick-ladder c b bytes);
      serve_number = λ c b lent range bytes room.
          subst (ServeNumber c b) (sym (serve-number c b lent)) (serve-ladder c b range bytes);
      make_refused = λ c b. made-refused (make_refusal c (length b)) c b;
      tick_refused = λ c b. ticked-refused (tick_refusal c b) c b;
      serve_refused = λ c b lent. served-refused (serve_refusal c b) c b lent;
    }
