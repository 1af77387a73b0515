-- The number that a call on a sound table is judged by, and what an answered call has passed: each condition of its refusals is false.
-- Assumes nothing.
use Prim.Native.Nat.{ℕ, ◌+◌, ◌≤◌}
use native.Mathlib.Omega.{arith}
use mathlib.Core.Path.{◌≡◌, refl, sym, ◌∙◌}
use mathlib.Core.Bool.{Bool, true, false, not}
use mathlib.Core.List.{List, ◌∷◌}
use mathlib.Core.Logic.{◌≢◌, ⊎_elim}
use lib.ListN.{length}
use lib.Dec.{eqb, ltb, lit<}
use borrow.Author.Tests.{ltb-true, ltb-false, le-leb, lt-leb, not-false}
use Rattle.model.specs.Lists.{every}
use Rattle.model.specs.Clock.{Weeks, weeks_in, valid_reading}
use Rattle.model.specs.Query.{good_header, qdcount, good_questions, questions_end, good_opt, llq_options}
use Rattle.model.specs.Table.{layout_of, slots_in, read_table}
use Rattle.model.specs.Sound.{sound_bytes}
use Rattle.model.specs.Reply.{reply_length}
use Rattle.model.specs.Calls.{MakeCall, TickCall, ServeCall, refusal, table_length, good_roster, make_refusal, tick_refusal, serve_refusal}
use Rattle.model.proofs.ListLaws.{test, or_left, or_right, not-and, not-less}
use Rattle.model.proofs.CallLaws.{unrefused, not-given}
use Rattle.claims.specs.Lengths.{last_week}
use Rattle.claims.specs.Tally.{Call, making, ticking, serving, bad_reading, judged}
use Rattle.claims.proofs.LengthLaws.{weeks-for, slots-for}

-- THE READING

-- not under one more is beyond
not-under : (a b : ℕ) → not (ltb a (b + 1)) ≡ ltb b a
not-under a b =
    ⊎_elim
    (λ (t : ltb b a ≡ true). not-less a (b + 1) ∙ le-leb (b + 1) a (omega (arith, ltb-true b a t)) ∙ sym t)
    (λ (t : ltb b a ≡ false). not-less a (b + 1) ∙ lt-leb (b + 1) a (omega (arith, ltb-false b a t)) ∙ sym t)
    (test (ltb b a))

reading-fault : (size w s : ℕ) → not (valid_reading (layout_of size).weeks w s) ≡ bad_reading size w s
reading-fault size w s =
    not-and (ltb w (weeks_in (layout_of size).weeks)) (ltb s 604800) ∙ rw (weeks-for size, not-under w (last_week size), not-under s 604799)

-- THE NUMBER IS THE ONE JUDGED, on a sound table

pub make-judged : (c : MakeCall) (size : ℕ) → make_refusal c size ≡ judged size (making c)
unfolding make_refusal judged
make-judged c size = rw (reading-fault size c.week c.second, slots-for size)

pub tick-judged : (c : TickCall) (b : List ℕ) (size : ℕ) → length b ≡ size → sound_bytes b ≡ true → tick_refusal c b ≡ judged size (ticking c)
unfolding tick_refusal judged refusal
tick-judged c b size l s = rw (s, l, reading-fault size c.week c.second)

pub serve-judged : (c : ServeCall) (b : List ℕ) (size : ℕ) → length b ≡ size → sound_bytes b ≡ true → serve_refusal c b ≡ judged size (serving c)
unfolding serve_refusal judged refusal
serve-judged c b size l s = rw (s, l, reading-fault size c.week c.second)

-- WHAT HAS PASSED where nothing is refused

pub record MakeAccepted (c : MakeCall) (size : ℕ) : Type 0 where
  pub room : table_length size ≡ true
  pub reading : valid_reading (layout_of size).weeks c.week c.second ≡ true
  pub roster : good_roster (slots_in size) c.roster ≡ true

pub make-accepted : (c : MakeCall) (size : ℕ) → make_refusal c size ≡ 0 → MakeAccepted c size
unfolding make_refusal every
make-accepted c size e =
    let at = unrefused _ refl e in
    record {
      room = not-false (table_length size) (at 0 (lit< tt));
      reading = not-false (valid_reading (layout_of size).weeks c.week c.second) (at 1 (lit< tt));
      roster = not-false (good_roster (slots_in size) c.roster) (at 2 (lit< tt));
    }

-- of a table with weeks w
pub record QueryAccepted (w : Weeks) (c : ServeCall) : Type 0 where
  pub reading : valid_reading w c.week c.second ≡ true
  pub size_min : 12 ≤ length c.datagram
  pub header : good_header c.datagram ≡ true
  pub questions : good_questions c.datagram (qdcount c.datagram) ≡ true
  pub opt : good_opt c.datagram (questions_end c.datagram) ≡ true
  pub some : eqb (length (llq_options c.datagram)) 0 ≡ false
  pub fits : reply_length c.datagram ≤ c.room
  pub most : reply_length c.datagram ≤ 1472

pub serve-accepted : (c : ServeCall) (b : List ℕ) → serve_refusal c b ≡ 0 → QueryAccepted (read_table b).layout.weeks c
unfolding serve_refusal every read_table
serve-accepted c b e =
    let d = c.datagram in
    let at = unrefused _ refl e in
    record {
      reading = not-false (valid_reading (layout_of (length b)).weeks c.week c.second) (at 1 (lit< tt));
      size_min = ltb-false (length d) 12 (or_left (ltb (length d) 12) (ltb 1472 (length d)) (at 2 (lit< tt)));
      header = not-false (good_header d) (at 3 (lit< tt));
      questions = not-false (good_questions d (qdcount d)) (at 4 (lit< tt));
      opt = not-false (good_opt d (questions_end d)) (at 5 (lit< tt));
      some = at 6 (lit< tt);
      fits = ltb-false c.room (reply_length d) (or_left (ltb c.room (reply_length d)) (ltb 1472 (reply_length d)) (at 7 (lit< tt)));
      most = ltb-false 1472 (reply_length d) (or_right (ltb c.room (reply_length d)) (ltb 1472 (reply_length d)) (at 7 (lit< tt)));
    }

pub tick-accepted : (c : TickCall) (b : List ℕ) → tick_refusal c b ≡ 0 → valid_reading (read_table b).layout.weeks c.week c.second ≡ true
unfolding tick_refusal every read_table
tick-accepted c b e = not-false (valid_reading (layout_of (length b)).weeks c.week c.second) (unrefused _ refl e 1 (lit< tt))

-- NO CALL OF A LIST on one table is judged to be refused with 1

-- behind a condition that is false
behind-false : (x : ℕ) (ks : List (ℕ × Bool)) → refusal ks ≢ x → refusal ((x, false) ∷ ks) ≢ x
unfolding refusal
behind-false x ks n = n

make-other : (c : MakeCall) (size : ℕ) → table_length size ≡ true → judged size (making c) ≢ 1
unfolding judged every
make-other c size g = rw g (behind-false 1 _ (not-given 1 _ (omega arith) refl))

tick-other : (c : TickCall) (size : ℕ) → judged size (ticking c) ≢ 1
unfolding judged every
tick-other c size = not-given 1 _ (omega arith) refl

serve-other : (c : ServeCall) (size : ℕ) → judged size (serving c) ≢ 1
unfolding judged every
serve-other c size = not-given 1 _ (omega arith) refl

-- of a call on a buffer of a table's length
pub other-than-one : (size : ℕ) → table_length size ≡ true → (c : Call) → judged size c ≢ 1
other-than-one size g (making c) = make-other c size g
other-than-one size g (ticking c) = tick-other c size
other-than-one size g (serving c) = serve-other c size
