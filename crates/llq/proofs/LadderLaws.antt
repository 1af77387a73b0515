-- Each way out of a call, refused or answered, is the model's. Assumes nothing.
use Rattle.std.specs.Prelude.{Err}
use Prim.Native.Nat.{ℕ, zero, suc, ◌≤◌, ◌<◌}
use native.Mathlib.Omega.{arith}
use mathlib.Core.Path.{◌≡◌, refl, sym, ap, ◌∙◌}
use mathlib.Core.Bool.{Bool, true, false, not, cond, ◌||◌, or-true}
use mathlib.Core.List.{List, [], ◌∷◌, ◌++◌}
use lib.ListN.{length, drop}
use lib.Dec.{eqb, ltb}
use borrow.Author.Tests.{lt-ltb, le-ltb}
use Rattle.model.specs.Clock.{valid_reading, place_of}
use Rattle.model.specs.Query.{wrong_size, good_header, good_questions, qdcount, good_opt, questions_end, llq_options}
use Rattle.model.specs.Table.{table_bytes, read_table, layout_of, slots_in}
use Rattle.model.specs.Sound.{sound_bytes}
use Rattle.model.specs.Serve.{moved_on}
use Rattle.model.specs.Reply.{reply_bytes, reply_length}
use Rattle.model.specs.Calls.{MakeCall, TickCall, ServeCall, Made, Ticked, Answered, refusal, table_length, good_roster, make_refusal, made_by, make, fresh_table, tick_refusal, ticked_by, tick, freed_by, serve_refusal, served_by, serve, table_after, outcomes}
use Rattle.model.specs.Meets.{MakeMeets, TickMeets, ServeMeets}
use Rattle.model.proofs.CallLaws.{make-answered, tick-answered, serve-answered}
use Rattle.query.specs.Whole.{query_refusal}
use Rattle.llq.specs.declared.Refusal.{Refusal}
use Rattle.llq.specs.declared.Refusal.TheVariants.{Table, Reading, Datagram, Room, Roster}
use Rattle.llq.specs.Refused.{number_of, Finds}

-- THE LADDER

-- a refusal of the first five is one of all six
five : (a b c d e f : Bool) (k : ℕ) → refusal ((3, a) ∷ (4, b) ∷ (5, c) ∷ (6, d) ∷ (7, e) ∷ []) ≡ suc k
    → refusal ((3, a) ∷ (4, b) ∷ (5, c) ∷ (6, d) ∷ (7, e) ∷ (8, f) ∷ []) ≡ suc k
unfolding refusal
five true b c d e f k h = h
five false true c d e f k h = h
five false false true d e f k h = h
five false false false true e f k h = h
five false false false false true f k h = h
five false false false false false f k h = absurd (omega arith)

-- where the first five do not refuse, the sixth decides
sixth : (a b c d e f : Bool) → refusal ((3, a) ∷ (4, b) ∷ (5, c) ∷ (6, d) ∷ (7, e) ∷ []) ≡ 0
    → refusal ((3, a) ∷ (4, b) ∷ (5, c) ∷ (6, d) ∷ (7, e) ∷ (8, f) ∷ []) ≡ cond f 8 0
unfolding refusal
sixth true b c d e f h = absurd (omega arith)
sixth false true c d e f h = absurd (omega arith)
sixth false false true d e f h = absurd (omega arith)
sixth false false false true e f h = absurd (omega arith)
sixth false false false false true f h = absurd (omega arith)
sixth false false false false false f h = refl

-- REFUSAL 8, of a reply of k bytes

module _ (room k len : ℕ) (e : k ≡ len) where
  pub no_room_lem : room < k → ltb room len || ltb 1472 len ≡ true
  no_room_lem h = rw (← e, lt-ltb room k h)

  pub too_long : 1472 < k → ltb room len || ltb 1472 len ≡ true
  too_long h = rw (← e, lt-ltb 1472 k h) (or-true (ltb room k))

  pub has_room : k ≤ room → k ≤ 1472 → ltb room len || ltb 1472 len ≡ false
  has_room h l = rw (← e, le-ltb room k h, le-ltb 1472 k l)

-- MAKING

module _ (c : MakeCall) (b : List ℕ) where
  make-refused : (k : ℕ) → make_refusal c (length b) ≡ suc k → MakeMeets c b b (suc k)
  unfolding make
  make-refused k e = record { number = sym (ap (λ (n : ℕ). (made_by n c b).number) e); table = sym (ap (λ (n : ℕ). (made_by n c b).table) e) }

  make-ladder : (e f g : Bool) → table_length (length b) ≡ e → valid_reading (layout_of (length b)).weeks c.week c.second ≡ f → good_roster (slots_in (length b)) c.roster ≡ g
      → make_refusal c (length b) ≡ refusal ((1, not e) ∷ (2, not f) ∷ (9, not g) ∷ [])
  unfolding make_refusal
  make-ladder e f g h k l = rw (h, k, l)

  pub make-length : table_length (length b) ≡ false → MakeMeets c b b 1
  unfolding refusal
  make-length e = make-refused 0 (make-ladder _ _ _ e refl refl)

  pub make-reading : table_length (length b) ≡ true → valid_reading (layout_of (length b)).weeks c.week c.second ≡ false → MakeMeets c b b 2
  unfolding refusal
  make-reading e f = make-refused 1 (make-ladder _ _ _ e f refl)

  pub make-roster : table_length (length b) ≡ true → valid_reading (layout_of (length b)).weeks c.week c.second ≡ true → good_roster (slots_in (length b)) c.roster ≡ false
      → MakeMeets c b b 9
  unfolding refusal
  make-roster e f g = make-refused 8 (make-ladder _ _ _ e f g)

  pub make-done : (after : List ℕ) → table_length (length b) ≡ true → valid_reading (layout_of (length b)).weeks c.week c.second ≡ true
      → good_roster (slots_in (length b)) c.roster ≡ true → after ≡ table_bytes (fresh_table c (length b)) → MakeMeets c b after 0
  unfolding refusal
  make-done after e f g h =
      let whole : make c b ≡ made_by 0 c b = make-answered c b (make-ladder _ _ _ e f g) in
      record { number = sym (ap (λ (m : Made). m.number) whole); table = h ∙ sym (ap (λ (m : Made). m.table) whole) }

-- TICKING

module _ (c : TickCall) (b : List ℕ) where
  tick-refused : (k : ℕ) → tick_refusal c b ≡ suc k → TickMeets c b b (suc k) 0
  unfolding tick
  tick-refused k e =
      record {
        number = sym (ap (λ (n : ℕ). (ticked_by n c b).number) e);
        freed = sym (ap (λ (n : ℕ). (ticked_by n c b).freed) e);
        table = sym (ap (λ (n : ℕ). (ticked_by n c b).table) e);
      }

  tick-ladder : (e f : Bool) → sound_bytes b ≡ e → valid_reading (layout_of (length b)).weeks c.week c.second ≡ f → tick_refusal c b ≡ refusal ((1, not e) ∷ (2, not f) ∷ [])
  unfolding tick_refusal
  tick-ladder e f h k = rw (h, k)

  pub tick-found : (e : Refusal) → Finds c.week c.second b (Err e) → TickMeets c b b (number_of e) 0
  unfolding refusal
  tick-found Table h = tick-refused 0 (tick-ladder _ _ h refl)
  tick-found Reading h = tick-refused 1 (tick-ladder _ _ h.0 h.1)
  tick-found (Datagram q) h = absurd h
  tick-found Room h = absurd h
  tick-found Roster h = absurd h

  pub tick-done : (after : List ℕ) (k : ℕ) → sound_bytes b ≡ true → valid_reading (layout_of (length b)).weeks c.week c.second ≡ true
      → after ≡ table_bytes (moved_on (read_table b) (place_of c.week c.second)) → k ≡ freed_by (read_table b) (place_of c.week c.second)
      → TickMeets c b after 0 k
  unfolding refusal
  tick-done after k e f h g =
      let whole : tick c b ≡ ticked_by 0 c b = tick-answered c b (tick-ladder _ _ e f) in
      record {
        number = sym (ap (λ (m : Ticked). m.number) whole);
        freed = g ∙ sym (ap (λ (m : Ticked). m.freed) whole);
        table = h ∙ sym (ap (λ (m : Ticked). m.table) whole);
      }

-- SERVING

module _ (c : ServeCall) (b reply : List ℕ) where
  -- refusal 8's condition
  abbrev pub no_room : Bool
  no_room = ltb c.room (reply_length c.datagram) || ltb 1472 (reply_length c.datagram)

  serve-refused : (k : ℕ) → serve_refusal c b ≡ suc k → ServeMeets c b b reply reply (suc k) 0
  unfolding serve
  serve-refused k e =
      record {
        number = sym (ap (λ (n : ℕ). (served_by n c b reply).number) e);
        length = sym (ap (λ (n : ℕ). (served_by n c b reply).length) e);
        table = sym (ap (λ (n : ℕ). (served_by n c b reply).table) e);
        reply = sym (ap (λ (n : ℕ). (served_by n c b reply).reply) e);
      }

  -- what is left of the ladder once the table and the reading have passed
  abbrev rest : ℕ
  rest =
      let d = c.datagram in
      refusal
      ((3, wrong_size d)
      ∷ (4, not (good_header d))
      ∷ (5, not (good_questions d (qdcount d)))
      ∷ (6, not (good_opt d (questions_end d)))
      ∷ (7, eqb (length (llq_options d)) 0)
      ∷ (8, no_room)
      ∷ [])

  serve-ladder : (e f : Bool) → sound_bytes b ≡ e → valid_reading (layout_of (length b)).weeks c.week c.second ≡ f → serve_refusal c b ≡ cond (not e) 1 (cond (not f) 2 rest)
  unfolding serve_refusal refusal
  serve-ladder e f h k = rw (h, k)

  pub serve-found : (e : Refusal) → Finds c.week c.second b (Err e) → ServeMeets c b b reply reply (number_of e) 0
  serve-found Table h = serve-refused 0 (serve-ladder _ _ h refl)
  serve-found Reading h = serve-refused 1 (serve-ladder _ _ h.0 h.1)
  serve-found (Datagram q) h = absurd h
  serve-found Room h = absurd h
  serve-found Roster h = absurd h

  -- refusals 3 to 7
  pub serve-query : (k : ℕ) → sound_bytes b ≡ true → valid_reading (layout_of (length b)).weeks c.week c.second ≡ true → k ≡ query_refusal c.datagram → 0 < k
      → ServeMeets c b b reply reply k 0
  unfolding query_refusal
  serve-query zero e f g h = absurd (omega arith)
  serve-query (suc k) e f g h = serve-refused k (serve-ladder _ _ e f ∙ five _ _ _ _ _ no_room k (sym g))

  rest-is : query_refusal c.datagram ≡ 0 → rest ≡ cond no_room 8 0
  unfolding query_refusal
  rest-is g = sixth _ _ _ _ _ no_room g

  pub serve-room : sound_bytes b ≡ true → valid_reading (layout_of (length b)).weeks c.week c.second ≡ true → query_refusal c.datagram ≡ 0 → no_room ≡ true
      → ServeMeets c b b reply reply 8 0
  serve-room e f g h = serve-refused 7 (serve-ladder _ _ e f ∙ (rest-is g ∙ ap (λ (v : Bool). cond v 8 0) h))

  pub serve-done : (after left : List ℕ) (k : ℕ) → sound_bytes b ≡ true → valid_reading (layout_of (length b)).weeks c.week c.second ≡ true → query_refusal c.datagram ≡ 0
      → no_room ≡ false → k ≡ reply_length c.datagram → after ≡ table_bytes (table_after c (read_table b))
      → left ≡ reply_bytes c.datagram (outcomes c (read_table b)) ++ drop (reply_length c.datagram) reply → ServeMeets c b after reply left 0 k
  serve-done after left k e f g h l m n =
      let whole : serve c b reply ≡ served_by 0 c b reply =
      serve-answered c b reply (serve-ladder _ _ e f ∙ (rest-is g ∙ ap (λ (v : Bool). cond v 8 0) h)) in
      record {
        number = sym (ap (λ (x : Answered). x.number) whole);
        length = l ∙ sym (ap (λ (x : Answered). x.length) whole);
        table = m ∙ sym (ap (λ (x : Answered). x.table) whole);
        reply = n ∙ sym (ap (λ (x : Answered). x.reply) whole);
      }
