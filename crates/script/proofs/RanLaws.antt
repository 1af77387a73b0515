-- The laws of Ran: calls carried out one after the other, and demand 3 along them. Assumes nothing.
use Rattle.std.proofs.Common.{Some}
use Prim.Native.Nat.{ℕ, ◌+◌, ◌-◌, ◌≤◌}
use native.Mathlib.Nat.{add_assoc}
use native.Mathlib.Omega.{arith}
use mathlib.Core.Path.{◌≡◌, refl, sym, ap, ◌∙◌, subst}
use mathlib.Core.Bool.{true}
use mathlib.Core.List.{List, [], ◌∷◌, ◌++◌, append_assoc, append-nil, map-append}
use lib.ListN.{length, take, drop, length-append, replicate, length-replicate}
use lib.Dec.{leb}
use lib.Seq.{drop-drop, length-take-le, take-append-le, take-take, drop_at}
use Rattle.model.specs.Lists.{flat}
use Rattle.model.specs.Numbers.{Bytes, encode, splice}
use Rattle.model.specs.Calls.{MakeCall, TickCall, ServeCall}
use Rattle.model.specs.Meets.{model, Makes, Ticks, Serves}
use Rattle.model.proofs.ListLaws.{flat_append}
use Rattle.model.proofs.NumberLaws.{splice-none, splice-splice, length-encode}
use Rattle.claims.specs.Tally.{Call, making, ticking, serving}
use Rattle.claims.specs.Events.{Event, made, ticked, served, call_of, table_of, Happens, Trace, AllInRange}
use Rattle.claims.specs.LiveAge.{left_by}
use Rattle.claims.proofs.Demand3.{demand3}
use Rattle.claims.proofs.AnySound.{any-sound}
use Rattle.script.specs.Answers.{sum_of, answer_bytes, Filled, AllFilled, answer_length, answers_length}
use Rattle.script.specs.Spelled.{calls_in}
use Rattle.script.specs.Ran.{Carried, Demand3Along, Runs}
use Rattle.script.proofs.SpelledLaws.{script-range}
use Rattle.script.proofs.AnswerLaws.{answers-both, answers_one, answers-none}

-- NO CALL
pub carried_none : (b l : List ℕ) (at : ℕ) → Carried [] b b l l at at
unfolding flat
carried_none b l at =
    record {
      events = [];
      spelled = refl;
      trace = tt;
      table = refl;
      filled = tt;
      size = sym answers-none;
      end = rw answers-none (omega arith);
      answers = rw answers-none (sym (splice-none at l));
    }

-- ONE CALL
pub carried-one : (e : Event) (b l : List ℕ) (at to : ℕ) (x : List ℕ) → Happens model b e → Filled e → length (answer_bytes e) ≡ answer_length (call_of e)
    → to ≡ at + answer_length (call_of e)
    → x ≡ splice at (answer_length (call_of e)) (answer_bytes e) l
    → Carried (call_of e ∷ []) b (table_of e) l x at to
unfolding flat
carried-one e b l at to x h f n z a =
    record {
      events = e ∷ [];
      spelled = refl;
      trace = (h, tt);
      table = refl;
      filled = (f, tt);
      size = rw (append-nil, answers_one) n;
      end = rw answers_one z;
      answers = rw (append-nil, answers_one) a;
    }

-- what stands before the reply buffer in an answer
abbrev pub numbers_of : ℕ → ℕ → ℕ → List ℕ
numbers_of k n v = encode ((4, k) ∷ (4, n) ∷ (4, v) ∷ [])

numbers-length : (k n v : ℕ) (r : List ℕ) → length (numbers_of k n v ++ r) ≡ 12 + length r
numbers-length k n v r = length-append (numbers_of k n v) r ∙ ap (λ (m : ℕ). m + length r) (length-encode ((4, k) ∷ (4, n) ∷ (4, v) ∷ []))

-- with no reply buffer
bare : (k n v at : ℕ) (t l : List ℕ) → v ≡ sum_of t → splice at 12 (numbers_of k n v) l ≡ splice at 12 (numbers_of k n (sum_of t) ++ []) l
bare k n v at t l e = rw (e, append-nil (numbers_of k n (sum_of t)))

-- written before a reply buffer that stands in its place
before-reply : (at j k : ℕ) (us vs s : List ℕ) → length us ≡ j → at + j ≤ length s → splice at j us (splice (at + j) k vs s) ≡ splice at (j + k) (us ++ vs) s
unfolding splice
before-reply at j k us vs s e h =
    let p : length (take (at + j) s) ≡ at + j = length-take-le (at + j) s h in
    let a : at ≤ length (take (at + j) s) = omega arith in
    let b : at ≤ at + j = omega arith in
    let t : take at (take (at + j) s ++ (vs ++ drop (at + j + k) s)) ≡ take at s = take-append-le at (take (at + j) s) (vs ++ drop (at + j + k) s) a ∙ take-take at (at + j) s b in
    let d : drop (at + j) (take (at + j) s ++ (vs ++ drop (at + j + k) s)) ≡ vs ++ drop (at + j + k) s = drop_at (take (at + j) s) (vs ++ drop (at + j + k) s) (at + j) p in
    rw (t, d, add_assoc at j k, append_assoc us vs (drop (at + (j + k)) s))

-- m is the buffer as the call left it, before the numbers are written
pub carried-made : (c : MakeCall) (k n v at to : ℕ) (b t l m x : List ℕ) → Makes model c b t k → n ≡ 0 → v ≡ sum_of t → m ≡ l → x ≡ splice at 12 (numbers_of k n v) m
    → to ≡ at + 12
    → Carried (making c ∷ []) b t l x at to
carried-made c k n v at to b t l m x h z s e a f =
    carried-one (made c k t) b l at to x h tt (numbers-length k 0 (sum_of t) []) f (rw (z, e) at a ∙ bare k 0 v at t l s)

pub carried-ticked : (c : TickCall) (k n v at to : ℕ) (b t l m x : List ℕ) → Ticks model c b t k n → v ≡ sum_of t → m ≡ l → x ≡ splice at 12 (numbers_of k n v) m
    → to ≡ at + 12
    → Carried (ticking c ∷ []) b t l x at to
carried-ticked c k n v at to b t l m x h s e a f =
    carried-one (ticked c k n t) b l at to x h tt (numbers-length k n (sum_of t) []) f ((rw e at a) ∙ bare k n v at t l s)

-- d is the call, and l the reply buffer, as the code has them
pub serves-read : (d c : ServeCall) (k n : ℕ) (b t l m r : List ℕ) → d ≡ c → l ≡ m → Serves model d b t l r k n → Serves model c b t m r k n
serves-read d c k n b t l m r e f h = subst (λ (z : ServeCall). Serves model z b t m r k n) e (subst (λ (z : List ℕ). Serves model d b t z r k n) f h)

-- the reply buffer, in its place, which ends at index e
pub reply-lent : (t vs : List ℕ) (a k e : ℕ) → e ≡ a + k → take a t ++ (vs ++ drop (e - a) (drop a t)) ≡ splice a k vs t
unfolding splice
reply-lent t vs a k e h = let d : e - a ≡ k = omega arith in rw (d, drop-drop)

pub carried-served : (c : ServeCall) (k n v at to : ℕ) (b t l r m x : List ℕ) → Serves model c b t (replicate c.room 170) r k n → length r ≡ c.room → v ≡ sum_of t
    → m ≡ splice (at + 12) c.room r l
    → x ≡ splice at 12 (numbers_of k n v) m
    → to ≡ at + 12 + c.room
    → to ≤ length l
    → Carried (serving c ∷ []) b t l x at to
carried-served c k n v at to b t l r m x h z s e a f g =
    let y : splice at 12 (numbers_of k n (sum_of t)) (splice (at + 12) c.room r l) ≡ splice at (12 + c.room) (numbers_of k n (sum_of t) ++ r) l =
    before-reply at 12 c.room (numbers_of k n (sum_of t)) r l (length-encode ((4, k) ∷ (4, n) ∷ (4, sum_of t) ∷ [])) (omega arith) in
    carried-one (served c (replicate c.room 170) k n t r) b l at to x (sym (length-replicate c.room 170), h) refl
    (numbers-length k n (sum_of t) r ∙ ap (λ (j : ℕ). 12 + j) z) (omega arith) ((rw (s, e) at a) ∙ y)

-- SOME, AND THEN OTHERS
trace-both : (b : List ℕ) (es fs : List Event) → Trace model b es → Trace model (left_by b es) fs → Trace model b (es ++ fs)
trace-both b [] fs p q = q
trace-both b (e ∷ es) fs p q = (p.0, trace-both (table_of e) es fs p.1 q)

left_both : (b : List ℕ) (es fs : List Event) → left_by b (es ++ fs) ≡ left_by (left_by b es) fs
left_both b [] fs = refl
left_both b (e ∷ es) fs = left_both (table_of e) es fs

filled-both : (es fs : List Event) → AllFilled es → AllFilled fs → AllFilled (es ++ fs)
filled-both [] fs p q = q
filled-both (e ∷ es) fs p q = (p.0, filled-both es fs p.1 q)

module _ (cs ds : List Call) (b m t l x y : List ℕ) (from at to : ℕ) where
  pub carried-both : Carried cs b m l x from at → Carried ds m t x y at to → to ≤ length l → Carried (cs ++ ds) b t l y from to
  carried-both p q h =
      let n = answers_length cs in
      let k = answers_length ds in
      let us = flat answer_bytes p.events in
      let vs = flat answer_bytes q.events in
      let fit : from + (n + k) ≤ length l = omega (arith, p.end, q.end) in
      let e : splice at k vs x ≡ splice from (n + k) (us ++ vs) l = rw (p.answers, p.end) (splice-splice from n k us vs l p.size fit) in
      record {
        events = p.events ++ q.events;
        spelled = map-append call_of p.events q.events ∙ (rw (p.spelled, q.spelled));
        trace = trace-both b p.events q.events p.trace (subst (λ (z : List ℕ). Trace model z q.events) (sym p.table) q.trace);
        table = left_both b p.events q.events ∙ ap (λ (z : List ℕ). left_by z q.events) p.table ∙ q.table;
        filled = filled-both p.events q.events p.filled q.filled;
        size = rw (flat_append answer_bytes p.events q.events, length-append, p.size, q.size) (sym (answers-both cs ds));
        end = rw (answers-both cs ds) (omega (arith, p.end, q.end));
        answers = rw (flat_append answer_bytes p.events q.events, answers-both cs ds) (q.answers ∙ e);
      }

-- DEMAND 3
trace-from : (b : List ℕ) (es fs : List Event) → Trace model b (es ++ fs) → Trace model (left_by b es) fs
trace-from b [] fs p = p
trace-from b (e ∷ es) fs p = trace-from (table_of e) es fs p.1

range-from : (es fs : List Event) → AllInRange (es ++ fs) → AllInRange fs
range-from [] fs p = p
range-from (e ∷ es) fs p = range-from es fs p.1

-- of calls in range, by claim 5 and by AnySound
demand3-along : (before : List ℕ) (events : List Event) → AllInRange events → Trace model before events → Demand3Along before events
demand3-along before events ranges trace =
    record {
      begun = λ earlier c b rest e.
          let r = range-from earlier (made c 0 b ∷ rest) (subst AllInRange e ranges) in
          let t = trace-from before earlier (made c 0 b ∷ rest) (subst (Trace model before) e trace) in
          demand3 (left_by before earlier) b c rest r.0 r.1 t.0 t.1;
      onward = λ y g. any-sound.along before y events g ranges trace;
    }

-- A SCRIPT
pub runs-all : (s b t l x : List ℕ) (n : ℕ) → Bytes s → leb (answers_length (calls_in s)) (length l) ≡ true → Carried (calls_in s) b t l x 0 n
    → Runs s b t l x (Some n)
runs-all s b t l x n bytes e p =
    record {
      fits = sym e;
      kept = λ d. absurd (cc);
      carried = λ k d. let q : n ≡ k = cc in subst (Carried (calls_in s) b t l x 0) q p;
      demand3 = λ k d. let q : n ≡ k = cc in
          let r = subst (Carried (calls_in s) b t l x 0) q p in demand3-along b r.events (script-range s bytes r.events r.spelled) r.trace;
    }
