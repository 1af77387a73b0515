-- What the writers leave is the answer, and a call that answers meets the model. Assumes nothing.
use Rattle.std.specs.Prelude.{Ok}
use Prim.Native.Nat.{ℕ, ◌+◌, ◌*◌, ◌≤◌, ◌<◌}
use native.Mathlib.Omega.{arith}
use mathlib.Core.Path.{◌≡◌, refl, sym, ap, ◌∙◌, subst}
use mathlib.Core.Bool.{Bool, true, false, not, cond}
use mathlib.Core.List.{List, [], ◌∷◌, ◌++◌, append-nil}
use lib.ListN.{length, drop}
use borrow.Author.Tests.{le-ltb, leb-true}
use Rattle.model.specs.Lists.{count, flat, up_to}
use Rattle.model.specs.Numbers.{splice}
use Rattle.model.specs.Clock.{cycle_of, valid_reading, place_of, advance, age_at}
use Rattle.model.specs.Query.{Question, LlqOption, qdcount, questions_end, matched, question, llq_option}
use Rattle.model.specs.Table.{Slot, free, held, Layout, Table, table_bytes, read_table, layout_of, slots_in, cycle_in}
use Rattle.model.specs.Rules.{Holding}
use Rattle.model.specs.Sound.{live, sound_bytes}
use Rattle.model.specs.Serve.{Sender, Outcome, has, serve_option, moved_on, slot_run_out}
use Rattle.model.specs.Reply.{option_bytes, reply_bytes, reply_length, mismatch}
use Rattle.model.specs.Calls.{MakeCall, ServeCall, freed_by, fresh_table}
use Rattle.model.specs.Meets.{ServeMeets}
use Rattle.model.proofs.ListLaws.{count-le, count-mono, length-up_to}
use Rattle.model.proofs.HoldingLaws.{count_entries}
use Rattle.model.proofs.Meaning.{bytes_back as sound-formed, table-sound, layout-read}
use Rattle.model.proofs.ClockLaws.{placed}
use Rattle.query.specs.declared.Query.{Query}
use Rattle.query.specs.Whole.{query_refusal, QueryOf}
use Rattle.layout.specs.declared.Layout as code
use Rattle.layout.specs.Places.{layout_in, LayoutFor}
use Rattle.llq.specs.Refused.{Finds}
use Rattle.table.specs.Written.{WellFormed, Written}
use Rattle.table.specs.Fresh.{fresh}
use Rattle.llq.specs.Answer.{Measures, Matches, QuestionsOf, table_from, outcome_from, before_options, table_done, outcomes_done, Answers}
use Rattle.llq.proofs.ReplyLaws.{length-matched, length-mismatched, options-none, options-next, reply-written}
use Rattle.llq.proofs.OrderLaws.{from-none, from_next, outcome-next, start, after_is, outcomes-is}
use Rattle.llq.proofs.LadderLaws.{no_room, serve-done}

-- WHAT A SOUND TABLE GIVES

pub sound-place : (b : List ℕ) {l : Layout} → l ≡ layout_of (length b) → sound_bytes b ≡ true → (read_table b).clock.place < cycle_of l.weeks
sound-place b {l} e h =
    let c : cycle_in (read_table b) ≡ cycle_of l.weeks = ap (λ (k : Layout). cycle_of k.weeks) (layout-read b ∙ sym e) in
    rw c at (table-sound b h).place

-- the reading's test by the layout that was worked out is that by the length
pub reading-tested : (size : ℕ) {l : Layout} (week second : ℕ) {r v : Bool} → l ≡ layout_of size → r ≡ valid_reading l.weeks week second → r ≡ v
    → valid_reading (layout_of size).weeks week second ≡ v
reading-tested size week second e f g = ap (λ (k : Layout). valid_reading k.weeks week second) (sym e) ∙ sym f ∙ g

-- a reading that is taken lies on the table's cycle
pub reading-place : {r : Bool} (l : Layout) (week second : ℕ) {p : ℕ} → r ≡ valid_reading l.weeks week second → r ≡ true → p ≡ place_of week second → p < cycle_of l.weeks
reading-place l week second f g e = rw e (placed l.weeks week second (sym f ∙ g))

out-dead : (r : ℕ) (x : Slot) → slot_run_out r x ≡ true → has r (λ k. not (live k)) x ≡ true
unfolding slot_run_out has
out-dead r free e = e
out-dead r (held e) z = rw (le-ltb (age_at r e.stamp) e.lease (leb-true e.lease (age_at r e.stamp) z))

-- no entry of a sound table has run out
pub sound-live : (b : List ℕ) → sound_bytes b ≡ true → count (read_table b).slots (slot_run_out (read_table b).clock.running) ≡ 0
sound-live b h =
    let t = read_table b in
    let dead : Holding → Bool = λ k. not (live k) in
    let some = count-mono t.slots (slot_run_out t.clock.running) (has t.clock.running dead) (out-dead t.clock.running) in
    let all = count_entries t.clock.running t.slots dead in
    omega (arith, some, all, (table-sound b h).ages)

-- what moving the clock of a sound table on asks, where its layout is found
pub found-moves : (b : List ℕ) (l : code.Layout) (week second p : ℕ) → Finds week second b (Ok l) → p ≡ place_of week second
    → WellFormed b × LayoutFor l (length b) × ((read_table b).clock.place < cycle_of (layout_in l).weeks) × (p < cycle_of (layout_in l).weeks)
    × (count (read_table b).slots (slot_run_out (read_table b).clock.running) ≡ 0)
found-moves b l week second p f e =
    let v : valid_reading (layout_in l).weeks week second ≡ true = subst (λ (k : Layout). valid_reading k.weeks week second ≡ true) (sym f.2.0) f.1 in
    (sound-formed b f.0, f.2, sound-place b f.2.0 f.0, reading-place (layout_in l) week second refl v e, sound-live b f.0)

-- a tick's count fits its field
pub freed-few : (b : List ℕ) (p : ℕ) → sound_bytes b ≡ true → freed_by (read_table b) p ≤ 64
unfolding freed_by
freed-few b p h =
    let t = read_table b in
    let few = count-le t.slots (slot_run_out (advance (cycle_in t) t.clock p).running) in
    omega (arith, few, (table-sound b h).slots_max)

-- what making writes is the model's fresh table
pub fresh-is : (c : MakeCall) (l : Layout) (p n size : ℕ) → l ≡ layout_of size → p ≡ place_of c.week c.second → n ≡ slots_in size
    → table_bytes (fresh l p c.roster n) ≡ table_bytes (fresh_table c size)
unfolding fresh_table
fresh-is c l p n size g e f = rw (g, e, f)

-- what a query gives the writers: its measures, and its questions in order
pub measures : (d : List ℕ) (q : Query) → QueryOf d q → Measures d q.count q.end
measures d q h = record { count = h.count; at_most = h.at_most; end = h.end; from = h.from; within = h.within }

pub questions-of : (d : List ℕ) (q : Query) → QueryOf d q → QuestionsOf d q.count q.questions
questions-of d q h i e l = (h.question i e l, h.placed i e l, h.len i e l)

-- THE OPTIONS IN ORDER

-- the first i are served, and their outcomes stand in the reply from index at on
pub record ServedTo (s : Sender) (r : ℕ) (d before after lent left : List ℕ) (at i : ℕ) : Type 0 where
  pub table : Written after (table_from s r d (read_table before) i)
  pub reply : left ≡ splice at (22 * i) (flat option_bytes (up_to i (outcome_from s r d (read_table before)))) lent

module _ (s : Sender) (r : ℕ) (d b lent : List ℕ) (at : ℕ) where
  pub served_none : WellFormed b → ServedTo s r d b b lent lent at 0
  served_none formed =
      record {
        table = record { bytes = sym formed ∙ ap table_bytes (sym (from-none s r d (read_table b))); read = sym (from-none s r d (read_table b)) };
        reply = sym (options-none (outcome_from s r d (read_table b)) at lent);
      }

  -- one option more, as the code has it: o, on question q
  module _ (i : ℕ) (u x : List ℕ) (h : ServedTo s r d b u lent x at i) (q : Question) (o : LlqOption) (f : q ≡ question d i) (g : o ≡ llq_option d i) where
    pub served-next : (v y : List ℕ) → Written v (serve_option s r q o (read_table u)).table
        → y ≡ splice (at + 22 * i) 22 (option_bytes (serve_option s r q o (read_table u)).outcome) x → at + 22 * (i + 1) ≤ length lent
        → ServedTo s r d b v lent y at (i + 1)
    served-next v y w k l =
        let e = from_next s r d (read_table b) i (read_table u) q o h.table.read f g in
        let out = outcome_from s r d (read_table b) in
        let here = outcome-next s r d (read_table b) i (read_table u) q o h.table.read f g in
        record {
          table = record { bytes = w.bytes ∙ ap table_bytes e; read = w.read ∙ e };
          reply =
              k ∙ (ap (λ (z : Outcome). splice (at + 22 * i) 22 (option_bytes z) x) here
              ∙ (ap (splice (at + 22 * i) 22 (option_bytes (out i))) h.reply ∙ options-next out at i lent l));
        }

-- THE ANSWER'S BYTES

module _ (s : Sender) (r : ℕ) (d b lent : List ℕ) (n end : ℕ) (v : Bool) (h : Measures d n end) (t : Matches d v) (fits : reply_length d ≤ length lent) where
  from : 12 ≤ questions_end d
  from = omega (arith, h.end, h.from)

  within : questions_end d ≤ length d
  within = omega (arith, h.end, h.within)

  pub answers-matched : (after left : List ℕ) → v ≡ true → Written after (table_from s r d (read_table b) n)
      → left ≡ splice (end + 11) (22 * n) (flat option_bytes (up_to n (outcome_from s r d (read_table b))))
      (splice 0 (end + 11) (before_options d n) lent)
      → Answers s r d b after lent left
  answers-matched after left e w l =
      let m : matched d ≡ true = sym t ∙ e in
      let f = outcome_from s r d (read_table b) in
      let size : questions_end d + 11 + 22 * qdcount d ≡ reply_length d = rw (h.end, h.count) at (length-matched d n end v h t e) in
      let k : n ≡ cond (matched d) (qdcount d) 0 = h.count ∙ sym (ap (λ (w : Bool). cond w (qdcount d) 0) m) in
      let whole = reply-written d (up_to (qdcount d) f) (qdcount d) lent from within (length-up_to (qdcount d) f) (omega (arith, size, fits)) in
      let os : up_to (qdcount d) f ≡ outcomes_done s r d (read_table b) = sym (ap (λ (w : Bool). cond w (up_to (qdcount d) f) (mismatch ∷ [])) m) in
      record {
        table = w.bytes ∙ ap (λ (m : ℕ). table_bytes (table_from s r d (read_table b) m)) k;
        reply =
            (rw (h.end, h.count) at l)
            ∙ (whole ∙ (ap (λ (m : ℕ). reply_bytes d (up_to (qdcount d) f) ++ drop m lent) size ∙ ap (λ (x : List Outcome). reply_bytes d x ++ drop (reply_length d) lent) os));
      }

  pub answers-mismatched : (left : List ℕ) → v ≡ false → WellFormed b
      → left ≡ splice (end + 11) 22 (option_bytes mismatch) (splice 0 (end + 11) (before_options d 1) lent) → Answers s r d b b lent left
  unfolding table_from flat
  answers-mismatched left e formed l =
      let m : matched d ≡ false = sym t ∙ e in
      let f = outcome_from s r d (read_table b) in
      let size : questions_end d + 11 + 22 * 1 ≡ reply_length d = omega (arith, h.end, length-mismatched d n end v h t e) in
      let one : flat option_bytes (mismatch ∷ []) ≡ option_bytes mismatch = append-nil (option_bytes mismatch) in
      let whole = reply-written d (mismatch ∷ []) 1 lent from within refl (omega (arith, size, fits)) in
      let os : mismatch ∷ [] ≡ outcomes_done s r d (read_table b) = sym (ap (λ (w : Bool). cond w (up_to (qdcount d) f) (mismatch ∷ [])) m) in
      let bytes : left ≡ splice (questions_end d + 11) (22 * 1) (flat option_bytes (mismatch ∷ [])) (splice 0 (questions_end d + 11) (before_options d 1) lent) =
      rw one (rw h.end at l) in
      record {
        table = sym formed ∙ sym (ap (λ (w : Bool). table_bytes (table_from s r d (read_table b) (cond w (qdcount d) 0))) m);
        reply = bytes ∙ (whole ∙ (ap (λ (m : ℕ). reply_bytes d (mismatch ∷ []) ++ drop m lent) size ∙ ap (λ (x : List Outcome). reply_bytes d x ++ drop (reply_length d) lent) os));
      }

-- THE ANSWERED CALL

-- the clock moved and run-out entries freed, then the answer written
pub serve-answered : (c : ServeCall) (b mid after reply left : List ℕ) (p k : ℕ) → sound_bytes b ≡ true → valid_reading (layout_of (length b)).weeks c.week c.second ≡ true
    → query_refusal c.datagram ≡ 0 → no_room c b reply ≡ false → k ≡ reply_length c.datagram → p ≡ place_of c.week c.second
    → Written mid (moved_on (read_table b) p) → Answers c.sender c.random c.datagram mid after reply left → ServeMeets c b after reply left 0 k
serve-answered c b mid after reply left p k e f g h l z w a =
    let s = c.sender in
    let r = c.random in
    let d = c.datagram in
    let t = read_table b in
    let moved : read_table mid ≡ start c t = w.read ∙ ap (moved_on t) z in
    serve-done c b reply after left k e f g h l (a.table ∙ (ap (λ (u : Table). table_bytes (table_done s r d u)) moved ∙ ap table_bytes (sym (after_is c t))))
    (a.reply
    ∙ (ap (λ (u : Table). reply_bytes d (outcomes_done s r d u) ++ drop (reply_length d) reply) moved
    ∙ ap (λ (os : List Outcome). reply_bytes d os ++ drop (reply_length d) reply) (sym (outcomes-is c t))))
