-- What stays along a list of calls: the bytes are those of a table that is related to the tally. Assumes nothing.
use Prim.Native.Nat.{ℕ, zero, suc}
use mathlib.Core.Path.{◌≡◌, refl, sym, ap, ◌∙◌, subst}
use mathlib.Core.Bool.{true, cond}
use mathlib.Core.List.{List}
use lib.ListN.{length}
use lib.Dec.{eqb, eqb-suc-zero}
use Rattle.model.specs.Clock.{valid_reading, place_of}
use Rattle.model.specs.Query.{qdcount, matched}
use Rattle.model.specs.Table.{Layout, Table, table_bytes, read_table, size_of, layout_of}
use Rattle.model.specs.Rules.{holdings}
use Rattle.model.specs.Sound.{SoundBytes, sound_bytes}
use Rattle.model.specs.Serve.{moved_on}
use Rattle.model.specs.Calls.{MakeCall, TickCall, ServeCall, make_refusal, fresh_table, made_by, make, tick_refusal, ticked_by, tick, serve_refusal, table_before, table_after, served_by, serve}
use Rattle.model.specs.Meets.{model}
use Rattle.model.proofs.TableLaws.{length-table}
use Rattle.model.proofs.Meaning.{read-stored, means-sound}
use Rattle.model.proofs.ClockLaws.{placed}
use Rattle.model.proofs.StepLaws.{moved-layout}
use Rattle.model.proofs.CallLaws.{length-facts, make-number, tick-number, serve-number}
use Rattle.claims.specs.Tally.{Tally, Call, making, ticking, serving, move_tally, judged, begin_tally, done_tally, tally_before, tally_after}
use Rattle.claims.specs.Events.{Event, made, ticked, served, call_of, number_of, table_of, Happens, MakeInRange, ServeInRange, InRange}
use Rattle.claims.specs.Demand3.{Agrees}
use Rattle.claims.proofs.LengthLaws.{slots-for}
use Rattle.claims.proofs.Relation.{Related}
use Rattle.claims.proofs.Demand3.Permutations.{alike-is-perm}
use Rattle.claims.proofs.Relation.MoveKeeps.{move-keeps}
use Rattle.claims.proofs.AcceptedCalls.{make-accepted, make-judged, tick-accepted, tick-judged, serve-accepted, serve-judged}
use Rattle.claims.proofs.Demand3.FreshTable.{fresh-related}
use Rattle.claims.proofs.Demand3.TallyLaws.{before-n, before-cycle}
use Rattle.claims.proofs.Relation.DatagramKeeps.{done-le, datagram-keeps}
use Rattle.claims.proofs.Relation.TableTally.{same_layout}

-- THE INVARIANT: bytes of a table that is related to the tally, and of the buffer's length
pub record Invariant (size : ℕ) (b : List ℕ) (y : Tally) : Type 0 where
  pub table : Table
  pub bytes : table_bytes table ≡ b
  pub related : Related table y
  pub room : size_of table.layout y.n ≡ size

module _ {size : ℕ} {b : List ℕ} {y : Tally} (k : Invariant size b y) where
  abbrev pub kept-stored : SoundBytes b
  kept-stored = record { table = k.table; sound = k.related.sound; fits = k.related.fits; bytes = k.bytes }

  pub kept-sound : sound_bytes b ≡ true
  kept-sound = means-sound b kept-stored

  pub kept_back : read_table b ≡ k.table
  kept_back = read-stored b kept-stored

  pub kept-length : length b ≡ size
  kept-length =
      let e = length-table k.table k.related.sound.lines k.related.fits in
      sym (ap length k.bytes) ∙ e ∙ ap (size_of k.table.layout) k.related.n ∙ k.room

  -- a reading that the bytes' weeks allow, the table's do
  pub kept-reading : (week second : ℕ) → valid_reading (read_table b).layout.weeks week second ≡ true → valid_reading k.table.layout.weeks week second ≡ true
  kept-reading week second h = subst (λ (t : Table). valid_reading t.layout.weeks week second ≡ true) kept_back h

  pub kept-agrees : Agrees b y
  kept-agrees =
      record {
        stored = kept-stored;
        cycle = k.related.cycle;
        place = k.related.place;
        running = k.related.running;
        n = k.related.n;
        roster = k.related.roster;
        entries = alike-is-perm (holdings k.table) y.holdings k.related.entries;
      }

-- MAKING

pub make-kept : (c : MakeCall) (b : List ℕ) → MakeInRange c → make_refusal c (length b) ≡ 0
    → Invariant (length b) (table_bytes (fresh_table c (length b))) (begin_tally (length b) c)
unfolding fresh_table
make-kept c b range e =
    let p = make-accepted c (length b) e in
    record {
      table = fresh_table c (length b);
      bytes = refl;
      related = fresh-related c (length b) p range.roster;
      room = sym ((length-facts (length b) p.room).whole ∙ ap (size_of (layout_of (length b))) (slots-for (length b)));
    }

-- the tally after a call of number k
abbrev pub next : ℕ → ℕ → Tally → Call → Tally
next k size y c = cond (eqb k 0) (done_tally size y c) y

pub after_is : (size : ℕ) (y : Tally) (c : Call) (k : ℕ) → judged size c ≡ k → tally_after size y c ≡ next k size y c
unfolding tally_after
after_is size y c k e = ap (λ (k : ℕ). next k size y c) e

refused : {size : ℕ} {b : List ℕ} {y : Tally} (k : ℕ) (c : Call) → Invariant size b y → Invariant size b (next (suc k) size y c)
refused {size} {b} {y} k c x = rw (eqb-suc-zero k) x

made-next : (size : ℕ) (b : List ℕ) (y : Tally) (c : MakeCall) → MakeInRange c → Invariant size b y → (k : ℕ) → make_refusal c (length b) ≡ k
    → Invariant size (made_by k c b).table (next k size y (making c))
made-next size b y c range x zero e =
    subst (λ (n : ℕ). Invariant n (table_bytes (fresh_table c (length b))) (begin_tally n c)) (kept-length x) (make-kept c b range e)
made-next size b y c range x (suc k) e = refused k (making c) x

-- TICKING

ticked-next : (size : ℕ) (b : List ℕ) (y : Tally) (c : TickCall) → Invariant size b y → (k : ℕ) → tick_refusal c b ≡ k
    → Invariant size (ticked_by k c b).table (next k size y (ticking c))
unfolding move_tally
ticked-next size b y c x zero e =
    let at = place_of c.week c.second in
    let v = kept-reading x c.week c.second (tick-accepted c b e) in
    record {
      table = moved_on x.table at;
      bytes = ap (λ (t : Table). table_bytes (moved_on t at)) (sym (kept_back x));
      related = move-keeps x.table y at (placed x.table.layout.weeks c.week c.second v) x.related;
      room = ap (λ (l : Layout). size_of l y.n) (moved-layout x.table at) ∙ x.room;
    }
ticked-next size b y c x (suc k) e = refused k (ticking c) x

-- SERVING

served-next : (size : ℕ) (b lent : List ℕ) (y : Tally) (c : ServeCall) → ServeInRange c → Invariant size b y → (k : ℕ) → serve_refusal c b ≡ k
    → Invariant size (served_by k c b lent).table (next k size y (serving c))
unfolding table_after
served-next size b lent y c range x zero e =
    let p = serve-accepted c b e in
    let i = cond (matched c.datagram) (qdcount c.datagram) 0 in
    let r = datagram-keeps c x.table y range (kept-reading x c.week c.second p.reading) p.questions x.related i (done-le c) in
    let l = same_layout x.table (table_before c x.table i) y (tally_before c y i) x.related r (before-cycle c y i) in
    record {
      table = table_before c x.table i;
      bytes = ap (λ (t : Table). table_bytes (table_before c t i)) (sym (kept_back x));
      related = r;
      room = ap (λ (k : Layout). size_of k (tally_before c y i).n) l ∙ ap (size_of x.table.layout) (before-n c y i) ∙ x.room;
    }
served-next size b lent y c range x (suc k) e = refused k (serving c) x

-- ONE CALL

pub kept_step : (size : ℕ) (b : List ℕ) (y : Tally) (e : Event) → InRange (call_of e) → Invariant size b y → Happens model b e
    → Invariant size (table_of e) (tally_after size y (call_of e))
unfolding make tick serve
kept_step size b y (made c k after) range x h =
    let j : make_refusal c (length b) ≡ judged size (making c) = make-judged c (length b) ∙ ap (λ (n : ℕ). judged n (making c)) (kept-length x) in
    subst (λ (a : List ℕ). Invariant size a (tally_after size y (making c))) (sym h.table)
    (subst (Invariant size (make c b).table) (sym (after_is size y (making c) (make_refusal c (length b)) (sym j)))
    (made-next size b y c range x (make_refusal c (length b)) refl))
kept_step size b y (ticked c k freed after) range x h =
    let j = tick-judged c b size (kept-length x) (kept-sound x) in
    subst (λ (a : List ℕ). Invariant size a (tally_after size y (ticking c))) (sym h.table)
    (subst (Invariant size (tick c b).table) (sym (after_is size y (ticking c) (tick_refusal c b) (sym j)))
    (ticked-next size b y c x (tick_refusal c b) refl))
kept_step size b y (served c lent k n after left) range x h =
    let j = serve-judged c b size (kept-length x) (kept-sound x) in
    subst (λ (a : List ℕ). Invariant size a (tally_after size y (serving c))) (sym h.1.table)
    (subst (Invariant size (serve c b lent).table) (sym (after_is size y (serving c) (serve_refusal c b) (sym j)))
    (served-next size b lent y c range x (serve_refusal c b) refl))

pub number_step : (size : ℕ) (b : List ℕ) (y : Tally) (e : Event) → Invariant size b y → Happens model b e → number_of e ≡ judged size (call_of e)
number_step size b y (made c k after) x h =
    h.number ∙ make-number c b ∙ make-judged c (length b) ∙ ap (λ (n : ℕ). judged n (making c)) (kept-length x)
number_step size b y (ticked c k freed after) x h = h.number ∙ tick-number c b ∙ tick-judged c b size (kept-length x) (kept-sound x)
number_step size b y (served c lent k n after left) x h =
    h.1.number ∙ serve-number c b lent ∙ serve-judged c b size (kept-length x) (kept-sound x)
