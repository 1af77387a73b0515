-- What a call of a list returns beside its number: a tick's freed count, a datagram's length. Assumes nothing.
use Prim.Native.Nat.{ℕ, ◌+◌}
use native.Mathlib.Omega.{arith}
use mathlib.Core.Path.{◌≡◌, refl, sym, ap, ◌∙◌}
use mathlib.Core.List.{List}
use mathlib.Core.Logic.{◌≢◌}
use lib.ListN.{length}
use Rattle.model.specs.Lists.{any}
use Rattle.model.specs.Clock.{place_of}
use Rattle.model.specs.Calls.{TickCall, ServeCall, Answered, tick_refusal, tick, serve_refusal, serve}
use Rattle.model.specs.Meets.{model}
use Rattle.model.proofs.ListLaws.{count-any}
use Rattle.model.proofs.ClockLaws.{placed}
use Rattle.model.proofs.CallLaws.{tick-number, tick-answered, serve-number, serve-answered}
use Rattle.claims.specs.Tally.{Tally, ticking, move_tally, tally_after}
use Rattle.claims.specs.Events.{Event, made, ticked, served, number_of, Happens}
use Rattle.claims.specs.Refusals.{BehindQuestions, length_of}
use Rattle.claims.specs.Demand3.{count_of, Counted}
use Rattle.claims.proofs.AcceptedCalls.{tick-accepted, tick-judged, serve-accepted}
use Rattle.claims.proofs.Refusals.{behind, length-is, refusals}
use Rattle.claims.proofs.Relation.MoveKeeps.{move-keeps, freed-count}
use Rattle.claims.proofs.Demand3.CallSteps.{Invariant, kept-sound, kept_back, kept-length, kept-reading, after_is}

-- an answered tick frees as many as are struck from the tally
tick-freed : (size : ℕ) (b : List ℕ) (y : Tally) (c : TickCall) → Invariant size b y → tick_refusal c b ≡ 0
    → (tick c b).freed + length (tally_after size y (ticking c)).holdings ≡ length y.holdings
tick-freed size b y c x e =
    let at = place_of c.week c.second in
    let t = x.table in
    let v = kept-reading x c.week c.second (tick-accepted c b e) in
    let r = move-keeps t y at (placed t.layout.weeks c.week c.second v) x.related in
    let a : tally_after size y (ticking c) ≡ move_tally y at = after_is size y (ticking c) 0 (sym (tick-judged c b size (kept-length x) (kept-sound x)) ∙ e) in
    rw (a, tick-answered c b e, kept_back x)
    (omega (arith, freed-count t at, r.entries any, x.related.entries any, count-any (move_tally y at).holdings, count-any y.holdings))

-- an answered datagram's length
serve-length : (b lent : List ℕ) (c : ServeCall) → serve_refusal c b ≡ 0 → BehindQuestions c.datagram (λ at. (serve c b lent).length ≡ length_of c.datagram at)
serve-length b lent c e =
    behind c.datagram (serve-accepted c b e).questions (λ at. (serve c b lent).length ≡ length_of c.datagram at)
    (ap (λ (a : Answered). a.length) (serve-answered c b lent e) ∙ length-is c.datagram)

pub counted_step : (size : ℕ) (b : List ℕ) (y : Tally) (e : Event) → Invariant size b y → Happens model b e → number_of e ≡ 0 → Counted size y e
counted_step size b y (made c k after) x h z = tt
counted_step size b y (ticked c k freed after) x h z =
    rw h.freed (tick-freed size b y c x (sym (tick-number c b) ∙ sym h.number ∙ z))
counted_step size b y (served c lent k bytes after left) x h z =
    rw h.1.length (serve-length b lent c (sym (serve-number c b lent) ∙ sym h.1.number ∙ z))

-- a refused call's count is 0, by claim 1
pub refused-step : (b : List ℕ) (e : Event) → Happens model b e → number_of e ≢ 0 → count_of e ≡ 0
refused-step b (made c k after) h n = refl
refused-step b (ticked c k freed after) h n = h.freed ∙ (refusals.tick_refused c b (λ z. n (h.number ∙ z))).1
refused-step b (served c lent k bytes after left) h n = h.1.length ∙ (refusals.serve_refused c b lent (λ z. n (h.1.number ∙ z))).2
