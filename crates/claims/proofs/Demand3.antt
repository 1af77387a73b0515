-- Claim 5, demand 3, of the model's server. Assumes nothing.
pub mod Permutations
pub mod FreshTable
pub mod TallyLaws
pub mod CallSteps
pub mod OptionReplies
pub mod CallCounts
use Prim.Native.Nat.{ℕ}
use mathlib.Core.Path.{◌≡◌, sym, ap, ◌∙◌, subst}
use mathlib.Core.Bool.{true}
use mathlib.Core.List.{List, [], ◌∷◌}
use lib.ListN.{length}
use Rattle.model.specs.Calls.{Made, table_length, make_refusal, made_by}
use Rattle.model.specs.Meets.{model}
use Rattle.model.proofs.CallLaws.{make-number, make-answered, serve-number}
use Rattle.claims.specs.Tally.{Tally, begin_tally, tally_after}
use Rattle.claims.specs.Events.{Event, made, ticked, served, call_of, table_of, Happens, Trace, InRange, AllInRange}
use Rattle.claims.specs.Demand3.{DatagramReply, Replied, Holds, Along, Demand3}
use Rattle.claims.proofs.AcceptedCalls.{make-accepted, other-than-one}
use Rattle.claims.proofs.Relation.HoldingFacts.{within-limits}
use Rattle.claims.proofs.Demand3.CallSteps.{Invariant, kept-agrees, make-kept, kept_step, number_step}
use Rattle.claims.proofs.Demand3.OptionReplies.{replied}
use Rattle.claims.proofs.Demand3.CallCounts.{counted_step, refused-step}

replied-step : (size : ℕ) (b : List ℕ) (y : Tally) (e : Event) → InRange (call_of e) → Invariant size b y → Happens model b e → Replied e y
replied-step size b y (made c k after) range x h = tt
replied-step size b y (ticked c k freed after) range x h = tt
replied-step size b y (served c lent k n after left) range x h =
    λ z. subst (λ (l : List ℕ). DatagramReply c l y) (sym h.1.reply)
    (replied size b lent y c range x h.0 (sym (serve-number c b lent) ∙ sym h.1.number ∙ z))

holds-step : (size : ℕ) (b : List ℕ) (y : Tally) (e : Event) → table_length size ≡ true → InRange (call_of e) → Invariant size b y → Happens model b e → Holds size y e
holds-step size b y e g range x h =
    let n = number_step size b y e x h in
    let w = kept_step size b y e range x h in
    record {
      sound = λ z. other-than-one size g (call_of e) (sym n ∙ z);
      number = n;
      agrees = kept-agrees w;
      limits = within-limits w.table (tally_after size y (call_of e)) w.related;
      replied = replied-step size b y e range x h;
      counted = counted_step size b y e x h;
      refused = refused-step b e h;
    }

pub along : (size : ℕ) (b : List ℕ) (y : Tally) (es : List Event) → table_length size ≡ true → AllInRange es → Invariant size b y → Trace model b es → Along size y es
along size b y [] g ranges x h = tt
along size b y (e ∷ es) g ranges x h =
    (holds-step size b y e g ranges.0 x h.0, along size (table_of e) (tally_after size y (call_of e)) es g ranges.1 (kept_step size b y e ranges.0 x h.0) h.1)

pub demand3 : Demand3 model
demand3 before after c es range ranges h trace =
    let e : make_refusal c (length before) ≡ 0 = sym (h.number ∙ make-number c before) in
    let m : after ≡ (made_by 0 c before).table = h.table ∙ ap (λ (a : Made). a.table) (make-answered c before e) in
    let x : Invariant (length before) after (begin_tally (length before) c) =
    subst (λ (a : List ℕ). Invariant (length before) a (begin_tally (length before) c)) (sym m) (make-kept c before range e) in
    (kept-agrees x, along (length before) after (begin_tally (length before) c) es (make-accepted c (length before) e).room ranges x trace)
