-- Claim 4 of the model: an answered tick. Assumes nothing.
use Prim.Native.Nat.{ℕ}
use mathlib.Core.Path.{◌≡◌, sym, ap, ◌∙◌}
use mathlib.Core.List.{List}
use Rattle.model.specs.Clock.{place_of}
use Rattle.model.specs.Table.{read_table, table_bytes}
use Rattle.model.specs.Rules.{holdings}
use Rattle.model.specs.Sound.{SoundBytes}
use Rattle.model.specs.Serve.{moved_on}
use Rattle.model.specs.Calls.{TickCall, tick_refusal, freed_by}
use Rattle.model.specs.Meets.{model}
use Rattle.model.proofs.ListLaws.{count-any}
use Rattle.model.proofs.ClockLaws.{placed}
use Rattle.model.proofs.CallLaws.{tick-number, tick-answered}
use Rattle.claims.specs.Tally.{move_tally}
use Rattle.claims.specs.Tick.{TickDone, Ticking}
use Rattle.claims.specs.AnySound.{tally_of}
use Rattle.claims.proofs.AcceptedCalls.{tick-accepted}
use Rattle.claims.proofs.Relation.MoveKeeps.{move-keeps, freed-count}
use Rattle.claims.proofs.Changes.MovedLaws.{moved_on_lem}
use Rattle.claims.proofs.Relation.TableTally.{related-read, read_back}

-- from a table to the bytes of the one moved on
moved-done : (c : TickCall) (b : List ℕ) → SoundBytes b → tick_refusal c b ≡ 0
    → TickDone c b (table_bytes (moved_on (read_table b) (place_of c.week c.second))) (freed_by (read_table b) (place_of c.week c.second))
moved-done c b s e =
    let at = place_of c.week c.second in
    let t = read_table b in
    let u = moved_on t at in
    let r = move-keeps t (tally_of t) at (placed t.layout.weeks c.week c.second (tick-accepted c b e)) (related-read b s) in
    let back : read_table (table_bytes u) ≡ u = read_back u (move_tally (tally_of t) at) r in
    record {
      moved = rw back (moved_on_lem t at);
      bytes = ap table_bytes (sym back);
      count = rw (back, ← count-any (holdings u), ← count-any (holdings t)) (freed-count t at);
    }

pub ticking : Ticking model
ticking c b range s h = let e = sym (tick-number c b) ∙ h in rw (tick-answered c b e) (moved-done c b s e)
