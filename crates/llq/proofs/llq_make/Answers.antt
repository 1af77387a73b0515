-- `llq::llq_make` meets its contract. Assumes nothing.
use mathlib.Core.Path.{sym, ap, ◌∙◌}
use native.Mathlib.Omega.{arith}
use Prim.Native.Nat.{ℕ}
use lib.ListN.{length}
use Rattle.model.specs.Table.{place_bytes}
use Rattle.layout.specs.Places.{layout_in}
use Rattle.model.specs.Calls.{good_roster}
use Rattle.llq.proofs.LadderLaws as ladder
use Rattle.model.proofs.CallLaws.{length-facts}
use Rattle.llq.proofs.AnswerLaws.{fresh-is, reading-tested, reading-place}
use Rattle.llq.proofs.llq_make.Goals as goal

pub returns-then-not-table_length : goal.returns-then-not-table_length
returns-then-not-table_length c = ladder.make-length _ _ (sym c.table_length.ensures ∙ c.if-not-table_length.true)

pub returns-then-not-valid : goal.returns-then-not-valid
returns-then-not-valid c =
    let e = sym c.table_length.ensures ∙ c.if-not-table_length.false in
    ladder.make-reading _ _ e (reading-tested (length c.args.t.now) c.args.week c.args.second c.of-l.ensures.0 c.valid.ensures (c.if-not-valid.true))

pub returns-then-not-roster_sound : goal.returns-then-not-roster_sound
returns-then-not-roster_sound c =
    let whole = sym c.table_length.ensures ∙ c.if-not-table_length.false in
    let read = reading-tested (length c.args.t.now) c.args.week c.args.second c.of-l.ensures.0 c.valid.ensures c.if-not-valid.false in
    ladder.make-roster _ _ whole read (ap (λ (k : ℕ). good_roster k c.args.roster.now) (sym c.of-l.ensures.3) ∙ sym c.roster_sound.ensures ∙ c.if-not-roster_sound.true)

pub make_fresh-requires : goal.make_fresh-requires
make_fresh-requires c =
    let right = (length-facts _ (sym c.table_length.ensures ∙ c.if-not-table_length.false)).whole in
    let o = c.of-l.ensures in
    let same = ap place_bytes o.0 in (
      o,
      omega (arith, right, o.3, same),
      sym c.roster_sound.ensures ∙ c.if-not-roster_sound.false,
      reading-place (layout_in c.of-l.result) _ _ c.valid.ensures (c.if-not-valid.false) c.place.ensures,
    )

pub returns : goal.returns
returns c =
    let whole = sym c.table_length.ensures ∙ c.if-not-table_length.false in
    let read = reading-tested (length c.args.t.now) c.args.week c.args.second c.of-l.ensures.0 c.valid.ensures c.if-not-valid.false in
    let fresh = fresh-is _ _ _ _ _ c.of-l.ensures.0 c.place.ensures c.of-l.ensures.3 in
    ladder.make-done _ _ _ whole read (ap (λ (k : ℕ). good_roster k c.args.roster.now) (sym c.of-l.ensures.3) ∙ sym c.roster_sound.ensures ∙ c.if-not-roster_sound.false) (c.make_fresh.ensures ∙ fresh)
