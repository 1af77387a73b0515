-- `table::make_fresh` meets its contract. Assumes nothing.
use Prim.Native.Nat.{ℕ}
use native.Mathlib.Omega.{arith}
use mathlib.Core.Path.{sym, ap, ◌∙◌, subst}
use Rattle.model.specs.Numbers.{Bytes}
use Rattle.model.specs.Table.{lines_at, base, place_bytes}
use Rattle.model.proofs.CallLaws.{given-roster}
use Rattle.layout.specs.Places.{LayoutFor}
use Rattle.layout.proofs.PartLaws.{tail_written}
use Rattle.table.proofs.FreshLaws as made
use Rattle.table.proofs.make_fresh.Goals as goal

pub put_clock-requires : goal.put_clock-requires
put_clock-requires c =
    let k = c.put8.auto.s in
    let same = ap place_bytes c.requires.0.0 in
    (subst (λ (n : ℕ). LayoutFor c.args.l n) (sym k) c.requires.0, omega (arith, c.requires, k), c.requires.3)

pub copy-requires : goal.copy-requires
copy-requires c =
    let g = given-roster c.args.l.n c.args.roster.now c.requires.2 in
    let same = ap place_bytes c.requires.0.0 in
    (omega (arith, g.whole, g.few), omega (arith, g.whole, g.few))

pub clear_lines-requires : goal.clear_lines-requires
clear_lines-requires c =
    let g = given-roster c.args.l.n c.args.roster.now c.requires.2 in
    let same = ap place_bytes c.requires.0.0 in
    (omega (arith, g.few), omega (arith, g.few))

pub returns : goal.returns
returns c =
    let a = c.args in
    let bytes : Bytes a.roster.now = λ j. omega (arith, c.type_inv.roster j) in
    let e = sym c.requires.0.0 in
    let lines = c.requires.0.1 ∙ ap lines_at e in
    let slots = c.requires.0.2 ∙ ap base e in
    made.fresh-written a.roster.now bytes a.l.n c.requires.2 a.t.now _ a.place c.requires.1 c.clock_kind.ensures lines c.put8.ensures c.put_clock.ensures
    c.copy.ensures (tail_written _ _ _ _ lines c.clear_lines.ensures) (tail_written _ 0 _ _ slots c.clear_slots.ensures)
