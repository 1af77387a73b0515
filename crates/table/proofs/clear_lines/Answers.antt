-- `table::clear_lines` meets its contract. Assumes nothing.
use Rattle.std.proofs.Common.{◌≡◌, ◌+◌, ◌-◌, refl, ◌∙◌, arith}
use Rattle.table.proofs.FreshLaws as made
use Rattle.table.proofs.clear_lines.Goals as goal

pub loop-i-init : goal.loop-i-init
loop-i-init c =
    let none : c.args.m - c.args.m ≡ 0 = omega arith in
    (refl, rw none (made.lines_none _ _))

pub loop-i-preserved : goal.loop-i-preserved
loop-i-preserved c =
    let l = c.loop-i in
    let at : c.args.m + (l.i - c.args.m) ≡ l.i = omega arith in
    let next : l.i + 1 - c.args.m ≡ l.i - c.args.m + 1 = omega arith in
    (c.clear_line.auto.lines ∙ l.invariant.0, rw next (made.lines_more c.args.lines.now l.lines _ c.args.m (l.i - c.args.m) (omega arith) l.invariant.1 (rw at c.clear_line.ensures)))

pub returns : goal.returns
returns c =
    let e : c.loop-i.i ≡ 16 = omega arith in
    rw e at c.loop-i.invariant.1
