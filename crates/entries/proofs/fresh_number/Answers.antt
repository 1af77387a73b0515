-- `entries::fresh_number` meets its contract. Assumes nothing.
use Rattle.std.proofs.Common.{◌≡◌, ◌+◌, ◌-◌, sym, ◌∙◌, arith}
use Rattle.std.proofs.lemmas.Bool.{not-true, not-false}
use Rattle.entries.proofs.Laws as law
use Rattle.entries.proofs.fresh_number.Goals as goal

pub returns-then-is_fresh : goal.returns-then-is_fresh
returns-then-is_fresh c =
    sym (c.loop.invariant ∙ law.fresh-here (c.args.slots.n + 2 - c.loop.counter) _ c.loop.x (omega arith) (omega arith) (not-true _ (sym c.is_fresh.ensures ∙ c.if-is_fresh.true)))

pub loop-preserved : goal.loop-preserved
loop-preserved c =
    let left : c.args.slots.n + 2 - (c.loop.counter + 1) ≡ c.args.slots.n + 2 - c.loop.counter - 1 = omega arith in
    rw left (c.loop.invariant ∙ law.fresh-next (c.args.slots.n + 2 - c.loop.counter) _ c.loop.x _ (omega arith) (omega arith) (omega arith) (not-false _ (sym c.is_fresh.ensures ∙ c.if-is_fresh.false)))

pub returns : goal.returns
returns c =
    let none : c.args.slots.n + 2 - c.loop.counter ≡ 0 = omega arith in
    sym (c.loop.invariant ∙ (rw none (law.fresh-none _ _)))
