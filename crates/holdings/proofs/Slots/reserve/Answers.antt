-- `holdings::Slots::reserve` meets its contract: the reserve of the lines passed. Assumes nothing.
use mathlib.Core.Path.{◌≡◌, refl}
use native.Mathlib.Omega.{arith}
use borrow.Author.Rules.{rules}
use Rattle.model.specs.Lists.{up_to}
use Rattle.model.specs.Rules.{reserve}
use Rattle.layout.proofs.LineLaws.{reserve-next}
use Rattle.holdings.proofs.Slots.reserve.Goals as goal

pub loop-i-init : goal.loop-i-init
unfolding reserve up_to
loop-i-init c = (search rules, search rules, refl)

pub loop-i-preserved : goal.loop-i-preserved
loop-i-preserved c =
    let l = c.loop-i in
    (omega arith, omega arith, rw (reserve-next _ l.i _) (omega (arith, c.line_reserve-kept.ensures.1)))

pub returns : goal.returns
returns c =
    let e : c.loop-i.i ≡ c.args.lines.count = omega arith in
    (omega arith, rw (← e) c.loop-i.invariant.2)
