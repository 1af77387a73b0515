-- `holdings::Slots::line_reserve` meets its contract: a share of 0 keeps nothing back, whoever holds what. Assumes nothing.
use mathlib.Core.Path.{◌∙◌}
use native.Mathlib.Omega.{arith}
use Rattle.holdings.proofs.Slots.line_reserve.Goals as goal

pub returns-then-share-eq0 : goal.returns-then-share-eq0
returns-then-share-eq0 c =
    let e = rw (c.line-line.ensures.0, c.line-line.ensures.1) at (c.from-share.ensures ∙ c.share.ensures) in
    (omega arith, omega (arith, e))

pub returns : goal.returns
returns c =
    let l = c.share_less_held.ensures in
    let e = c.from-share.ensures ∙ c.share.ensures in
    (omega (arith, l, e, c.share.type_inv), rw (← c.line-line.ensures.0, ← c.line-line.ensures.1, ← c.address.ensures, ← e) l)
