-- `roster::Lines::share_sum` meets its contract: the sum of the lines passed. Assumes nothing.
use mathlib.Core.Path.{◌≡◌, refl}
use native.Mathlib.Omega.{arith}
use borrow.Author.Rules.{rules}
use Prim.Native.Nat.{◌*◌}
use Rattle.model.specs.Lists.{up_to}
use Rattle.model.specs.Table.{read_line}
use Rattle.model.specs.Rules.{shares}
use Rattle.layout.proofs.LineLaws.{shares-next}
use Rattle.roster.proofs.Lines.share_sum.Goals as goal

pub loop-i-init : goal.loop-i-init
unfolding shares up_to
loop-i-init c = (search rules, search rules, refl)

pub loop-i-preserved : goal.loop-i-preserved
unfolding read_line
loop-i-preserved c =
    let e : c.share.result ≡ (read_line c.args.self.bytes.now (19 * c.loop-i.i)).share = rw (c.share.ensures, c.line.ensures.0, c.line.ensures.1) in
    (omega arith, omega arith, rw (shares-next _ c.loop-i.i) (omega arith))

pub returns : goal.returns
returns c =
    let e : c.loop-i.i ≡ c.args.self.count = omega arith in
    rw (← e) c.loop-i.invariant.2
