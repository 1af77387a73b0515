-- `octets::zero_both` meets its contract: each `or` is zero exactly if the bytes passed in its range are. Assumes nothing.
use Prim.Native.Nat.{◌+◌}
use mathlib.Core.Path.{◌≡◌, refl, ◌∙◌}
use native.Mathlib.Omega.{arith}
use borrow.Author.Rules.{rules}
use Rattle.model.specs.Lists.{same}
use Rattle.model.specs.Numbers.{part}
use Rattle.octets.proofs.Cover.{or-zero, or-next}
use Rattle.octets.proofs.Laws.{zero_bytes, zero-both, zero_one}
use Rattle.octets.proofs.zero_both.Goals as goal

pub loop-i-init : goal.loop-i-init
unfolding same part
loop-i-init c = (search rules, (refl, refl))

pub loop-i-preserved : goal.loop-i-preserved
loop-i-preserved c =
    let l = c.loop-i in
    let a = c.args in
    let s = a.s.now in (
      omega arith,
      (
        or-next (zero_bytes s) _ (zero-both s) a.a l.i l.x _ (omega arith) l.invariant.1.0 (zero_one s (a.a + l.i) (omega arith)),
        or-next (zero_bytes s) _ (zero-both s) a.b l.i l.y _ (omega arith) l.invariant.1.1 (zero_one s (a.b + l.i) (omega arith)),
      ),
    )

pub returns : goal.returns
returns c =
    let l = c.loop-i in
    let e : l.i ≡ c.args.n = omega arith in
    or-zero l.x l.y ∙ (rw (l.invariant.1.0, l.invariant.1.1, e))
