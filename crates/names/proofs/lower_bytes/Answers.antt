-- `names::lower_bytes` meets its contract: the `or` over the bytes passed is zero exactly if none is a capital. Assumes nothing.
use Prim.Native.Nat.{◌+◌}
use mathlib.Core.Path.{refl}
use native.Mathlib.Omega.{arith}
use borrow.Author.Rules.{rules}
use Rattle.model.specs.Lists.{every}
use Rattle.model.specs.Numbers.{part}
use Rattle.octets.proofs.Cover.{or-next}
use Rattle.names.proofs.NameLaws.{lower_bytes, lower-both, lower-one}
use Rattle.names.proofs.lower_bytes.Goals as goal

pub loop-i-init : goal.loop-i-init
unfolding every part
loop-i-init c = (search rules, refl)

pub loop-i-preserved : goal.loop-i-preserved
loop-i-preserved c =
    let l = c.loop-i in
    let a = c.args in
    let t = a.t.now in
    (omega arith, rw (c.from-capitals.ensures, c.is_ascii_uppercase.ensures.value) (or-next (lower_bytes t) _ (lower-both t) a.at l.i l.capitals _ (omega arith) l.invariant.1 (lower-one t (a.at + l.i) (omega arith))))
