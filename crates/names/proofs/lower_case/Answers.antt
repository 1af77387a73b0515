-- `names::lower_case` meets its contract: the blocks and the last 32 cover all. Assumes nothing.
use Prim.Native.Nat.{◌*◌, ◌/◌}
use mathlib.Core.Path.{sym, ◌∙◌}
use native.Mathlib.Omega.{arith}
use Rattle.names.proofs.NameLaws.{lower-cover}
use Rattle.names.proofs.lower_case.Goals as goal

pub returns-then-lower_bytes : goal.returns-then-lower_bytes
returns-then-lower_bytes c =
    let a = c.args in
    let z = lower-cover a.t.now a.at a.n (32 * (a.n / 32)) 32 (omega arith) (omega arith) (omega arith) (omega arith) in
    c.lower_bytes-then-lower_bytes.ensures ∙ (rw (sym c.lower_bytes.ensures ∙ c.if-lower_bytes.true) at z)

pub returns-else-lower_bytes : goal.returns-else-lower_bytes
returns-else-lower_bytes c =
    let a = c.args in
    let z = lower-cover a.t.now a.at a.n (32 * (a.n / 32)) 32 (omega arith) (omega arith) (omega arith) (omega arith) in
    c.if-lower_bytes.false ∙ (rw (sym c.lower_bytes.ensures ∙ c.if-lower_bytes.false) at z)
