-- `names::lower_short` meets its contract: the first 16 and the last 16 cover all. Assumes nothing.
use mathlib.Core.Path.{sym, ◌∙◌}
use native.Mathlib.Omega.{arith}
use Rattle.names.proofs.NameLaws.{lower-cover}
use Rattle.names.proofs.lower_short.Goals as goal

pub returns-then-lower_bytes : goal.returns-then-lower_bytes
returns-then-lower_bytes c =
    let a = c.args in
    let z = lower-cover a.t.now a.at a.n 16 16 (omega arith) (omega arith) (omega arith) (omega arith) in
    c.lower_bytes-then-lower_bytes.ensures ∙ (rw (sym c.lower_bytes-2.ensures ∙ c.if-lower_bytes.true) at z)

pub returns-else-lower_bytes : goal.returns-else-lower_bytes
returns-else-lower_bytes c =
    let a = c.args in
    let z = lower-cover a.t.now a.at a.n 16 16 (omega arith) (omega arith) (omega arith) (omega arith) in
    c.if-lower_bytes.false ∙ (rw (sym c.lower_bytes-2.ensures ∙ c.if-lower_bytes.false) at z)
