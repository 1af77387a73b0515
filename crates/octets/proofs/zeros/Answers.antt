-- `octets::zeros` meets its contract: the first half and the last, in whole blocks, cover all. Assumes nothing.
use Prim.Native.Nat.{◌+◌, ◌*◌, ◌/◌}
use mathlib.Core.Path.{◌∙◌}
use native.Mathlib.Omega.{arith}
use Rattle.octets.proofs.Laws.{zero_bytes, zero-both}
use Rattle.octets.proofs.Cover.{cover}
use Rattle.octets.proofs.zeros.Goals as goal

pub returns : goal.returns
returns c =
    let a = c.args in
    let s = a.s.now in
    let h = 32 * ((a.n + 63) / 64) in
    c.zero_both.ensures ∙ cover (zero_bytes s) _ (zero-both s) a.at a.n h h (omega arith) (omega arith) (omega arith) (omega arith)
