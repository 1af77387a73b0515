-- The proof of `write::put_opt`. Assumes nothing.
use Prim.Native.Nat.{◌*◌}
use native.Mathlib.Omega.{arith}
use Rattle.std.proofs.Common.{add_assoc}
use mathlib.Core.List.{[], ◌∷◌}
use Rattle.model.specs.Reply.{opt_bytes}
use Rattle.model.proofs.NumberLaws.{writes-eq}
use Rattle.wire.proofs.write.put_opt.Goals as goal

pub returns : goal.returns
unfolding opt_bytes
returns c =
    let a = c.args in
    rw (c.put16-3.ensures, c.put32.ensures, c.put16-2.ensures, c.put16.ensures, c.put8.ensures)
    (simp add_assoc at (writes-eq ((1, 0) ∷ (2, 41) ∷ (2, 1472) ∷ (4, 0) ∷ (2, 22 * a.k) ∷ []) a.at a.reply.now (omega arith)))
