-- The proof of `write::put_header`. Assumes nothing.
use Prim.Native.Nat.{◌+◌}
use native.Mathlib.Omega.{arith}
use mathlib.Core.List.{[], ◌∷◌}
use Rattle.wire.specs.Write.{header_sent}
use Rattle.model.proofs.NumberLaws.{writes-eq}
use Rattle.wire.proofs.write.put_header.Goals as goal

pub returns : goal.returns
unfolding header_sent
returns c =
    let a = c.args in
    rw (c.put16-5.ensures, c.put16-4.ensures, c.put16-3.ensures, c.put16-2.ensures, c.put8-2.ensures, c.put8.ensures, c.put16.ensures)
    (writes-eq ((2, a.number.0) ∷ (1, 132 + a.desired) ∷ (1, 0) ∷ (2, a.count) ∷ (2, 0) ∷ (2, 0) ∷ (2, 1) ∷ []) (0) a.reply.now (omega arith))
