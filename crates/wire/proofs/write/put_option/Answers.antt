-- The proof of `write::put_option`. Assumes nothing.
use native.Mathlib.Omega.{arith}
use Rattle.std.proofs.Common.{add_assoc}
use mathlib.Core.List.{[], ◌∷◌}
use Rattle.model.specs.Reply.{option_bytes}
use Rattle.model.proofs.NumberLaws.{writes-eq}
use Rattle.wire.proofs.write.put_option.Goals as goal

pub returns : goal.returns
unfolding option_bytes
returns c =
    let a = c.args in
    rw (c.put32.ensures, c.put64.ensures, c.put16-5.ensures, c.put16-4.ensures, c.put16-3.ensures, c.put16-2.ensures, c.put16.ensures)
    (simp add_assoc at (writes-eq ((2, 1) ∷ (2, 18) ∷ (2, 1) ∷ (2, a.opcode) ∷ (2, a.error) ∷ (8, a.number.0) ∷ (4, a.lease) ∷ []) a.at a.reply.now (omega arith)))
