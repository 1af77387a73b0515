-- `record::running_count` meets its contract. Assumes nothing.
use Prim.Native.Nat.{ℕ}
use native.Mathlib.Omega.{arith}
use mathlib.Core.Path.{ap, ◌∙◌}
use Rattle.model.specs.Numbers.{big_endian}
use Rattle.record.proofs.running_count.Goals as goal

pub returns : goal.returns
returns c =
    let a = c.args in
    c.get32.ensures ∙ ap (λ (k : ℕ). big_endian a.t.now k 4) (omega (arith, c.requires.0))
