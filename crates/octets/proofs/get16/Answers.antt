-- The proof of `get16`. Assumes nothing.
use native.Mathlib.Omega.{arith}
use native.Mathlib.Nat.{add-zero}
use Rattle.model.specs.Numbers.{big_endian}
use Rattle.octets.proofs.get16.Goals as goal

pub returns : goal.returns
unfolding big_endian
returns c = rw add-zero (omega arith)
