-- `query::question_count` meets its contract: a number of two bytes that is at most 8 is its second byte. Assumes nothing.
use native.Mathlib.Omega.{arith}
use Rattle.model.specs.Numbers.{big_endian}
use Rattle.query.proofs.question_count.Goals as goal

pub returns : goal.returns
unfolding big_endian
returns c = omega arith
