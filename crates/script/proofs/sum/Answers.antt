-- `script::sum` meets its contract: the sum so far, gone on with over the bytes left, is the whole sum. Assumes nothing.
use native.Mathlib.Omega.{arith}
use Rattle.script.specs.Answers.{sum_of}
use Rattle.script.proofs.AnswerLaws.{sum-next, sum-all}
use Rattle.script.proofs.sum.Goals as goal

pub loop-b-preserved : goal.loop-b-preserved
loop-b-preserved c =
    let l = c.loop-b in
    let t = c.args.t.now in
    (omega arith, rw c.from.ensures (sum-next t l.c l.b-index (sum_of t) (omega arith) l.invariant.1))

pub returns : goal.returns
returns c = let l = c.loop-b in sum-all _ l.c l.b-index _ (omega arith) l.invariant.1
