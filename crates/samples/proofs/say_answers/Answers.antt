-- The proof of `say_answers`: a call's answer has its numbers. Assumes nothing.
use native.Mathlib.Omega.{arith}
use Rattle.script.proofs.AnswerLaws.{has-numbers}
use Rattle.samples.proofs.say_answers.Goals as goal

pub say_answer-requires : goal.say_answer-requires
say_answer-requires c =
    let r = c.in-Some.record in
    omega (arith, has-numbers r.list.now r.at c.in-Some-call.call c.in-Some-call.ensures, c.in-Some-split_at_checked.ensures.cases)
