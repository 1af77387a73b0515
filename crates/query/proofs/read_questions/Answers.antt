-- The proof of `read_questions`. Assumes nothing.
use native.Mathlib.Omega.{arith}
use mathlib.Core.Path.{◌≡◌, refl, ap}
use lib.ListN.{replicate}
use Rattle.wire.specs.declared.Question.{Question}
use Rattle.wire.proofs.Reading.{question-is}
use Rattle.query.proofs.QuestionLaws as law
use Rattle.query.proofs.read_questions.Goals as goal

pub loop-i-init : goal.loop-i-init
loop-i-init c = λ z. law.passed_none c.args.s.now _ _ (c.requires.1 z).0 (ap (λ (q : Question). replicate 8 q) (law.default-blank c.default-all.result c.default-all.ensures))

pub returns-in_default : goal.returns-in_default
returns-in_default c =
    let a = c.args in
    let l = c.loop-i in
    (law.read-bad a.s.now a.count l.i l.next.at l.all (omega arith) l.invariant (question-is a.s.now l.next.at c.in_default.ensures), refl)

pub overflow_cast-all : goal.overflow_cast-all
overflow_cast-all c =
    let p = law.found-fits c.args.s.now c.loop-i.next.at (c.requires.1 (omega arith)).1 c.in-Some.ensures in
    omega (arith, p)

pub overflow_cast-all-in-loop-i : goal.overflow_cast-all-in-loop-i
overflow_cast-all-in-loop-i c =
    let p = law.found-fits c.args.s.now c.loop-i.next.at (c.requires.1 (omega arith)).1 c.in-Some.ensures in
    omega (arith, p)

pub loop-i-preserved : goal.loop-i-preserved
loop-i-preserved c =
    let s = c.args.s.now in
    let q = question-is s c.loop-i.next.at c.in-Some.ensures in
    λ z. rw q.2 (law.passed-next s _ c.loop-i.i c.loop-i.next.at c.loop-i.all (omega arith) c.loop-i.invariant _ (omega arith) q.0 q.1)

pub returns : goal.returns
returns c =
    let a = c.args in
    let e : c.loop-i.i ≡ a.count = omega arith in
    law.read-end a.s.now a.count c.loop-i.next.at c.loop-i.all (rw e at c.loop-i.invariant)
