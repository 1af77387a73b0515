-- `llq::answer` meets its contract. Assumes nothing.
use native.Mathlib.Omega.{arith}
use mathlib.Core.Path.{◌≡◌, refl}
use Rattle.entries.specs.Reads.{sender_of}
use Rattle.table.proofs.WriteLaws.{formed-written}
use Rattle.llq.proofs.ReplyLaws.{length-matched}
use Rattle.llq.proofs.AnswerLaws.{served_none, served-next, answers-matched}
use Rattle.llq.proofs.answer.Goals as goal

pub loop-i-init : goal.loop-i-init
loop-i-init c = served_none (sender_of c.args.sender) c.args.r c.args.head.datagram.now c.args.t.now _ _ c.requires.0

pub serve_one-requires : goal.serve_one-requires
serve_one-requires c =
    let n = length-matched _ _ _ _ c.args.head.measured c.requires.4 refl in
    let q = c.requires.2 c.loop-i.i _ c.loop-i-test.true in
    (formed-written c.loop-i.invariant.table, rw c.loop-i.auto.t c.requires.1, q.2, omega (arith, n, c.requires.5))

pub loop-i-preserved : goal.loop-i-preserved
loop-i-preserved c =
    let a = c.args in
    let i = c.loop-i.i in
    let t = c.loop-i-test.true in
    let n = length-matched _ _ _ _ a.head.measured c.requires.4 refl in
    let w = c.serve_one.ensures in
    served-next (sender_of a.sender) a.r a.head.datagram.now a.t.now _ _ i _ _ c.loop-i.invariant _ _ (c.requires.2 i _ t).0 (c.requires.3 i _ t) _ _ w.0 w.1
    (omega (arith, n, c.requires.5))

pub returns : goal.returns
returns c =
    let a = c.args in
    let e : c.loop-i.i ≡ a.head.count = omega arith in
    let s = c.loop-i.invariant in
    answers-matched (sender_of a.sender) a.r a.head.datagram.now a.t.now a.reply.now _ _ _ a.head.measured c.requires.4 c.requires.5 _ _ refl (rw e at s.table)
    (rw (e, c.put.ensures) at s.reply)
