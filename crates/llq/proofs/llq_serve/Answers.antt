-- `llq::llq_serve` meets its contract. Assumes nothing.
use mathlib.Core.Path.{ap}
use Rattle.std.specs.Prelude.{is_some}
use native.Mathlib.Omega.{arith}
use Prim.Native.Nat.{◌≤◌}
use lib.ListN.{length}
use Rattle.model.specs.Reply.{reply_length}
use Rattle.std.proofs.lemmas.Result.{err_from_is_err_and}
use Rattle.query.proofs.ParseLaws.{number-some}
use Rattle.table.proofs.WriteLaws.{formed-written}
use Rattle.llq.proofs.LadderLaws as ladder
use Rattle.llq.proofs.AnswerLaws.{measures, found-moves, answers-mismatched, serve-answered}
use Rattle.llq.proofs.ReplyLaws.{length-mismatched}
use Rattle.llq.proofs.llq_serve.Goals as goal
use Rattle.llq.proofs.llq_serve.Goals.{then-len-reply-via-then-len-reply, then-len-reply-via-else-len-reply+then-len-gt1472, in-Some, in-None}

pub returns-in_err-l : goal.returns-in_err-l
returns-in_err-l c =
    let p = err_from_is_err_and c.from_residual.result c.from_residual.ensures.1 in
    rw (p.1, p.2) (ladder.serve-found _ _ _ c.in_err-l.field-0.0 c.in_err-l.ensures)

pub returns-in_err-q : goal.returns-in_err-q
returns-in_err-q c =
    let r = c.from_residual-in_err-q in
    let p = err_from_is_err_and r.result r.ensures.1 in
    let q = c.in_err-q.field-0.0 in
    let f = c.in_ok-l.ensures in
    rw (p.1, p.2) (ladder.serve-query _ _ _ _ f.0 f.1 c.in_err-q.ensures (omega (arith, number-some q)))

pub returns-then-len-reply : goal.returns-then-len-reply
returns-then-len-reply c =
    let f = c.in_ok-l.ensures in
    let k = c.reply_length-len.ensures in
    ladder.serve-room _ _ _ f.0 f.1 c.in_ok-q.ensures.0
    (elim c.then-len-reply.branch [
      | then-len-reply-via-then-len-reply w ↦ ladder.no_room_lem _ _ _ k w.if-len-reply.true
      | then-len-reply-via-else-len-reply+then-len-gt1472 w ↦ ladder.too_long _ _ _ k w.if-len-gt1472.true
    ])

pub move_on-requires : goal.move_on-requires
move_on-requires c = found-moves c.args.t.now c.in_ok-l.l c.args.week c.args.second _ c.in_ok-l.ensures c.place.ensures

pub put_mismatch-requires : goal.put_mismatch-requires
put_mismatch-requires c =
    let h = c.in_ok-q.ensures.1 in
    let e = length-mismatched c.args.datagram.now _ _ _ (measures _ _ h) h.matched (ap is_some c.in-None.is) in
    omega (arith, e, c.reply_length-len.ensures, c.if-len-reply.false)

pub returns : goal.returns
returns c =
    let a = c.args in
    let d = a.datagram.now in
    let j = c.match-q in
    let read = c.in_ok-q.ensures in
    let f = c.in_ok-l.ensures in
    let k = c.reply_length-len.ensures in
    let fits : reply_length d ≤ length a.reply.now = omega (arith, k, c.if-len-reply.false) in
    let room = ladder.has_room _ _ _ k c.if-len-reply.false c.if-len-gt1472.false in
    let moved = c.move_on.ensures.0 in
    serve-answered _ a.t.now c.move_on.new.t j.t a.reply.now j.reply c.place.result c.reply_length-len.result f.0 f.1 read.0 room k c.place.ensures moved
    (elim j.branch [
      | in-Some w ↦ rw (w.t-is, w.reply-is) w.answer.ensures
      | in-None w ↦ rw (w.t-is, w.reply-is)
          (answers-mismatched _ a.random d c.move_on.new.t a.reply.now _ _ _ (measures _ _ read.1) read.1.matched fits _ (ap is_some w.in-None.is) (formed-written moved)
          w.put_mismatch.ensures)
    ])
