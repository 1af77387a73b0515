-- `Head::reply_length` meets its contract. Assumes nothing.
use native.Mathlib.Omega.{arith}
use Rattle.llq.proofs.ReplyLaws.{length-matched, length-mismatched}
use Rattle.llq.proofs.Head.reply_length.Goals as goal
use Rattle.llq.proofs.Head.reply_length.Goals.{then-matched, else-matched}

pub returns : goal.returns
returns c =
    let x = c.args.self in
    elim c.if-matched.branch [
      | then-matched w ↦ omega (arith, length-matched x.datagram.now x.count x.end c.args.matched x.measured c.requires w.if-matched.true)
      | else-matched w ↦ omega (arith, length-mismatched x.datagram.now x.count x.end c.args.matched x.measured c.requires w.if-matched.false)
    ]
