-- `Head::put` meets its contract. Assumes nothing.
use native.Mathlib.Omega.{arith}
use Rattle.llq.proofs.ReplyLaws.{header_is, before-written}
use Rattle.llq.proofs.Head.put.Goals as goal

pub returns : goal.returns
returns c =
    let x = c.args.self in
    let d = x.datagram.now in
    let m = x.measured in
    rw (c.put_opt.ensures, c.copy.ensures, c.put_header.ensures, header_is d _ _ _ x.number_read x.desired_read m.count, m.end)
    (before-written d c.args.k (omega (arith, m.end, m.from)) (omega (arith, m.end, m.within)) c.args.reply.now (omega (arith, m.end, c)))
