-- `llq::answer` meets its contract: the options before i are served, and their outcomes stand in the reply. Assumes nothing.
use Prim.Native.Nat.{◌+◌}
use Rattle.entries.specs.Reads.{sender_of}
use Rattle.llq.proofs.AnswerLaws.{ServedTo}
use Rattle.llq.proofs.answer.Given as goal

abbrev pub invariant-loop-i : goal.invariant-loop-i
invariant-loop-i l = ServedTo (sender_of l.sender) l.r l.head.datagram.now l.initial.t l.t l.initial.reply l.reply (l.head.end + 11) l.i
