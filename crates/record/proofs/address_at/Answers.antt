-- `record::address_at` meets its contract: a number of 16 bytes is that of its two halves. Assumes nothing.
use mathlib.Core.Path.{sym}
use Rattle.layout.proofs.AddressLaws.{big-halves}
use Rattle.record.proofs.address_at.Goals as goal

pub returns-clause-number : goal.returns-clause-number
returns-clause-number c = rw (c.get64.ensures, c.get64-2.ensures) (sym (big-halves c.args.t.now c.args.a))
