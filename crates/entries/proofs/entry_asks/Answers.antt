-- `entries::entry_asks` meets its contract: the fields, and then the name. Assumes nothing.
use Rattle.std.proofs.Common.{◌^◌, ◌<◌, sym, arith}
use Rattle.std.proofs.lemmas.Bool.{not-true, not-false}
use Rattle.entries.specs.Reads.{entry_at}
use Rattle.entries.proofs.AskLaws.{same_fields-read, asks-are}
use Rattle.entries.proofs.entry_asks.Goals as goal

pub returns-then-ne : goal.returns-then-ne
returns-then-ne c =
    let a = c.args in
    let fits : (entry_at a.slot.bytes.now a.slot.at).sender.address.low < 2 ^ 64 = rw c.sender_at-sender.ensures.sender at c.sender_at-sender.ensures.low in
    let whole = asks-are a.slot.bytes.now a.slot.at fits a.asked.sender (omega (arith, c)) a.asked.datagram.now a.asked.question in
    let f = same_fields-read a.slot.bytes.now a.slot.at a.asked.sender a.asked.question c.sender_at-sender.ensures.sender c.qtype.ensures c.qclass.ensures c.if-ne.ensures in
    rw (whole, not-true _ (sym f))

pub returns : goal.returns
returns c =
    let a = c.args in
    let fits : (entry_at a.slot.bytes.now a.slot.at).sender.address.low < 2 ^ 64 = rw c.sender_at-sender.ensures.sender at c.sender_at-sender.ensures.low in
    let whole = asks-are a.slot.bytes.now a.slot.at fits a.asked.sender (omega (arith, c)) a.asked.datagram.now a.asked.question in
    let f = same_fields-read a.slot.bytes.now a.slot.at a.asked.sender a.asked.question c.sender_at-sender.ensures.sender c.qtype.ensures c.qclass.ensures c.if-ne.ensures in
    rw (whole, not-false _ (sym f), ← c.from.ensures, ← c.from-2.ensures) c.has_name.ensures
