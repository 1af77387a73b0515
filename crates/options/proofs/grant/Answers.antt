-- `options::grant` meets its contract. Assumes nothing.
use Rattle.std.proofs.Common.{◌≡◌, length, map, arith}
use Rattle.model.specs.Numbers.{part}
use Rattle.model.specs.Names.{fold}
use Rattle.layout.proofs.PartLaws.{tail_written}
use Rattle.table.proofs.EntryLaws.{folded-length}
use Rattle.options.proofs.OptionLaws as law
use Rattle.entries.specs.Asked.{question_asked}
use Rattle.options.proofs.grant.Goals as goal
use Rattle.options.proofs.grant.Goals.{After-slots_of-slots}

on : (c : After-slots_of-slots) → law.Formed c.args.t.now c.args.l.n
on c = law.formed-of c.args.l (λ j. grind arith) c.requires.0 c.requires.1

pub returns-in_default : goal.returns-in_default
returns-in_default c =
    law.grant-none (on (goal.at.returns-in_default c).After-slots_of-slots) c.args.asked.sender (question_asked c.args.asked) c.args.o c.args.r c.slots_of-slots.result c.slots_of-slots.ensures
    c.fresh_number-number.ensures c.granted_lease-lease.ensures c.find_free.ensures c.in_default.is c.served-challenge.ensures

pub returns : goal.returns
returns c =
    let a = c.args in
    let q = a.asked.question in
    let name = part q.start q.len a.asked.datagram.now in
    let size : length (map fold name) ≡ q.len = folded-length a.asked.datagram.now q.start q.len a.asked.placed in
    law.grant-written (on (goal.at.returns c).After-slots_of-slots) a.asked.sender (question_asked a.asked) a.o a.r c.slots_of-slots.result c.slots_of-slots.ensures c.fresh_number-number.ensures
    c.granted_lease-lease.ensures c.find_free.ensures c.in-Some.is q.len c.running_count.ensures
    (record {
      address = law.address-fits a.asked.sender.address (omega (arith, c)) (omega (arith, c));
      port = omega (arith, c);
      number = omega (arith, c);
      lease = omega (arith, c);
      stamp = omega (arith, c);
      qtype = omega (arith, c);
      qclass = omega (arith, c);
      size = omega (arith, size, c.requires.2);
      bytes = c.put_entry.ensures.name_in_bytes;
    })
    (tail_written a.t.now _ 320 _ c.requires.1.2 c.put_entry.ensures.stored) c.served-challenge.ensures
