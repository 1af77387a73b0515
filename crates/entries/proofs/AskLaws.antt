-- Who holds an entry and what it asks, field by field as the code compares it. Assumes nothing.
use Rattle.std.proofs.Common.{◌≡◌, ℕ, ◌+◌, ◌^◌, ◌<◌, Bool, true, false, not, ◌&&◌, ◌==◌, eqb, List, map, get_or, sym, refl, ◌∙◌}
use Rattle.model.specs.Lists.{same}
use Rattle.model.specs.Numbers.{big_endian, part}
use Rattle.model.specs.Names.{fold}
use Rattle.model.specs.Table.{read_entry}
use Rattle.model.specs.Rules.{asks}
use Rattle.layout.specs.Held.{holding_at}
use Rattle.layout.proofs.AddressLaws.{address_is, halves_are}
use Rattle.wire.specs.declared.Question.{Question}
use Rattle.wire.specs.Records.{question_of}
use Rattle.entries.specs.declared.Sender.{Sender}
use Rattle.entries.specs.declared.Entry.{Entry}
use Rattle.entries.specs.Reads.{sender_of, entry_at}

-- the entry has the sender's address and port, and the question's type and class
abbrev pub same_fields : Entry → Sender → Question → Bool
same_fields e s q =
    ((((e.sender.address.high == s.address.high && e.sender.address.low == s.address.low) && e.sender.port == s.port) && e.qtype == q.qtype) && e.qclass == q.qclass)

-- the code's order of the tests and the model's
reorder : (low high port qtype qclass name : Bool)
    → ((((high && low) && port) && qtype) && qclass) && name ≡ high && low && port && qtype && qclass && name
reorder low false port qtype qclass name = refl
reorder false true port qtype qclass name = refl
reorder true true false qtype qclass name = refl
reorder true true true false qclass name = refl
reorder true true true true qclass name = refl

-- the test of them, by the sender, the type and the class as they were read
pub same_fields-read : (b : List ℕ) (at : ℕ) (s : Sender) (q : Question) {x : Sender} {t c : ℕ} {v : Bool} → x ≡ (entry_at b at).sender → t ≡ big_endian b (at + 35) 2 → c ≡ big_endian b (at + 37) 2
    → v ≡ not ((((x.address.high == s.address.high && x.address.low == s.address.low) && x.port == s.port) && t == q.qtype) && c == q.qclass) → v ≡ not (same_fields (entry_at b at) s q)
unfolding entry_at
same_fields-read b at s q e f g h = h ∙ rw (e, f, g)

module _ (b : List ℕ) (at : ℕ) (fits : (entry_at b at).sender.address.low < 2 ^ 64) (s : Sender) (low : s.address.low < 2 ^ 64) (d : List ℕ) (q : Question) where
  pub asks-are : asks (sender_of s).address s.port (question_of d q) (holding_at 0 b at)
      ≡ same_fields (entry_at b at) s q && same (part (at + 40) (get_or b (at + 39) 0) b) (map fold (part q.start q.len d))
  unfolding holding_at read_entry entry_at
  asks-are =
      let address = address_is b at refl refl in
      let halves = halves_are (2 ^ 64) (big_endian b (at + 1) 8) (big_endian b (at + 9) 8) s.address.high s.address.low fits low in
      rw (address, halves)
      (sym (reorder (eqb (big_endian b (at + 9) 8) s.address.low) (eqb (big_endian b (at + 1) 8) s.address.high) (eqb (big_endian b (at + 17) 2) s.port)
      (eqb (big_endian b (at + 35) 2) q.qtype) (eqb (big_endian b (at + 37) 2) q.qclass)
      (same (part (at + 40) (get_or b (at + 39) 0) b) (map fold (part q.start q.len d)))))
