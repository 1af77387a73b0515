-- The code's sender, question and entry as the model's, and what a loop over slots has passed. Assumes nothing.
use Rattle.std.specs.Prelude.{◌≡◌, ℕ, ◌+◌, ◌*◌, Bool, true, cond, not, Option, Some, None, List, nat_lt, slice_index}
use Rattle.model.specs.Lists.{every, index_of}
use Rattle.model.specs.Numbers.{big_endian}
use Rattle.model.specs.Query as query
use Rattle.model.specs.Table as table
use Rattle.model.specs.Table.{read_slot}
use Rattle.model.specs.Rules.{Holding}
use Rattle.model.specs.Serve as serve
use Rattle.model.specs.Serve.{has}
use Rattle.layout.specs.Shape.{slots_to}
use Rattle.entries.specs.declared.Sender.{Sender}
use Rattle.record.specs.Address.{address_of}
use Rattle.record.specs.State.{state_of}
use Rattle.record.specs.declared.Slot.{Slot}
use Rattle.holdings.specs.declared.Slots.{Slots}
use Rattle.entries.specs.declared.Entry.{Entry}
use Rattle.entries.specs.declared.Found.{Found}

abbrev pub sender_of : Sender → serve.Sender
sender_of s = record { address = address_of s.address; port = s.port }

-- of an option, what a finder goes by: its number and its lease
abbrev pub sent : ℕ → ℕ → query.LlqOption
sent number lease = record { version = 1; opcode = 1; error = 0; number = number; lease = lease }

-- the slot at a place as the code reads it
unfoldable pub entry_at : List ℕ → ℕ → Entry
entry_at b at =
    record {
      state = state_of (slice_index b at);
      sender = record { address = record { high = big_endian b (at + 1) 8; low = big_endian b (at + 9) 8 }; port = big_endian b (at + 17) 2 };
      number = record { 0 = big_endian b (at + 19) 8 };
      lease = big_endian b (at + 27) 4;
      stamp = big_endian b (at + 31) 4;
      qtype = big_endian b (at + 35) 2;
      qclass = big_endian b (at + 37) 2;
      len = slice_index b (at + 39);
    }

-- slot i of n with its entry; none where there is no such slot
abbrev pub found_at : List ℕ → ℕ → ℕ → Option Found
found_at b n i = cond (nat_lt i n) (Some (record { slot = i; entry = entry_at b (320 * i) })) None

-- the first of the slots that passes the test, with its entry; none where none passes
abbrev pub found_in : Slots → (table.Slot → Bool) → Option Found
found_in s q = found_at s.bytes.now s.n (index_of q (slots_to s.bytes.now s.n))

-- the first of them alone
abbrev pub first_in : Slots → (table.Slot → Bool) → Option ℕ
first_in s q = let i = index_of q (slots_to s.bytes.now s.n) in cond (nat_lt i s.n) (Some i) None

-- the slot has an entry that passes the test at this running count
abbrev pub slot_has : ℕ → (Holding → Bool) → Slot → Bool
slot_has running p s = has running p (read_slot s.bytes.now s.at)

-- none of the slots below i passes the test
unfoldable pub none_to : List ℕ → (table.Slot → Bool) → ℕ → Type 0
none_to b q i = every (λ s. not (q s)) (slots_to b i) ≡ true
