-- The code's entry as it is stored. Assumes nothing.
use Rattle.std.specs.Prelude.{ℕ, ◌-◌, Bool, List, [], ◌∷◌, ◌++◌, length, replicate}
use Rattle.model.specs.Numbers.{bytes_of, encode}
use Rattle.model.specs.Table as table
use Rattle.record.specs.Address.{address_of}
use Rattle.record.specs.State.{kind_byte}
use Rattle.entries.specs.declared.Entry.{Entry}

-- kind, address, port and number
abbrev pub holder_fields : Entry → List (ℕ × ℕ)
holder_fields e = (1, kind_byte e.state) ∷ (16, address_of e.sender.address) ∷ (2, e.sender.port) ∷ (8, e.number.0) ∷ []

-- as the code writes them: the address in two halves
abbrev pub holder_halves : Entry → List (ℕ × ℕ)
holder_halves e = (1, kind_byte e.state) ∷ (8, e.sender.address.high) ∷ (8, e.sender.address.low) ∷ (2, e.sender.port) ∷ (8, e.number.0) ∷ []

-- lease, stamp, type and class
abbrev pub lease_fields : Entry → List (ℕ × ℕ)
lease_fields e = (4, e.lease) ∷ (4, e.stamp) ∷ (2, e.qtype) ∷ (2, e.qclass) ∷ []

-- the name's length, the name and zeros
abbrev pub name_bytes : List ℕ → List ℕ
name_bytes name = bytes_of 1 (length name) ++ (name ++ replicate (280 - length name) 0)

-- an entry's 320 bytes
unfoldable pub entry_bytes : Entry → List ℕ → List ℕ
entry_bytes e name = (encode (holder_fields e) ++ encode (lease_fields e)) ++ name_bytes name

-- the model's entry, pending or established
abbrev pub stored_as : Bool → Entry → List ℕ → table.Entry
stored_as established e name =
    record {
      established = established;
      address = address_of e.sender.address;
      port = e.sender.port;
      number = e.number.0;
      lease = e.lease;
      stamp = e.stamp;
      qtype = e.qtype;
      qclass = e.qclass;
      name = name;
    }
