-- W11, and the table's bytes after its making, its setup, its response and a refresh without RD; after its setup again and two late responses;
-- what ticks free when the clock is set back by a year; a table with weeks of thirteen bits, made and ticked; and, with both widths of the week,
-- the bytes of a table whose numbers have no byte in common, written out from the layout of documents 01 and 02. Assumes nothing.
use Rattle.std.specs.Prelude.{ℕ, ◌≡◌, true, false, List, [], ◌∷◌, ◌++◌, length, replicate}
use Rattle.model.specs.Clock.{Clock, Weeks, ten_bit, thirteen_bit}
use Rattle.model.specs.Table.{free, held, Table, table_bytes, read_table}
use Rattle.model.specs.Serve.{Sender}
use Rattle.model.specs.Calls.{MakeCall, TickCall, ServeCall}
use Rattle.model.specs.Meets.{Server}
use Rattle.claims.specs.CallBuilders.{make_at, tick_at, datagram_at}

abbrev pub zeros : ℕ → List ℕ
zeros k = replicate k 0

-- a setup, by the last two bytes of the lease asked: message number 0x1234, RD, one question (a., PTR, IN), OPT, one LLQ option
abbrev pub setup_of : ℕ → ℕ → List ℕ
setup_of high low =
    0x12 ∷ 0x34 ∷ 0x01 ∷ 0 ∷ 0 ∷ 1 ∷ 0 ∷ 0 ∷ 0 ∷ 0 ∷ 0 ∷ 1
    ∷ 1 ∷ 0x61 ∷ 0 ∷ 0 ∷ 0x0C ∷ 0 ∷ 1
    ∷ 0 ∷ 0 ∷ 0x29 ∷ 0x05 ∷ 0xC0 ∷ 0 ∷ 0 ∷ 0 ∷ 0 ∷ 0 ∷ 0x16
    ∷ 0 ∷ 1 ∷ 0 ∷ 0x12 ∷ 0 ∷ 1 ∷ 0 ∷ 1 ∷ 0 ∷ 0 ∷ 0 ∷ 0 ∷ 0 ∷ 0 ∷ 0 ∷ 0 ∷ 0 ∷ 0 ∷ 0 ∷ 0 ∷ high ∷ low ∷ []

-- W11's query: 3,600 seconds
abbrev pub setup_query : List ℕ
setup_query = setup_of 0x0E 0x10

-- a challenge, by its lease's last two bytes: the query's bytes but 0x85 for the third, and number 7
abbrev pub challenge_of : ℕ → ℕ → List ℕ
challenge_of high low =
    0x12 ∷ 0x34 ∷ 0x85 ∷ 0 ∷ 0 ∷ 1 ∷ 0 ∷ 0 ∷ 0 ∷ 0 ∷ 0 ∷ 1
    ∷ 1 ∷ 0x61 ∷ 0 ∷ 0 ∷ 0x0C ∷ 0 ∷ 1
    ∷ 0 ∷ 0 ∷ 0x29 ∷ 0x05 ∷ 0xC0 ∷ 0 ∷ 0 ∷ 0 ∷ 0 ∷ 0 ∷ 0x16
    ∷ 0 ∷ 1 ∷ 0 ∷ 0x12 ∷ 0 ∷ 1 ∷ 0 ∷ 1 ∷ 0 ∷ 0 ∷ 0 ∷ 0 ∷ 0 ∷ 0 ∷ 0 ∷ 0 ∷ 0 ∷ 7 ∷ 0 ∷ 0 ∷ high ∷ low ∷ []

-- W11's reply: 3,600 seconds granted
abbrev pub challenge_reply : List ℕ
challenge_reply = challenge_of 0x0E 0x10

-- a response: the number and a lease repeated, by its last two bytes
abbrev pub response_of : ℕ → ℕ → List ℕ
response_of high low =
    0x12 ∷ 0x35 ∷ 0x01 ∷ 0 ∷ 0 ∷ 1 ∷ 0 ∷ 0 ∷ 0 ∷ 0 ∷ 0 ∷ 1
    ∷ 1 ∷ 0x41 ∷ 0 ∷ 0 ∷ 0x0C ∷ 0 ∷ 1
    ∷ 0 ∷ 0 ∷ 0x29 ∷ 0x05 ∷ 0xC0 ∷ 0 ∷ 0 ∷ 0 ∷ 0 ∷ 0 ∷ 0x16
    ∷ 0 ∷ 1 ∷ 0 ∷ 0x12 ∷ 0 ∷ 1 ∷ 0 ∷ 1 ∷ 0 ∷ 0 ∷ 0 ∷ 0 ∷ 0 ∷ 0 ∷ 0 ∷ 0 ∷ 0 ∷ 7 ∷ 0 ∷ 0 ∷ high ∷ low ∷ []

-- its acknowledgment, by the last two bytes of the life that remains
abbrev pub acknowledgment_of : ℕ → ℕ → List ℕ
acknowledgment_of high low =
    0x12 ∷ 0x35 ∷ 0x85 ∷ 0 ∷ 0 ∷ 1 ∷ 0 ∷ 0 ∷ 0 ∷ 0 ∷ 0 ∷ 1
    ∷ 1 ∷ 0x41 ∷ 0 ∷ 0 ∷ 0x0C ∷ 0 ∷ 1
    ∷ 0 ∷ 0 ∷ 0x29 ∷ 0x05 ∷ 0xC0 ∷ 0 ∷ 0 ∷ 0 ∷ 0 ∷ 0 ∷ 0x16
    ∷ 0 ∷ 1 ∷ 0 ∷ 0x12 ∷ 0 ∷ 1 ∷ 0 ∷ 1 ∷ 0 ∷ 0 ∷ 0 ∷ 0 ∷ 0 ∷ 0 ∷ 0 ∷ 0 ∷ 0 ∷ 7 ∷ 0 ∷ 0 ∷ high ∷ low ∷ []

-- its refusal: error 4, number 0, lease 0
abbrev pub no_such_reply : List ℕ
no_such_reply =
    0x12 ∷ 0x35 ∷ 0x85 ∷ 0 ∷ 0 ∷ 1 ∷ 0 ∷ 0 ∷ 0 ∷ 0 ∷ 0 ∷ 1
    ∷ 1 ∷ 0x41 ∷ 0 ∷ 0 ∷ 0x0C ∷ 0 ∷ 1
    ∷ 0 ∷ 0 ∷ 0x29 ∷ 0x05 ∷ 0xC0 ∷ 0 ∷ 0 ∷ 0 ∷ 0 ∷ 0 ∷ 0x16
    ∷ 0 ∷ 1 ∷ 0 ∷ 0x12 ∷ 0 ∷ 1 ∷ 0 ∷ 1 ∷ 0 ∷ 4 ∷ 0 ∷ 0 ∷ 0 ∷ 0 ∷ 0 ∷ 0 ∷ 0 ∷ 0 ∷ 0 ∷ 0 ∷ 0 ∷ 0 ∷ []

-- a refresh with RD 0, asking 7,200 seconds
abbrev pub refresh_query : List ℕ
refresh_query =
    0x13 ∷ 0x37 ∷ 0 ∷ 0 ∷ 0 ∷ 1 ∷ 0 ∷ 0 ∷ 0 ∷ 0 ∷ 0 ∷ 1
    ∷ 1 ∷ 0x61 ∷ 0 ∷ 0 ∷ 0x0C ∷ 0 ∷ 1
    ∷ 0 ∷ 0 ∷ 0x29 ∷ 0x05 ∷ 0xC0 ∷ 0 ∷ 0 ∷ 0 ∷ 0 ∷ 0 ∷ 0x16
    ∷ 0 ∷ 1 ∷ 0 ∷ 0x12 ∷ 0 ∷ 1 ∷ 0 ∷ 2 ∷ 0 ∷ 0 ∷ 0 ∷ 0 ∷ 0 ∷ 0 ∷ 0 ∷ 0 ∷ 0 ∷ 7 ∷ 0 ∷ 0 ∷ 0x1C ∷ 0x20 ∷ []

-- its answer: 0x84 for the third byte, the number and the lease granted
abbrev pub renewal_reply : List ℕ
renewal_reply =
    0x13 ∷ 0x37 ∷ 0x84 ∷ 0 ∷ 0 ∷ 1 ∷ 0 ∷ 0 ∷ 0 ∷ 0 ∷ 0 ∷ 1
    ∷ 1 ∷ 0x61 ∷ 0 ∷ 0 ∷ 0x0C ∷ 0 ∷ 1
    ∷ 0 ∷ 0 ∷ 0x29 ∷ 0x05 ∷ 0xC0 ∷ 0 ∷ 0 ∷ 0 ∷ 0 ∷ 0 ∷ 0x16
    ∷ 0 ∷ 1 ∷ 0 ∷ 0x12 ∷ 0 ∷ 1 ∷ 0 ∷ 2 ∷ 0 ∷ 0 ∷ 0 ∷ 0 ∷ 0 ∷ 0 ∷ 0 ∷ 0 ∷ 0 ∷ 7 ∷ 0 ∷ 0 ∷ 0x1C ∷ 0x20 ∷ []

-- CALLS: made at week 1, second 2; asked at second 7; answered at second 10; refreshed at second 20; or asked again at second 47 and answered late,
-- at second 52; from 192.0.2.1, mapped, port 5353; host number 7
abbrev pub sender : Sender
sender = record { address = 0xFFFF_C000_0201; port = 5353 }

abbrev pub make_call : MakeCall
make_call = make_at 1 2 []

abbrev pub setup_call : ServeCall
setup_call = datagram_at 1 7 sender 7 setup_query 60

abbrev pub response_call : ServeCall
response_call = datagram_at 1 10 sender 9 (response_of 0x0E 0x10) 60

abbrev pub refresh_call : ServeCall
refresh_call = datagram_at 1 20 sender 9 refresh_query 60

abbrev pub again_call : ServeCall
again_call = datagram_at 1 47 sender 9 setup_query 60

abbrev pub late_call : ℕ → ℕ → ServeCall
late_call high low = datagram_at 1 52 sender 9 (response_of high low) 60

-- THE TABLE of 4 slots, 1,593 bytes
-- clock: kind 1, place 4, running count 4
abbrev pub clock_pin : ℕ → ℕ → List ℕ
clock_pin low running = 1 ∷ 0 ∷ 0x09 ∷ 0x3A ∷ low ∷ 0 ∷ 0 ∷ 0 ∷ running ∷ []

abbrev pub unused_pin : List ℕ
unused_pin = 2 ∷ zeros 18

abbrev pub roster_pin : List ℕ
roster_pin =
    unused_pin ++ unused_pin ++ unused_pin ++ unused_pin ++ unused_pin ++ unused_pin ++ unused_pin ++ unused_pin ++ unused_pin ++ unused_pin ++ unused_pin ++ unused_pin ++ unused_pin
    ++ unused_pin ++ unused_pin ++ unused_pin

abbrev pub free_pin : List ℕ
free_pin = 4 ∷ zeros 319

-- kind; address 16, port 2, LLQ number 8, granted lease 4, stamp 4, type 2, class 2, name length 1, name 255, 25 zeros; by its kind, the lease's
-- last two bytes and the stamp's last
abbrev pub entry_pin : ℕ → ℕ → ℕ → ℕ → List ℕ
entry_pin kind high low stamp =
    kind
    ∷ 0 ∷ 0 ∷ 0 ∷ 0 ∷ 0 ∷ 0 ∷ 0 ∷ 0 ∷ 0 ∷ 0 ∷ 0xFF ∷ 0xFF ∷ 0xC0 ∷ 0 ∷ 0x02 ∷ 0x01
    ∷ 0x14 ∷ 0xE9
    ∷ 0 ∷ 0 ∷ 0 ∷ 0 ∷ 0 ∷ 0 ∷ 0 ∷ 7
    ∷ 0 ∷ 0 ∷ high ∷ low
    ∷ 0 ∷ 0 ∷ 0 ∷ stamp
    ∷ 0 ∷ 0x0C
    ∷ 0 ∷ 1
    ∷ 3
    ∷ 1 ∷ 0x61 ∷ 0 ∷ (zeros 252 ++ zeros 25)

-- the first slot with an entry, the clock by its place's last byte and its count
abbrev pub one_pin : ℕ → ℕ → List ℕ → List ℕ
one_pin low running entry = clock_pin low running ++ roster_pin ++ entry ++ free_pin ++ free_pin ++ free_pin

-- place 604,802 and count 0; 604,807 and 5; 604,810 and 8; 604,820 and 18, with the new lease stamped 18
abbrev pub made_pin : List ℕ
made_pin = clock_pin 0x82 0 ++ roster_pin ++ free_pin ++ free_pin ++ free_pin ++ free_pin

abbrev pub pending_pin : List ℕ
pending_pin = one_pin 0x87 5 (entry_pin 5 0x0E 0x10 5)

abbrev pub established_pin : List ℕ
established_pin = one_pin 0x8A 8 (entry_pin 6 0x0E 0x10 5)

abbrev pub renewed_pin : List ℕ
renewed_pin = one_pin 0x94 18 (entry_pin 6 0x1C 0x20 18)

-- place 604,847 and count 45, the entry as it was; 604,852 and 50, the entry by its kind
abbrev pub again_pin : List ℕ
again_pin = one_pin 0xAF 45 (entry_pin 5 0x0E 0x10 5)

abbrev pub late_pin : ℕ → List ℕ
late_pin kind = one_pin 0xB4 50 (entry_pin kind 0x0E 0x10 5)

-- a roster of two lines: kind 3, address 16 (2001:db8::5), share 0, limit 3; and address 192.0.2.9, mapped, share 1, limit 2
abbrev pub roster_given : List ℕ
roster_given =
    3 ∷ 0x20 ∷ 0x01 ∷ 0x0D ∷ 0xB8 ∷ 0 ∷ 0 ∷ 0 ∷ 0 ∷ 0 ∷ 0 ∷ 0 ∷ 0 ∷ 0 ∷ 0 ∷ 0 ∷ 0x05 ∷ 0 ∷ 3
    ∷ 3 ∷ 0 ∷ 0 ∷ 0 ∷ 0 ∷ 0 ∷ 0 ∷ 0 ∷ 0 ∷ 0 ∷ 0 ∷ 0xFF ∷ 0xFF ∷ 0xC0 ∷ 0 ∷ 0x02 ∷ 0x09 ∷ 1 ∷ 2 ∷ []

-- its lines in a table
abbrev pub first_pin : List ℕ
first_pin = 3 ∷ 0x20 ∷ 0x01 ∷ 0x0D ∷ 0xB8 ∷ 0 ∷ 0 ∷ 0 ∷ 0 ∷ 0 ∷ 0 ∷ 0 ∷ 0 ∷ 0 ∷ 0 ∷ 0 ∷ 0x05 ∷ 0 ∷ 3 ∷ []

abbrev pub second_pin : List ℕ
second_pin = 3 ∷ 0 ∷ 0 ∷ 0 ∷ 0 ∷ 0 ∷ 0 ∷ 0 ∷ 0 ∷ 0 ∷ 0 ∷ 0xFF ∷ 0xFF ∷ 0xC0 ∷ 0 ∷ 0x02 ∷ 0x09 ∷ 1 ∷ 2 ∷ []

-- the table of one slot that it is made with, 633 bytes: the lines stand first, in the order given, 14 unused lines behind them
abbrev pub listed_pin : List ℕ
listed_pin =
    clock_pin 0x82 0 ++ first_pin ++ second_pin ++ unused_pin ++ unused_pin ++ unused_pin ++ unused_pin ++ unused_pin ++ unused_pin ++ unused_pin ++ unused_pin ++ unused_pin ++ unused_pin
    ++ unused_pin ++ unused_pin ++ unused_pin ++ unused_pin ++ free_pin

-- A TABLE OF THREE SLOTS, one free, one pending, one established, with two lines: no byte of its numbers is there twice; by its weeks and its clock
abbrev pub distinct_with : Weeks → Clock → Table
distinct_with w c =
    record {
      layout = record { weeks = w };
      clock = c;
      roster =
          record { address = 0x2122232425262728292A2B2C2D2E2F30; share = 0x09; limit = 0x0A }
          ∷ record { address = 0x3132333435363738393A3B3C3D3E3F40; share = 0x0B; limit = 0x0C } ∷ [];
      slots =
          free
          ∷ held (record {
            established = false;
            address = 0x4142434445464748494A4B4C4D4E4F50;
            port = 0x5152;
            number = 0x535455565758595A;
            lease = 0x5B5C5D5E;
            stamp = 0x5F606162;
            qtype = 0x6364;
            qclass = 0x6566;
            name = 4 ∷ 0x67 ∷ 0x68 ∷ 0x69 ∷ 0x6A ∷ 0 ∷ [];
          })
          ∷ held (record {
            established = true;
            address = 0x7172737475767778797A7B7C7D7E7F80;
            port = 0x8182;
            number = 0x838485868788898A;
            lease = 0x8B8C8D8E;
            stamp = 0x8F909192;
            qtype = 0x9394;
            qclass = 0x9596;
            name = 0 ∷ [];
          })
          ∷ [];
    }

-- with weeks of ten bits, and of thirteen
abbrev pub distinct_table : Table
distinct_table = distinct_with ten_bit (record { place = 0x01020304; running = 0x05060708 })

abbrev pub wide_distinct_table : Table
wide_distinct_table = distinct_with thirteen_bit (record { place = 0xA1A2A3A4A5A6A7A8; running = 0xA9AAABAC })

-- behind its clock
abbrev pub distinct_rest : List ℕ
distinct_rest =
    (3 ∷ 0x21 ∷ 0x22 ∷ 0x23 ∷ 0x24 ∷ 0x25 ∷ 0x26 ∷ 0x27 ∷ 0x28 ∷ 0x29 ∷ 0x2A ∷ 0x2B ∷ 0x2C ∷ 0x2D ∷ 0x2E ∷ 0x2F ∷ 0x30 ∷ 0x09 ∷ 0x0A ∷ [])
    ++ (3 ∷ 0x31 ∷ 0x32 ∷ 0x33 ∷ 0x34 ∷ 0x35 ∷ 0x36 ∷ 0x37 ∷ 0x38 ∷ 0x39 ∷ 0x3A ∷ 0x3B ∷ 0x3C ∷ 0x3D ∷ 0x3E ∷ 0x3F ∷ 0x40 ∷ 0x0B ∷ 0x0C ∷ [])
    ++ unused_pin ++ unused_pin ++ unused_pin ++ unused_pin ++ unused_pin ++ unused_pin ++ unused_pin ++ unused_pin ++ unused_pin ++ unused_pin ++ unused_pin ++ unused_pin ++ unused_pin ++ unused_pin
    ++ free_pin
    ++ (5
    ∷ 0x41 ∷ 0x42 ∷ 0x43 ∷ 0x44 ∷ 0x45 ∷ 0x46 ∷ 0x47 ∷ 0x48 ∷ 0x49 ∷ 0x4A ∷ 0x4B ∷ 0x4C ∷ 0x4D ∷ 0x4E ∷ 0x4F ∷ 0x50
    ∷ 0x51 ∷ 0x52
    ∷ 0x53 ∷ 0x54 ∷ 0x55 ∷ 0x56 ∷ 0x57 ∷ 0x58 ∷ 0x59 ∷ 0x5A
    ∷ 0x5B ∷ 0x5C ∷ 0x5D ∷ 0x5E
    ∷ 0x5F ∷ 0x60 ∷ 0x61 ∷ 0x62
    ∷ 0x63 ∷ 0x64
    ∷ 0x65 ∷ 0x66
    ∷ 6
    ∷ 4 ∷ 0x67 ∷ 0x68 ∷ 0x69 ∷ 0x6A ∷ 0 ∷ (zeros 249 ++ zeros 25))
    ++ (6
    ∷ 0x71 ∷ 0x72 ∷ 0x73 ∷ 0x74 ∷ 0x75 ∷ 0x76 ∷ 0x77 ∷ 0x78 ∷ 0x79 ∷ 0x7A ∷ 0x7B ∷ 0x7C ∷ 0x7D ∷ 0x7E ∷ 0x7F ∷ 0x80
    ∷ 0x81 ∷ 0x82
    ∷ 0x83 ∷ 0x84 ∷ 0x85 ∷ 0x86 ∷ 0x87 ∷ 0x88 ∷ 0x89 ∷ 0x8A
    ∷ 0x8B ∷ 0x8C ∷ 0x8D ∷ 0x8E
    ∷ 0x8F ∷ 0x90 ∷ 0x91 ∷ 0x92
    ∷ 0x93 ∷ 0x94
    ∷ 0x95 ∷ 0x96
    ∷ 1
    ∷ 0 ∷ (zeros 254 ++ zeros 25))

abbrev pub distinct_pin : List ℕ
distinct_pin = (1 ∷ 0x01 ∷ 0x02 ∷ 0x03 ∷ 0x04 ∷ 0x05 ∷ 0x06 ∷ 0x07 ∷ 0x08 ∷ []) ++ distinct_rest

abbrev pub wide_distinct_pin : List ℕ
wide_distinct_pin = (9 ∷ 0xA1 ∷ 0xA2 ∷ 0xA3 ∷ 0xA4 ∷ 0xA5 ∷ 0xA6 ∷ 0xA7 ∷ 0xA8 ∷ 0xA9 ∷ 0xAA ∷ 0xAB ∷ 0xAC ∷ []) ++ distinct_rest

-- WITH WEEKS OF THIRTEEN BITS: a table of one slot, 637 bytes, with no roster, at the last second of the cycle and one second on. Clock: kind 9,
-- place 8, running count 4
abbrev pub wide_last_pin : List ℕ
wide_last_pin = (9 ∷ 0 ∷ 0 ∷ 0 ∷ 0x01 ∷ 0x27 ∷ 0x4F ∷ 0xFF ∷ 0xFF ∷ 0 ∷ 0 ∷ 0 ∷ 0 ∷ []) ++ roster_pin ++ free_pin

abbrev pub wide_next_pin : List ℕ
wide_next_pin = (9 ∷ 0 ∷ 0 ∷ 0 ∷ 0 ∷ 0 ∷ 0 ∷ 0 ∷ 0 ∷ 0 ∷ 0 ∷ 0 ∷ 1 ∷ []) ++ roster_pin ++ free_pin

-- SET BACK BY A YEAR: made and asked, with a lease of 60 seconds, at week 100, second 100,000; ticks 40 seconds later, a year back from there, and
-- 19 seconds and 1 second on
abbrev pub short_setup : ServeCall
short_setup = datagram_at 100 100000 sender 7 (setup_of 0 60) 60

abbrev pub set_back_ticks : List TickCall
set_back_ticks = tick_at 100 100040 ∷ tick_at 48 13640 ∷ tick_at 48 13659 ∷ tick_at 48 13660 ∷ []

-- what ticks one after the other are answered: the freed counts
abbrev pub freed_along : Server → List ℕ → List TickCall → List ℕ
freed_along s b [] = []
freed_along s b (c ∷ cs) = (s.tick c b).freed ∷ freed_along s (s.tick c b).table cs

-- a server makes, challenges, acknowledges and renews as written out, repeats its challenge, and ends a lease; 8 bytes past each reply keep what they held
pub record Pinned (s : Server) : Type 0 where
  pub size : length made_pin ≡ 1593
  pub made : s.make make_call (replicate 1593 0xEE) ≡ record { number = 0; table = made_pin }
  pub listed : s.make (make_at 1 2 roster_given) (replicate 633 0xEE) ≡ record { number = 0; table = listed_pin }
  pub challenged : s.serve setup_call made_pin (replicate 60 0xAA) ≡ record { number = 0; length = 52; table = pending_pin; reply = challenge_reply ++ replicate 8 0xAA }
  pub acknowledged : s.serve response_call pending_pin (replicate 60 0xAA)
      ≡ record { number = 0; length = 52; table = established_pin; reply = acknowledgment_of 0x0E 0x0D ++ replicate 8 0xAA }  -- 3,597 at age 3
  pub renewed : s.serve refresh_call established_pin (replicate 60 0xAA)
      ≡ record { number = 0; length = 52; table = renewed_pin; reply = renewal_reply ++ replicate 8 0xAA }
  -- the setup again at age 40: 3,560 remain, and the clock alone moves
  pub repeated : s.serve again_call pending_pin (replicate 60 0xAA)
      ≡ record { number = 0; length = 52; table = again_pin; reply = challenge_of 0x0D 0xE8 ++ replicate 8 0xAA }
  -- a response with these at age 45: established, 3,555 remain
  pub answered_late : s.serve (late_call 0x0D 0xE8) again_pin (replicate 60 0xAA)
      ≡ record { number = 0; length = 52; table = late_pin 6; reply = acknowledgment_of 0x0D 0xE3 ++ replicate 8 0xAA }
  -- with 3,554, one less than what remains: error 4, and the clock alone moves
  pub too_short : s.serve (late_call 0x0D 0xE2) again_pin (replicate 60 0xAA)
      ≡ record { number = 0; length = 52; table = late_pin 5; reply = no_such_reply ++ replicate 8 0xAA }
  -- set back by a year, the lease runs on and ends when 60 seconds have passed
  pub set_back : freed_along s (s.serve short_setup (s.make (make_at 100 100000 []) (replicate 633 0xEE)).table (replicate 60 0xAA)).table set_back_ticks
      ≡ 0 ∷ 0 ∷ 0 ∷ 1 ∷ []
  -- with weeks of thirteen bits: made in the cycle's last second, week 8,191, second 604,799, and ticked at week 0, second 0: place 0, count 1
  pub wide_size : length wide_last_pin ≡ 637
  pub wide_made : s.make (make_at 8191 604799 []) (replicate 637 0xEE) ≡ record { number = 0; table = wide_last_pin }
  pub wide_ticked : s.tick (tick_at 0 0) wide_last_pin ≡ record { number = 0; freed = 0; table = wide_next_pin }
  -- the definitions write and read the three slots so
  pub written : table_bytes distinct_table ≡ distinct_pin
  pub read_back : read_table distinct_pin ≡ distinct_table
  pub wide_written : table_bytes wide_distinct_table ≡ wide_distinct_pin
  pub wide_read_back : read_table wide_distinct_pin ≡ wide_distinct_table
