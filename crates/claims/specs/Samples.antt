-- Claim 6: document 01's samples W1 to W10, and two steps beside them, one table under one statement, of the definitions that contracts and
-- claims cite; samples of the clock moved, with weeks of ten bits and of thirteen, of a response's span and of names compared, one table each
-- under one statement; and that no other fold meets those of names. Assumes nothing.
use Rattle.std.specs.Prelude.{ℕ, ◌+◌, ◌%◌, ◌<◌, ◌≡◌, Bool, true, false, cond, List, [], ◌∷◌, ◌++◌, map, length, replicate, ℤ, pos, negsuc, neg_ℤ}
use Rattle.model.specs.Lists.{bit, count, up_to}
use Rattle.model.specs.Clock.{Clock, ten_bit, cycle_of, step, age_at, run_out}
use Rattle.model.specs.Numbers.{part}
use Rattle.model.specs.Query.{Question, LlqOption, name_at, question_start, question}
use Rattle.model.specs.Table.{Entry, free, held, Table}
use Rattle.model.specs.Rules.{Holding, entries_of, asks, granted_lease, fresh_number}
use Rattle.model.specs.Serve.{Sender, Served, is_free, answers, serve_option}
use Rattle.claims.specs.Tally.{ahead, forward, behind, move_tally, is_of, is_answered}
use Rattle.claims.specs.Reading.{Folded}

-- an established entry with this number
abbrev pub entry_numbered : ℕ → Entry
entry_numbered x =
    record { established = true; address = 8; port = 5353; number = x; lease = 60; stamp = 0; qtype = 12; qclass = 1; name = 1 ∷ 97 ∷ 0 ∷ [] }

-- W9: 2^64 − 1 is in use, and 1 is not
abbrev pub w9 : ℕ
w9 = fresh_number 3 (count (entries_of 0 (held (entry_numbered 18446744073709551615) ∷ []))) 18446744073709551615

-- W10: four slots, one line with share 3 (limit 3) holding 0, an unlisted address that holds 0
abbrev pub w10_table : Table
w10_table =
    record {
      layout = record { weeks = ten_bit };
      clock = record { place = 0; running = 0 };
      roster = record { address = 7; share = 3; limit = 3 } ∷ [];
      slots = free ∷ free ∷ free ∷ free ∷ [];
    }

-- a setup from address 9 for the name of one letter, asking 3,600 seconds
abbrev pub w10_setup : ℕ → Table → Served
w10_setup letter t =
    serve_option (record { address = 9; port = 5353 }) 7 (record { name = 1 ∷ letter ∷ 0 ∷ []; qtype = 12; qclass = 1 })
    (record { version = 1; opcode = 1; error = 0; number = 0; lease = 3600 }) t

abbrev pub w10_first : Served
w10_first = w10_setup 97 w10_table

-- computed beside expected
abbrev pub samples : List (ℤ × ℤ)
samples =
    (step (cycle_of ten_bit) 619315199 0, pos 1)  -- W1
    ∷ (step (cycle_of ten_bit) 0 309657600, negsuc 309657599)  -- W2: −309,657,600
    ∷ (step (cycle_of ten_bit) 10 9, negsuc 0)  -- W3: −1
    ∷ (step (cycle_of ten_bit) 604802 604802, pos 0)  -- beside W1 to W3: the same place,
    ∷ (step (cycle_of ten_bit) 0 309657599, pos 309657599)  -- and the upper end of the range; W2 is the lower
    ∷ (pos (age_at 4 4294967290), pos 10)  -- W4
    ∷ (pos (bit (run_out 59 60)), pos 0)  -- W5: live
    ∷ (pos (bit (run_out 60 60)), pos 1)  -- W6: run out
    ∷ (pos (granted_lease 0), pos 60)  -- W7
    ∷ (pos (granted_lease 7201), pos 7200)  -- W8
    ∷ (pos w9, pos 1)  -- W9
    ∷ (pos w10_first.outcome.error, pos 0)  -- W10: the first setup is granted,
    ∷ (pos (count w10_first.table.slots is_free), pos 3)  -- free 3;
    ∷ (pos (w10_setup 98 w10_first.table).outcome.error, pos 1)  -- a second: error 1
    ∷ []

abbrev pub Agree : List (ℤ × ℤ) → Type 0
Agree [] = Unit {0}
Agree (r ∷ rs) = (r.0 ≡ r.1) × Agree rs

abbrev pub Samples : Type 0
Samples = Agree samples

-- THE CLOCK MOVED, with weeks of ten bits: place and count, a reading's place, and place and count after it
pub record ClockSample : Type 0 where
  pub before : Clock
  pub reading : ℕ
  pub after : Clock

abbrev pub moves : ℕ → ℕ → ℕ → ℕ → ℕ → ClockSample
moves place running reading place_after running_after =
    record { before = record { place = place; running = running }; reading = reading; after = record { place = place_after; running = running_after } }

abbrev pub clock_samples : List ClockSample
clock_samples =
    moves 1000 7 1000 1000 7  -- 0, −1 and −60 change nothing,
    ∷ moves 1000 7 999 1000 7
    ∷ moves 1000 7 940 1000 7
    ∷ moves 1000 7 939 939 7  -- −61 keeps the new place,
    ∷ moves 1000 7 1001 1001 8  -- and 1 is counted
    ∷ moves 30 7 619315170 30 7  -- around the end of the cycle: −60
    ∷ moves 30 7 619315169 619315169 7  -- and −61
    ∷ moves 0 7 309657600 309657600 7  -- half a cycle is the longest step back,
    ∷ moves 0 7 309657599 309657599 309657606  -- one second less the longest on
    ∷ moves 100000000 7 68464000 68464000 7  -- a year back,
    ∷ moves 68464000 7 68464010 68464010 17  -- and on from there
    ∷ moves 939 7 1000 1000 68  -- back by 61 and forth is 61 seconds more
    ∷ moves 5 4294967295 6 6 0  -- the count wraps
    ∷ []

abbrev pub ClocksAgree : (Clock → ℕ → Clock) → List ClockSample → Type 0
ClocksAgree move [] = Unit {0}
ClocksAgree move (x ∷ xs) = (move x.before x.reading ≡ x.after) × ClocksAgree move xs

-- the clock k as the tally moves it, in a cycle of c seconds
abbrev pub by_tally : ℕ → Clock → ℕ → Clock
by_tally c k to =
    let y = move_tally (record { cycle = c; place = k.place; running = k.running; n = 0; roster = []; holdings = [] }) to in
    record { place = y.place; running = y.running }

-- of any way to move the clock; it holds of the rule that the contracts cite, and of the tally's
abbrev pub ClockSamples : (Clock → ℕ → Clock) → Type 0
ClockSamples move = ClocksAgree move clock_samples

-- WITH WEEKS OF THIRTEEN BITS: place and count, a reading's place, the step to it, and place and count after it
pub record WideSample : Type 0 where
  pub before : Clock
  pub reading : ℕ
  pub step : ℤ
  pub after : Clock

abbrev pub stepping : ℕ → ℕ → ℕ → ℤ → ℕ → ℕ → WideSample
stepping place running reading step place_after running_after =
    record {
      before = record { place = place; running = running };
      reading = reading;
      step = step;
      after = record { place = place_after; running = running_after };
    }

abbrev pub wide_samples : List WideSample
wide_samples =
    stepping 4954521599 7 0 (pos 1) 0 8  -- around the end of the cycle
    ∷ stepping 0 7 2477260800 (negsuc 2477260799) 2477260800 7  -- half a cycle is the longest step back: −2,477,260,800;
    ∷ stepping 0 7 2477260799 (pos 2477260799) 2477260799 2477260806  -- one second less the longest on
    ∷ stepping 0 7 2147483648 (pos 2147483648) 2147483648 2147483655  -- 2^31, which an i32 would take for a step back
    ∷ stepping 619315199 7 619315200 (pos 1) 619315200 8  -- over the end of the ten-bit cycle
    ∷ stepping 10 7 9 (negsuc 0) 10 7  -- −1
    ∷ stepping 0 4294967295 2477260799 (pos 2477260799) 2477260799 2477260798  -- the count wraps under the longest step
    ∷ stepping 1000 7 940 (negsuc 59) 1000 7  -- −60 changes nothing,
    ∷ stepping 1000 7 939 (negsuc 60) 939 7  -- −61 keeps the new place
    ∷ stepping 30 7 4954521570 (negsuc 59) 30 7  -- both around the end of the cycle
    ∷ stepping 30 7 4954521569 (negsuc 60) 4954521569 7
    ∷ []

abbrev pub WidesAgree : (ℕ → ℕ → ℤ) → (Clock → ℕ → Clock) → List WideSample → Type 0
WidesAgree steps move [] = Unit {0}
WidesAgree steps move (x ∷ xs) =
    (steps x.before.place x.reading ≡ x.step) × (move x.before x.reading ≡ x.after) × WidesAgree steps move xs

-- the step by the tally's rules: the seconds ahead, or those behind, less than 0
abbrev pub step_by_tally : ℕ → ℕ → ℕ → ℤ
step_by_tally c from to = cond (forward c from to) (pos (ahead c from to)) (neg_ℤ (pos (behind c from to)))

-- of any way to take a step and to move the clock; it holds of the rules that the contracts cite, and of the tally's
abbrev pub WideSamples : (ℕ → ℕ → ℤ) → (Clock → ℕ → Clock) → Type 0
WideSamples steps move = WidesAgree steps move wide_samples

-- a sender, and an entry of it with a name, pending or established
abbrev pub sample_sender : Sender
sample_sender = record { address = 9; port = 5353 }

abbrev pub sample_holding : Bool → ℕ → ℕ → List ℕ → Holding
sample_holding established granted age name =
    record {
      established = established;
      address = sample_sender.address;
      port = sample_sender.port;
      number = 7;
      lease = granted;
      age = age;
      qtype = 12;
      qclass = 1;
      name = name;
    }

-- THE SPAN: granted lease, age and lease sent, and whether a response with it is right
pub record SpanSample : Type 0 where
  pub granted : ℕ
  pub age : ℕ
  pub sent : ℕ
  pub right : Bool

abbrev pub span : ℕ → ℕ → ℕ → Bool → SpanSample
span granted age sent right = record { granted = granted; age = age; sent = sent; right = right }

abbrev pub span_samples : List SpanSample
span_samples =
    span 3600 0 3600 true  -- at age 0 the granted lease alone
    ∷ span 3600 0 3599 false
    ∷ span 3600 40 3559 false  -- at age 40 from 3,560 on
    ∷ span 3600 40 3560 true
    ∷ span 3600 40 3580 true
    ∷ span 3600 40 3600 true
    ∷ span 3600 40 3601 false
    ∷ span 60 59 0 false  -- in the last second from 1 on
    ∷ span 60 59 1 true
    ∷ span 60 59 60 true
    ∷ span 60 59 61 false
    ∷ span 7200 7199 1 true
    ∷ span 60 0 4294967295 false  -- 2^32 − 1
    ∷ []

abbrev pub span_question : Question
span_question = record { name = 1 ∷ 97 ∷ 0 ∷ []; qtype = 12; qclass = 1 }

-- a response of number 7 with this lease
abbrev pub span_response : ℕ → LlqOption
span_response sent = record { version = 1; opcode = 1; error = 0; number = 7; lease = sent }

-- the holding that it names, pending or established
abbrev pub span_holding : Bool → ℕ → ℕ → Holding
span_holding established granted age = sample_holding established granted age (1 ∷ 97 ∷ 0 ∷ [])

-- each is right or not by the rule that the contracts cite, and by the tally's
abbrev pub SpansAgree : List SpanSample → Type 0
SpansAgree [] = Unit {0}
SpansAgree (x ∷ xs) =
    ((established : Bool)
    → (answers sample_sender span_question (span_response x.sent) (span_holding established x.granted x.age) ≡ x.right)
    × (is_answered sample_sender span_question (span_response x.sent) (span_holding established x.granted x.age) ≡ x.right))
    × SpansAgree xs

abbrev pub SpanSamples : Type 0
SpanSamples = SpansAgree span_samples

-- NAMES: a stored one, a sent one, and whether they are the same
pub record NameSample : Type 0 where
  pub stored : List ℕ
  pub sent : List ℕ
  pub same : Bool

abbrev pub against : List ℕ → List ℕ → Bool → NameSample
against stored sent same = record { stored = stored; sent = sent; same = same }

-- the wire name of one label
abbrev pub one_label : List ℕ → List ℕ
one_label s = length s ∷ (s ++ (0 ∷ []))

-- n bytes, each one more than the last
abbrev pub run : ℕ → ℕ → List ℕ
run first n = up_to n (λ i. first + i)

-- 63 letters, as many as a label may have, from A or a on through the alphabet
abbrev pub alphabet : ℕ → List ℕ
alphabet first = up_to 63 (λ i. first + i % 26)

-- a name of the 32 bytes from one on, stored as it is sent
abbrev pub unfolded : ℕ → NameSample
unfolded first = against (one_label (run first 32)) (one_label (run first 32)) true

-- all 256 bytes, 32 to a name: A to Z are folded, the others are as they are
abbrev pub every_byte : List NameSample
every_byte =
    unfolded 0
    ∷ unfolded 32
    ∷ against (one_label (64 ∷ (run 97 26 ++ run 91 5))) (one_label (run 64 32)) true
    ∷ unfolded 96
    ∷ unfolded 128
    ∷ unfolded 160
    ∷ unfolded 192
    ∷ unfolded 224
    ∷ []

abbrev pub name_samples : List NameSample
name_samples =
    against (one_label (0x40 ∷ 97 ∷ 122 ∷ 0x5B ∷ [])) (one_label (0x40 ∷ 65 ∷ 90 ∷ 0x5B ∷ [])) true  -- @az[ against @AZ[
    ∷ against (one_label (0x40 ∷ 97 ∷ 122 ∷ 0x5B ∷ [])) (one_label (0x60 ∷ 65 ∷ 90 ∷ 0x7B ∷ [])) false  -- and against `AZ{
    ∷ against (one_label (0xE1 ∷ [])) (one_label (0xC1 ∷ [])) false  -- 0xC1 is no capital of 0xE1
    ∷ against (one_label (0xC1 ∷ [])) (one_label (0xE1 ∷ [])) false
    ∷ against (one_label (0x7A ∷ [])) (one_label (0x5A ∷ [])) true  -- z against Z
    ∷ against (0 ∷ []) (0 ∷ []) true  -- the root
    ∷ against (one_label (alphabet 97)) (one_label (alphabet 65)) true  -- 63 capitals against their small letters
    ∷ every_byte

-- the datagram that asks for a name: a header of which nothing is read here, the name, type PTR, class IN
abbrev pub query_for : List ℕ → List ℕ
query_for sent = replicate 12 0 ++ sent ++ (0 ∷ 12 ∷ 0 ∷ 1 ∷ [])

-- the question read is that of the holding or not, by the rule that the contracts cite and by the tally's
abbrev pub NamesAgree : (List ℕ → ℕ → Question) → List NameSample → Type 0
NamesAgree reads [] = Unit {0}
NamesAgree reads (x ∷ xs) =
    (asks sample_sender.address sample_sender.port (reads (query_for x.sent) 0) (sample_holding true 3600 0 x.stored) ≡ x.same)
    × (is_of sample_sender (reads (query_for x.sent) 0) (sample_holding true 3600 0 x.stored) ≡ x.same)
    × NamesAgree reads xs

-- of any way to read question i of a datagram; it holds of the reader that the contracts cite
abbrev pub NameSamples : (List ℕ → ℕ → Question) → Type 0
NameSamples reads = NamesAgree reads name_samples

-- question i with each byte of its name read by a function
abbrev pub read_by : (ℕ → ℕ) → List ℕ → ℕ → Question
read_by f d i =
    let at = question_start d i in record { name = map f (part at (name_at d at) d); qtype = (question d i).qtype; qclass = (question d i).qclass }

-- THE SAMPLES SETTLE THE FOLD: only by one that folds every byte right are they met
abbrev pub FoldSettled : Type 0
FoldSettled = (f : ℕ → ℕ) → NameSamples (read_by f) → (b : ℕ) → b < 256 → Folded b (f b)
