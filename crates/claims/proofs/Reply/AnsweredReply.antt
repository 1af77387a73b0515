-- An answered datagram's reply, place by place, where the tables before its options fit. Assumes nothing.
use Prim.Native.Nat.{ℕ, ◌+◌, ◌-◌, ◌*◌, ◌≤◌, ◌<◌}
use native.Mathlib.Nat.{add-zero, add_assoc}
use native.Mathlib.Omega.{arith}
use mathlib.Core.Path.{◌≡◌, refl, sym, ap, ◌∙◌, subst}
use mathlib.Core.Bool.{Bool, true, false, cond}
use mathlib.Core.List.{List, [], ◌∷◌, ◌++◌}
use lib.ListN.{length, get_or, drop, length-append, length-drop, get_or-append}
use lib.Seq.{drop_at}
use lib.Dec.{lit<}
use Rattle.model.specs.Lists.{up_to}
use Rattle.model.specs.Numbers.{Bytes, big_endian}
use Rattle.model.specs.Query.{qdcount, questions_end, question, llq_option, matched}
use Rattle.model.specs.Table.{Table, read_table}
use Rattle.model.specs.Sound.{Fits}
use Rattle.model.specs.Serve.{Outcome}
use Rattle.model.specs.Reply.{reply_bytes, reply_length, reply_options, mismatch}
use Rattle.model.specs.Calls.{ServeCall, serve_refusal, serve, table_before, outcome_of, outcomes}
use Rattle.model.proofs.NumberLaws.{big-ext}
use Rattle.model.proofs.ListLaws.{either, length-up_to, get_or-up_to}
use Rattle.model.proofs.QueryLaws.{header-facts, start-min, start-max, fits-option}
use Rattle.model.proofs.CallLaws.{serve-answered}
use Rattle.claims.specs.Events.{ServeInRange}
use Rattle.claims.specs.Reply.{option_count, option_place, OptionSays, Reply}
use Rattle.claims.proofs.AcceptedCalls.{QueryAccepted}
use Rattle.claims.proofs.Reply.ReplyBytes.{opt_list, FitsOutcome, length-reply, header-byte, question-byte, opt-byte, option-field, bytes-reply}
use Rattle.claims.proofs.Reply.OutcomeLaws.{OutcomeRange, option-range, range-fits}

-- THE OPTIONS OF A REPLY

abbrev no_outcome : Outcome
no_outcome = record { opcode = 0; error = 0; number = 0; lease = 0 }

-- the data length of k options
data_is : (k : ℕ) → k ≤ 8 → big_endian (opt_list k) 9 2 ≡ 22 * k
unfolding big_endian
data_is k l = omega arith

module _ (d : List ℕ) (os : List Outcome) (rest : List ℕ) (low : 12 ≤ questions_end d) (high : questions_end d ≤ length d) where
  pub option-says : (i : ℕ) (o : Outcome) → i < length os → get_or os i no_outcome ≡ o → FitsOutcome o
      → OptionSays (reply_bytes d os ++ rest) (option_place d i) o.opcode o.error o.number o.lease
  option-says i o l e f =
      let x = get_or os i no_outcome in
      let g : FitsOutcome x = subst FitsOutcome (sym e) f in
      let z = option-field d os rest low high i no_outcome l in
      subst (λ (o : Outcome). OptionSays (reply_bytes d os ++ rest) (option_place d i) o.opcode o.error o.number o.lease) e
      (record {
        option = rw add-zero at (z 0 (lit< tt) (lit< tt));
        size = z 1 (lit< tt) (lit< tt);
        version = z 2 (lit< tt) (lit< tt);
        opcode = z 3 (lit< tt) g.opcode;
        error = z 4 (lit< tt) g.error;
        number = z 5 (lit< tt) g.number;
        lease = z 6 (lit< tt) g.lease;
      })

  -- numbers in the OPT record
  opt-number : (j w : ℕ) → j + w ≤ 11 → big_endian (reply_bytes d os ++ rest) (questions_end d + j) w ≡ big_endian (opt_list (length os)) j w
  opt-number j w l =
      big-ext (reply_bytes d os ++ rest) (opt_list (length os)) (questions_end d + j) j w
      (λ i h. ap (λ (k : ℕ). get_or (reply_bytes d os ++ rest) k 0) (add_assoc (questions_end d) j i) ∙ opt-byte d os rest low high (j + i) (omega arith))

  opt-type : big_endian (reply_bytes d os ++ rest) (questions_end d + 1) 2 ≡ 41
  unfolding big_endian
  opt-type = opt-number 1 2 (omega arith)

  opt-class : big_endian (reply_bytes d os ++ rest) (questions_end d + 3) 2 ≡ 1472
  unfolding big_endian
  opt-class = opt-number 3 2 (omega arith)

  opt-ttl : big_endian (reply_bytes d os ++ rest) (questions_end d + 5) 4 ≡ 0
  unfolding big_endian
  opt-ttl = opt-number 5 4 (omega arith)

  opt-data : length os ≤ 8 → big_endian (reply_bytes d os ++ rest) (questions_end d + 9) 2 ≡ 22 * length os
  opt-data l = opt-number 9 2 (omega arith) ∙ data_is (length os) l

-- THE OUTCOMES

outcomes-all : (c : ServeCall) (t : Table) → matched c.datagram ≡ true → outcomes c t ≡ up_to (qdcount c.datagram) (outcome_of c t)
unfolding outcomes
outcomes-all c t m = rw m

outcomes-one : (c : ServeCall) (t : Table) → matched c.datagram ≡ false → outcomes c t ≡ mismatch ∷ []
unfolding outcomes
outcomes-one c t m = rw m

length-outcomes : (c : ServeCall) (t : Table) → length (outcomes c t) ≡ option_count c.datagram
unfolding outcomes
length-outcomes c t = go (matched c.datagram)
  where
    go : (v : Bool) → length (cond v (up_to (qdcount c.datagram) (outcome_of c t)) (mismatch ∷ [])) ≡ cond v (qdcount c.datagram) 1
    go true = length-up_to (qdcount c.datagram) (outcome_of c t)
    go false = refl

count-at-most : (d : List ℕ) → qdcount d ≤ 8 → option_count d ≤ 8
count-at-most d h = either (λ (n : ℕ). n ≤ 8) (matched d) h (omega arith)

reply-options : (d : List ℕ) → reply_options d ≡ option_count d
unfolding reply_options
reply-options d = refl

-- of an answered datagram: what option i's outcome is, and that it fits
outcome-range : (c : ServeCall) (t : Table) (i : ℕ) → Bytes c.datagram → Fits (table_before c t i) → OutcomeRange (llq_option c.datagram i) (outcome_of c t i)
unfolding outcome_of
outcome-range c t i b f =
    option-range c.sender c.random (question c.datagram i) (llq_option c.datagram i) (table_before c t i) f (fits-option c.datagram _ b).number

module _ (c : ServeCall) (b lent : List ℕ) (range : ServeInRange c) (p : QueryAccepted (read_table b).layout.weeks c) (room : c.room ≡ length lent)
    (fits : (i : ℕ) → i < qdcount c.datagram → Fits (table_before c (read_table b) i)) where
  low_end : 12 ≤ questions_end c.datagram
  low_end = start-min c.datagram (qdcount c.datagram)

  high_end : questions_end c.datagram ≤ length c.datagram
  high_end = start-max c.datagram (qdcount c.datagram) p.size_min p.questions

  option-at : (rest : List ℕ) → matched c.datagram ≡ true → (i : ℕ) → i < qdcount c.datagram
      → OptionSays (reply_bytes c.datagram (outcomes c (read_table b)) ++ rest) (option_place c.datagram i) (llq_option c.datagram i).opcode
      (outcome_of c (read_table b) i).error (outcome_of c (read_table b) i).number (outcome_of c (read_table b) i).lease
  option-at rest m i l =
      let d = c.datagram in
      let t = read_table b in
      let x = outcome_of c t i in
      let sent = outcome-range c t i range.datagram (fits i l) in
      let all = outcomes-all c t m in
      let e : get_or (outcomes c t) i no_outcome ≡ x = ap (λ (z : List Outcome). get_or z i no_outcome) all ∙ get_or-up_to (qdcount d) (outcome_of c t) i no_outcome l in
      let h : i < length (outcomes c t) = omega (arith, ap length all, length-up_to (qdcount d) (outcome_of c t)) in
      subst (λ (k : ℕ). OptionSays (reply_bytes d (outcomes c t) ++ rest) (option_place d i) k x.error x.number x.lease) sent.opcode
      (option-says d (outcomes c t) rest low_end high_end i x h e (range-fits (llq_option d i) x (fits-option d _ range.datagram).opcode sent))

  option-one : (rest : List ℕ) → matched c.datagram ≡ false
      → OptionSays (reply_bytes c.datagram (outcomes c (read_table b)) ++ rest) (option_place c.datagram 0) 1 3 0 0
  option-one rest m =
      let t = read_table b in
      let one = outcomes-one c t m in
      option-says c.datagram (outcomes c t) rest low_end high_end 0 mismatch (omega (arith, ap length one)) (ap (λ (z : List Outcome). get_or z 0 no_outcome) one)
      (record { opcode = lit< tt; error = lit< tt; number = lit< tt; lease = lit< tt })

  reply-of : Reply c b lent (reply_bytes c.datagram (outcomes c (read_table b)) ++ drop (reply_length c.datagram) lent) (reply_length c.datagram)
  reply-of =
      let d = c.datagram in
      let t = read_table b in
      let os = outcomes c t in
      let k = reply_length d in
      let rest = drop k lent in
      let low = low_end in
      let high = high_end in
      let n : length os ≡ option_count d = length-outcomes c t in
      let most : option_count d ≤ 8 = count-at-most d (header-facts d p.header).few in
      let size : k ≡ 12 + (questions_end d - 12) + 11 + 22 * option_count d = rw (reply-options d) in
      let whole : length (reply_bytes d os) ≡ k = length-reply d os rest low high ∙ rw (n, reply-options d) in
      let head = header-byte d os rest low high range.datagram in
      record {
        size = size;
        fits = omega (arith, p.fits);
        most = p.most;
        octets = λ i h. rw (get_or-append (reply_bytes d os) rest 0 i (omega arith)) (bytes-reply d os range.datagram i);
        number0 = head 0 (lit< tt);
        number1 = head 1 (lit< tt);
        flags2 = head 2 (lit< tt);
        flags3 = head 3 (lit< tt);
        qdcount4 = head 4 (lit< tt);
        qdcount5 = head 5 (lit< tt);
        ancount6 = head 6 (lit< tt);
        ancount7 = head 7 (lit< tt);
        nscount8 = head 8 (lit< tt);
        nscount9 = head 9 (lit< tt);
        arcount10 = head 10 (lit< tt);
        arcount11 = head 11 (lit< tt);
        questions = question-byte d os rest low high;
        opt_name = rw add-zero at (opt-byte d os rest low high 0 (lit< tt));
        opt_type = opt-type d os rest low high;
        opt_class = opt-class d os rest low high;
        opt_ttl = opt-ttl d os rest low high;
        opt_data = opt-data d os rest low high (omega arith) ∙ ap (λ (x : ℕ). 22 * x) n;
        options = option-at rest;
        mismatch = option-one rest;
        beyond = drop_at (reply_bytes d os) rest k whole;
        buffer = length-append (reply_bytes d os) rest ∙ omega (arith, length-drop k lent, p.fits);
      }

  pub reply-answered : serve_refusal c b ≡ 0 → Reply c b lent (serve c b lent).reply (serve c b lent).length
  reply-answered e = rw (serve-answered c b lent e) reply-of
