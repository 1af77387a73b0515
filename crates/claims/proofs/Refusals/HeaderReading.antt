-- The reading, the datagram's size and its header: each test against its faults. Assumes nothing.
use Prim.Native.Nat.{ℕ, ◌+◌, ◌*◌, ◌≤◌}
use native.Mathlib.Omega.{arith}
use mathlib.Core.Path.{◌≡◌, sym, ap, ◌∙◌}
use mathlib.Core.Bool.{true, false, ◌&&◌}
use mathlib.Core.List.{List}
use mathlib.Core.Logic.{◌≢◌}
use lib.ListN.{length, get_or}
use lib.Dec.{eqb, leb, ltb}
use borrow.Author.Tests.{leb-false, ltb-true, ltb-false, eqb-false}
use Rattle.model.specs.Numbers.{Bytes}
use Rattle.model.specs.Clock.{Weeks, ten_bit, thirteen_bit, weeks_in, valid_reading}
use Rattle.model.specs.Query.{wrong_size, flag_qr, flag_opcode, flag_tc, qdcount, ancount, nscount, arcount, good_header}
use Rattle.model.specs.Table.{Layout, layout_of, slots_in, size_of}
use Rattle.model.specs.Calls.{table_length}
use Rattle.model.proofs.ListLaws.{and_left, and_right, or_left, or_right, not-both, one_of}
use Rattle.model.proofs.QueryLaws.{HeaderFacts, header-facts}
use Rattle.model.proofs.RoundTrip.{layout-back, slots-back}
use Rattle.model.proofs.CallLaws.{length-facts}
use Rattle.claims.specs.Lengths.{last_week}
use Rattle.claims.specs.Refusals.{WrongLength, ReadingFault, SizeFault, HeaderFault}
use Rattle.claims.proofs.LengthLaws.{weeks-for}
use Rattle.claims.proofs.Refusals.QuestionReading.{big-two}

-- THE TABLE'S LENGTH

-- it is the length of no table of 1 to 64 slots, in either layout
pub not-laid : (size : ℕ) → table_length size ≡ false → (n : ℕ) → 1 ≤ n → n ≤ 64 → (l : Layout) → size ≢ size_of l n
unfolding table_length
not-laid size h n low high l e =
    let s : slots_in size ≡ n = ap slots_in e ∙ slots-back l n in
    let k : layout_of size ≡ l = ap layout_of e ∙ layout-back l n in
    not-both (leb 1 (slots_in size) && leb (slots_in size) 64) (eqb size (size_of (layout_of size) (slots_in size)))
    (not-both (leb 1 (slots_in size)) (leb (slots_in size) 64)
    (λ x. omega (arith, s, leb-false 1 (slots_in size) x))
    (λ t x. omega (arith, s, leb-false (slots_in size) 64 x)))
    (λ t x. eqb-false size (size_of (layout_of size) (slots_in size)) x (e ∙ sym (ap (λ (l : Layout). size_of l n) k) ∙ sym (ap (size_of (layout_of size)) s)))
    h

pub bad-length : (size : ℕ) → table_length size ≡ false → WrongLength size
bad-length size h n low high = (not-laid size h n low high (record { weeks = ten_bit }), not-laid size h n low high (record { weeks = thirteen_bit }))

pub good_length : (size : ℕ) → table_length size ≡ true → WrongLength size → ⊥
good_length size h wrong =
    let f = length-facts size h in
    let w = wrong (slots_in size) f.slots_min f.slots_max in
    go (layout_of size).weeks (slots_in size) f.whole w
  where
    go : (w : Weeks) (n : ℕ) → size ≡ size_of (record { weeks = w }) n → (size ≢ 313 + 320 * n) × (size ≢ 317 + 320 * n) → ⊥
    go ten_bit n e w = w.0 e
    go thirteen_bit n e w = w.1 e

-- THE READING

-- on a table of a length
module _ (size week second : ℕ) where
  abbrev weeks : ℕ
  weeks = weeks_in (layout_of size).weeks

  pub bad-reading : valid_reading (layout_of size).weeks week second ≡ false → ReadingFault (last_week size) week second
  bad-reading =
      not-both (ltb week weeks) (ltb second 604800)
      (λ x. ReadingFault.week_too_large (omega (arith, weeks-for size, ltb-false week weeks x)))
      (λ t x. ReadingFault.second_too_large (omega (arith, ltb-false second 604800 x)))

  pub good-reading : valid_reading (layout_of size).weeks week second ≡ true → ReadingFault (last_week size) week second → ⊥
  good-reading h (ReadingFault.week_too_large l) = omega (arith, weeks-for size, ltb-true week weeks (and_left (ltb week weeks) (ltb second 604800) h))
  good-reading h (ReadingFault.second_too_large l) = omega (arith, ltb-true second 604800 (and_right (ltb week weeks) (ltb second 604800) h))

-- THE SIZE

module _ (d : List ℕ) where
  pub bad-size : wrong_size d ≡ true → SizeFault d
  bad-size =
      one_of (ltb (length d) 12) (ltb 1472 (length d)) (λ x. SizeFault.under (ltb-true (length d) 12 x)) (λ x. SizeFault.over (ltb-true 1472 (length d) x))

  pub good-size : wrong_size d ≡ false → SizeFault d → ⊥
  good-size h (SizeFault.under l) = omega (arith, ltb-false (length d) 12 (or_left (ltb (length d) 12) (ltb 1472 (length d)) h))
  good-size h (SizeFault.over l) = omega (arith, ltb-false 1472 (length d) (or_right (ltb (length d) 12) (ltb 1472 (length d)) h))

  -- THE HEADER

  module _ (bytes : Bytes d) where
    high_bit : 128 ≤ get_or d 2 0 → flag_qr d ≢ 0
    high_bit l e = let b = bytes 2 in omega arith

    bit_high : flag_qr d ≢ 0 → 128 ≤ get_or d 2 0
    bit_high e = let b = bytes 2 in omega arith

    pub bad-header : good_header d ≡ false → HeaderFault d
    unfolding good_header
    bad-header =
        let a = eqb (flag_qr d) 0 in
        let b = eqb (flag_opcode d) 0 in
        let c = eqb (flag_tc d) 0 in
        let e1 = leb 1 (qdcount d) in
        let e2 = leb (qdcount d) 8 in
        let f = eqb (ancount d) 0 in
        let g = eqb (nscount d) 0 in
        let h = eqb (arcount d) 1 in
        not-both (a && b && c && (e1 && e2) && f && g) h
        (not-both (a && b && c && (e1 && e2) && f) g
        (not-both (a && b && c && (e1 && e2)) f
        (not-both (a && b && c) (e1 && e2)
        (not-both (a && b) c
        (not-both a b
        (λ x. HeaderFault.not_query (bit_high (eqb-false (flag_qr d) 0 x)))
        (λ t x. HeaderFault.other_opcode (eqb-false (flag_opcode d) 0 x)))
        (λ t x. HeaderFault.truncated (eqb-false (flag_tc d) 0 x)))
        (λ t.
        not-both e1 e2
        (λ x. HeaderFault.no_question (rw (big-two d 4) at (leb-false 1 (qdcount d) x)))
        (λ u x. HeaderFault.many_questions (rw (big-two d 4) at (leb-false (qdcount d) 8 x)))))
        (λ t x. HeaderFault.has_answers (rw (big-two d 6) at (eqb-false (ancount d) 0 x))))
        (λ t x. HeaderFault.has_authorities (rw (big-two d 8) at (eqb-false (nscount d) 0 x))))
        (λ t x. HeaderFault.not_one_additional (rw (big-two d 10) at (eqb-false (arcount d) 1 x)))

    faultless : HeaderFacts d → HeaderFault d → ⊥
    faultless g (HeaderFault.not_query l) = high_bit l g.query
    faultless g (HeaderFault.other_opcode n) = n g.opcode
    faultless g (HeaderFault.truncated n) = n g.whole
    faultless g (HeaderFault.no_question l) = omega (arith, g.some, big-two d 4)
    faultless g (HeaderFault.many_questions l) = omega (arith, g.few, big-two d 4)
    faultless g (HeaderFault.has_answers n) = n (sym (big-two d 6) ∙ g.answers)
    faultless g (HeaderFault.has_authorities n) = n (sym (big-two d 8) ∙ g.authorities)
    faultless g (HeaderFault.not_one_additional n) = n (sym (big-two d 10) ∙ g.additional)

    pub good-header : good_header d ≡ true → HeaderFault d → ⊥
    good-header h = faultless (header-facts d h)
