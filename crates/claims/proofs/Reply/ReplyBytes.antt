-- Document 01's reply: its length, and what stands at each of its places. Assumes nothing.
use Prim.Native.Nat.{ℕ, suc, ◌+◌, ◌-◌, ◌*◌, ◌/◌, ◌%◌, ◌^◌, ◌≤◌, ◌<◌}
use native.Mathlib.Omega.{arith}
use mathlib.Core.Path.{◌≡◌, refl, sym, ap, ◌∙◌}
use mathlib.Core.List.{List, [], ◌∷◌, ◌++◌, append_assoc}
use lib.ListN.{length, get_or, take, drop, length-append, get_or-append}
use lib.Seq.{get_or-append-add}
use Rattle.model.specs.Lists.{flat}
use Rattle.model.specs.Numbers.{Bytes, big_endian, bytes_of, encode}
use Rattle.model.proofs.Fields.{offset}
use Rattle.model.specs.Query.{message_number, flag_rd, qdcount, questions_end}
use Rattle.model.specs.Serve.{Outcome}
use Rattle.model.specs.Reply.{header_bytes, question_bytes, opt_bytes, option_bytes, reply_bytes}
use Rattle.model.proofs.NumberLaws.{get_or-part, bytes-nil, bytes-append, bytes-part, bytes-encode}
use Rattle.model.proofs.ListLaws.{length-flat}
use Rattle.model.proofs.ReplyLaws.{length-header, length-questions, length-opt, length-option}
use Rattle.model.proofs.SlotLaws.{field-behind}
use Rattle.model.proofs.TableLaws.{flat-cut, length_front}

-- THE FIELDS

abbrev pub header_list : List ℕ → List ℕ
header_list d = get_or d 0 0 ∷ get_or d 1 0 ∷ (132 + flag_rd d) ∷ 0 ∷ get_or d 4 0 ∷ get_or d 5 0 ∷ 0 ∷ 0 ∷ 0 ∷ 0 ∷ 0 ∷ 1 ∷ []

high_byte : (x y : ℕ) → x < 256 → y < 256 → ((0 + x) * 256 + y) / 256 % 256 ≡ x
high_byte x y h l = omega arith

low_byte : (x y : ℕ) → y < 256 → ((0 + x) * 256 + y) % 256 ≡ y
low_byte x y l = omega arith

pub header_is : (d : List ℕ) → Bytes d → header_bytes d ≡ header_list d
unfolding header_bytes encode bytes_of big_endian
header_is d b =
    let f : (132 + flag_rd d) % 256 ≡ 132 + flag_rd d = omega arith in
    rw (
      high_byte (get_or d 0 0) (get_or d 1 0) (b 0) (b 1),
      low_byte (get_or d 0 0) (get_or d 1 0) (b 1),
      high_byte (get_or d 4 0) (get_or d 5 0) (b 4) (b 5),
      low_byte (get_or d 4 0) (get_or d 5 0) (b 5),
      f,
    )

abbrev pub opt_list : ℕ → List ℕ
opt_list k = 0 ∷ 0 ∷ 41 ∷ 5 ∷ 192 ∷ 0 ∷ 0 ∷ 0 ∷ 0 ∷ 22 * k / 256 % 256 ∷ 22 * k % 256 ∷ []

pub opt-is : (k : ℕ) → opt_bytes k ≡ opt_list k
unfolding opt_bytes encode bytes_of
opt-is k = refl

-- an option's fields: code, length, version, opcode, error, LLQ number, lease
abbrev pub option_fields : Outcome → List (ℕ × ℕ)
option_fields o = (2, 1) ∷ (2, 18) ∷ (2, 1) ∷ (2, o.opcode) ∷ (2, o.error) ∷ (8, o.number) ∷ (4, o.lease) ∷ []

-- they fit their widths
pub record FitsOutcome (o : Outcome) : Type 0 where
  pub opcode : o.opcode < 256 ^ 2
  pub error : o.error < 256 ^ 2
  pub number : o.number < 256 ^ 8
  pub lease : o.lease < 256 ^ 4

-- THE REPLY with what stands behind it, to a datagram whose questions end within it
module _ (d : List ℕ) (os : List Outcome) (rest : List ℕ) (low : 12 ≤ questions_end d) (high : questions_end d ≤ length d) where
  length-options : length (flat option_bytes os) ≡ 22 * length os
  length-options = length-flat option_bytes 22 os (λ i o l. length-option (get_or os i o))

  -- 12 + questions + 11 + 22 for each option
  pub length-reply : length (reply_bytes d os) ≡ 12 + (questions_end d - 12) + 11 + 22 * length os
  unfolding reply_bytes
  length-reply =
      rw (length-append, length-append, length-append, length-header d, length-questions d low high, length-opt (length os), length-options) (omega arith)

  -- the parts, one behind the other
  parts : reply_bytes d os ++ rest ≡ header_bytes d ++ (question_bytes d ++ (opt_bytes (length os) ++ (flat option_bytes os ++ rest)))
  unfolding reply_bytes
  parts = simp append_assoc

  pub header-byte : Bytes d → (i : ℕ) → i < 12 → get_or (reply_bytes d os ++ rest) i 0 ≡ get_or (header_list d) i 0
  header-byte b i l =
      rw parts
      (get_or-append (header_bytes d) (question_bytes d ++ (opt_bytes (length os) ++ (flat option_bytes os ++ rest))) 0 i (omega (arith, length-header d))
      ∙ ap (λ (z : List ℕ). get_or z i 0) (header_is d b))

  pub question-byte : (i : ℕ) → 12 ≤ i → i < questions_end d → get_or (reply_bytes d os ++ rest) i 0 ≡ get_or d i 0
  question-byte i l h =
      let tail = opt_bytes (length os) ++ (flat option_bytes os ++ rest) in
      let e : i ≡ length (header_bytes d) + (i - 12) = omega (arith, length-header d) in
      let f : 12 + (i - 12) ≡ i = omega arith in
      ap (λ (z : List ℕ). get_or z i 0) parts
      ∙ ap (λ (j : ℕ). get_or (header_bytes d ++ (question_bytes d ++ tail)) j 0) e
      ∙ get_or-append-add (header_bytes d) (question_bytes d ++ tail) (i - 12) 0
      ∙ get_or-append (question_bytes d) tail 0 (i - 12) (omega (arith, length-questions d low high))
      ∙ get_or-part 12 (questions_end d - 12) d (i - 12) (omega arith)
      ∙ ap (λ (j : ℕ). get_or d j 0) f

  -- what stands before the OPT record
  abbrev front : List ℕ
  front = header_bytes d ++ question_bytes d

  length-front-part : length front ≡ questions_end d
  length-front-part = rw (length-append, length-header d, length-questions d low high) (omega arith)

  from-opt : reply_bytes d os ++ rest ≡ front ++ (opt_bytes (length os) ++ (flat option_bytes os ++ rest))
  from-opt = parts ∙ sym (append_assoc (header_bytes d) (question_bytes d) (opt_bytes (length os) ++ (flat option_bytes os ++ rest)))

  pub opt-byte : (i : ℕ) → i < 11 → get_or (reply_bytes d os ++ rest) (questions_end d + i) 0 ≡ get_or (opt_list (length os)) i 0
  opt-byte i l =
      let tail = flat option_bytes os ++ rest in
      let e : questions_end d + i ≡ length front + i = omega (arith, length-front-part) in
      ap (λ (z : List ℕ). get_or z (questions_end d + i) 0) from-opt
      ∙ ap (λ (j : ℕ). get_or (front ++ (opt_bytes (length os) ++ tail)) j 0) e
      ∙ get_or-append-add front (opt_bytes (length os) ++ tail) i 0
      ∙ get_or-append (opt_bytes (length os)) tail 0 i (omega (arith, length-opt (length os)))
      ∙ ap (λ (z : List ℕ). get_or z i 0) (opt-is (length os))

  -- option i behind all that is before it
  abbrev before_option : ℕ → List ℕ
  before_option i = front ++ (opt_bytes (length os) ++ flat option_bytes (take i os))

  length_before : (i : ℕ) → i ≤ length os → length (before_option i) ≡ questions_end d + 11 + 22 * i
  length_before i l =
      let e = length-append front (opt_bytes (length os) ++ flat option_bytes (take i os)) in
      let f = length-append (opt_bytes (length os)) (flat option_bytes (take i os)) in
      let g = length_front option_bytes 22 os (λ i o l. length-option (get_or os i o)) i l in
      omega (arith, length-front-part, length-opt (length os))

  from-option : (i : ℕ) (o : Outcome) → i < length os
      → reply_bytes d os ++ rest ≡ before_option i ++ (encode (option_fields (get_or os i o)) ++ (flat option_bytes (drop (suc i) os) ++ rest))
  unfolding option_bytes
  from-option i o l = from-opt ∙ rw (flat-cut option_bytes os i o l) (simp append_assoc)

  -- field j of option i
  pub option-field : (i : ℕ) (o : Outcome) → i < length os
      → (j : ℕ) → j < 7
      → (get_or (option_fields (get_or os i o)) j (0, 0)).1 < 256 ^ (get_or (option_fields (get_or os i o)) j (0, 0)).0
      → big_endian (reply_bytes d os ++ rest) (questions_end d + 11 + 22 * i + offset (option_fields (get_or os i o)) j) (get_or (option_fields (get_or os i o)) j (0, 0)).0
      ≡ (get_or (option_fields (get_or os i o)) j (0, 0)).1
  option-field i o l j k f =
      let fs = option_fields (get_or os i o) in
      ap (λ (z : List ℕ). big_endian z (questions_end d + 11 + 22 * i + offset fs j) (get_or fs j (0, 0)).0) (from-option i o l)
      ∙ field-behind (before_option i) (questions_end d + 11 + 22 * i) fs (flat option_bytes (drop (suc i) os) ++ rest) j (length_before i (omega arith)) k f

-- every element of it is a byte
bytes-options : (os : List Outcome) → Bytes (flat option_bytes os)
unfolding flat option_bytes
bytes-options [] = bytes-nil
bytes-options (o ∷ os) = bytes-append (encode (option_fields o)) (flat option_bytes os) (bytes-encode (option_fields o)) (bytes-options os)

pub bytes-reply : (d : List ℕ) (os : List Outcome) → Bytes d → Bytes (reply_bytes d os)
unfolding reply_bytes header_bytes opt_bytes
bytes-reply d os b =
    bytes-append (header_bytes d) (question_bytes d ++ (opt_bytes (length os) ++ flat option_bytes os))
    (bytes-encode ((2, message_number d) ∷ (1, 132 + flag_rd d) ∷ (1, 0) ∷ (2, qdcount d) ∷ (2, 0) ∷ (2, 0) ∷ (2, 1) ∷ []))
    (bytes-append (question_bytes d) (opt_bytes (length os) ++ flat option_bytes os) (bytes-part 12 (questions_end d - 12) d b)
    (bytes-append (opt_bytes (length os)) (flat option_bytes os)
    (bytes-encode ((1, 0) ∷ (2, 41) ∷ (2, 1472) ∷ (4, 0) ∷ (2, 22 * length os) ∷ []))
    (bytes-options os)))
