-- What holds of whatever the cursor reads as a name, a number, a question or an option. Assumes nothing.
use Prim.Native.Nat.{ℕ, ◌+◌, ◌≤◌, ◌<◌}
use mathlib.Core.Path.{◌≡◌, refl, sym, ap, subst}
use mathlib.Core.List.{List}
use mathlib.Core.Bool.{Bool, true, false, ◌&&◌, and-false}
use native.Mathlib.Omega.{arith}
use lib.ListN.{length}
use lib.Dec.{leb}
use borrow.Author.Tests.{le-leb, lt-leb, leb-true, leb-false}
use Rattle.std.specs.Prelude.{Option, Some, None}
use Rattle.model.specs.Numbers.{big_endian}
use Rattle.model.specs.Query.{name_at, good_question, question_end, good_option, option_end}
use Rattle.wire.specs.Records.{question_record, record_at}
use Rattle.wire.specs.Read.{cursor, read_number, read_name, question_read, read_question, read_option}
use Rattle.wire.specs.declared.Cursor.{Cursor}
use Rattle.wire.specs.declared.QuestionRead.{QuestionRead}
use Rattle.wire.specs.declared.OptionRead.{OptionRead}
use Rattle.std.proofs.lemmas.Bool.{cond_both}

-- NUMBERS AND NAMES

abbrev pub NumberIs : List ℕ → ℕ → Option (ℕ × Cursor) → Type 0
NumberIs s at (Some (k, c)) = (k ≡ big_endian s at 2) × (c ≡ cursor (at + 2)) × (at + 2 ≤ length s)
NumberIs s at None = length s < at + 2

pub number_is : (s : List ℕ) (at : ℕ) {r : Option (ℕ × Cursor)} → r ≡ read_number s at → NumberIs s at r
number_is s at e =
    subst (NumberIs s at) (sym e)
    (cond_both (leb (at + 2) (length s)) _ _ (NumberIs s at)
    (λ t. (refl, refl, leb-true (at + 2) (length s) t))
    (λ t. leb-false (at + 2) (length s) t))

-- a name is of 1 to 255 bytes
abbrev pub fitting : ℕ → Bool
fitting n = leb 1 n && leb n 255

abbrev pub NameIs : List ℕ → ℕ → Option (ℕ × Cursor) → Type 0
NameIs s at (Some (n, c)) = (name_at s at ≡ n) × (fitting n ≡ true) × (c ≡ cursor (at + n))
NameIs s at None = fitting (name_at s at) ≡ false

pub name-is : (s : List ℕ) (at : ℕ) {r : Option (ℕ × Cursor)} → r ≡ read_name s at → NameIs s at r
name-is s at e =
    subst (NameIs s at) (sym e) (cond_both (fitting (name_at s at)) _ _ (NameIs s at) (λ t. (refl, t, refl)) (λ t. t))

-- QUESTIONS

module _ (s : List ℕ) (at : ℕ) where
  good-is : fitting (name_at s at) ≡ true → at + name_at s at + 4 ≤ length s → good_question s at ≡ true
  unfolding good_question
  good-is f l = rw (f, le-leb (at + name_at s at + 4) (length s) l)

  unnamed : fitting (name_at s at) ≡ false → good_question s at ≡ false
  unfolding good_question
  unnamed f = rw f

  cut : length s < at + name_at s at + 4 → good_question s at ≡ false
  unfolding good_question
  cut l = rw (lt-leb (at + name_at s at + 4) (length s) l, and-false)

  module _ {len : ℕ} {c1 : Cursor} (n : Some (len, c1) ≡ read_name s at) where
    module _ {qtype : ℕ} {c2 : Cursor} (p : Some (qtype, c2) ≡ read_number s c1.at) where
      pub question-found : {qclass : ℕ} {next : Cursor} → Some (qclass, next) ≡ read_number s c2.at
          → Some (question_read at len qtype qclass, next) ≡ read_question s at
      question-found q =
          let n' = name-is s at n in
          let p' = number_is s c1.at p in
          let q' = number_is s c2.at q in
          let e1 : c1.at ≡ at + len = ap (λ (c : Cursor). c.at) n'.2 in
          let e2 : c2.at ≡ c1.at + 2 = ap (λ (c : Cursor). c.at) p'.1 in
          let l : at + name_at s at + 4 ≤ length s = omega arith in
          let g : good_question s at ≡ true = good-is (rw n'.0 n'.1) l in
          let e3 : c2.at ≡ at + len + 2 = omega arith in
          let e4 : c2.at + 2 ≡ at + len + 4 = omega arith in
          rw (g, n'.0, p'.0, q'.0, q'.1, e4, e3, e1)

      pub question-cut-later : None ≡ read_number s c2.at → None ≡ read_question s at
      question-cut-later q =
          let n' = name-is s at n in
          let p' = number_is s c1.at p in
          let q' = number_is s c2.at q in
          let e1 : c1.at ≡ at + len = ap (λ (c : Cursor). c.at) n'.2 in
          let e2 : c2.at ≡ c1.at + 2 = ap (λ (c : Cursor). c.at) p'.1 in
          rw (cut (omega arith))

    pub question-cut : None ≡ read_number s c1.at → None ≡ read_question s at
    question-cut p =
        let n' = name-is s at n in
        let p' = number_is s c1.at p in
        let e1 : c1.at ≡ at + len = ap (λ (c : Cursor). c.at) n'.2 in
        rw (cut (omega arith))

  pub question-unnamed : None ≡ read_name s at → None ≡ read_question s at
  question-unnamed n = rw (unnamed (name-is s at n))

abbrev pub QuestionIs : List ℕ → ℕ → Option (QuestionRead × Cursor) → Type 0
QuestionIs s at (Some (q, next)) =
    (good_question s at ≡ true) × (question_record q.start q.len q.qtype q.qclass ≡ record_at s at) × (next.at ≡ question_end s at)
QuestionIs s at None = good_question s at ≡ false

pub question-is : (s : List ℕ) (at : ℕ) {r : Option (QuestionRead × Cursor)} → r ≡ read_question s at → QuestionIs s at r
question-is s at e =
    subst (QuestionIs s at) (sym e)
    (cond_both (good_question s at) _ _ (QuestionIs s at) (λ t. (t, refl, refl)) (λ t. t))

-- OPTIONS

abbrev pub OptionIs : List ℕ → ℕ → Option (OptionRead × Cursor) → Type 0
OptionIs s at (Some (o, next)) =
    (good_option s at ≡ true) × (o.code ≡ big_endian s at 2) × (o.«data».at ≡ at + 4) × (o.size ≡ big_endian s (at + 2) 2) × (next.at ≡ option_end s at)
    × (next.at ≤ length s)
OptionIs s at None = good_option s at ≡ false

pub option_is : (s : List ℕ) (at : ℕ) {r : Option (OptionRead × Cursor)} → r ≡ read_option s at → OptionIs s at r
unfolding good_option
option_is s at e =
    subst (OptionIs s at) (sym e)
    (cond_both (good_option s at) _ _ (OptionIs s at) (λ t. (t, refl, refl, refl, refl, leb-true (option_end s at) (length s) t)) (λ t. t))
