-- The reply, written in parts: what stands before the options, then the options one after the other. Assumes nothing.
use Prim.Native.Nat.{ℕ, ◌+◌, ◌-◌, ◌*◌, ◌≤◌}
use native.Mathlib.Nat.{zero-add}
use native.Mathlib.Omega.{arith}
use mathlib.Core.Path.{◌≡◌, sym, ap, ◌∙◌}
use mathlib.Core.Bool.{Bool, true, false, cond}
use mathlib.Core.List.{List, ◌++◌, append_assoc}
use lib.ListN.{length, drop, length-append}
use Rattle.model.specs.Lists.{flat, up_to}
use Rattle.model.specs.Numbers.{splice}
use Rattle.model.specs.Query.{message_number, flag_rd, qdcount, questions_end}
use Rattle.model.specs.Serve.{Outcome}
use Rattle.model.specs.Reply.{header_bytes, question_bytes, opt_bytes, option_bytes, reply_bytes, reply_options, reply_length}
use Rattle.model.proofs.NumberLaws.{splice-on}
use Rattle.model.proofs.TableLaws.{rows_none, rows_next}
use Rattle.model.proofs.ReplyLaws.{length-header, length-questions, length-opt, length-option}
use Rattle.wire.specs.Write.{header_sent}
use Rattle.llq.specs.Answer.{Measures, Matches, before_options}

-- THE LENGTH

-- the length that the code works out is the model's
module _ (d : List ℕ) (n end : ℕ) (v : Bool) (h : Measures d n end) (t : Matches d v) where
  pub length-matched : v ≡ true → end + 11 + 22 * n ≡ reply_length d
  unfolding reply_options
  length-matched m =
      let e : reply_options d ≡ qdcount d = ap (λ (v : Bool). cond v (qdcount d) 1) (sym t ∙ m) in
      omega (arith, e, h.end, h.from, h.count)

  pub length-mismatched : v ≡ false → end + 33 ≡ reply_length d
  unfolding reply_options
  length-mismatched m =
      let e : reply_options d ≡ 1 = ap (λ (v : Bool). cond v (qdcount d) 1) (sym t ∙ m) in
      omega (arith, e, h.end, h.from)

-- BEFORE THE OPTIONS

-- the header that the code writes is the model's
pub header_is : (d : List ℕ) (number desired count : ℕ) → number ≡ message_number d → desired ≡ flag_rd d → count ≡ qdcount d
    → header_sent number desired count ≡ header_bytes d
unfolding header_sent header_bytes
header_is d number desired count e f g = rw (e, f, g)

module _ (d : List ℕ) (k : ℕ) (from : 12 ≤ questions_end d) (within : questions_end d ≤ length d) where
  length-start : length (header_bytes d ++ question_bytes d) ≡ questions_end d
  length-start = simp (length-append, length-header d, length-questions d from within) (omega arith)

  before-start : before_options d k ≡ (header_bytes d ++ question_bytes d) ++ opt_bytes k
  unfolding before_options
  before-start = sym (append_assoc (header_bytes d) (question_bytes d) (opt_bytes k))

  pub length_before : length (before_options d k) ≡ questions_end d + 11
  length_before = ap length before-start ∙ simp (length-append (header_bytes d ++ question_bytes d) (opt_bytes k), length-start, length-opt k) (omega arith)

  -- header, questions and OPT record written one after the other
  pub before-written : (s : List ℕ) → questions_end d + 11 ≤ length s
      → splice (questions_end d) 11 (opt_bytes k) (splice 12 (questions_end d - 12) (question_bytes d) (splice 0 12 (header_bytes d) s))
      ≡ splice 0 (questions_end d + 11) (before_options d k) s
  before-written s h =
      let e : 12 + (questions_end d - 12) ≡ questions_end d = omega arith in
      let first = splice-on 12 (questions_end d - 12) (header_bytes d) (question_bytes d) s (length-header d) (omega arith) in
      let second = splice-on (questions_end d) 11 (header_bytes d ++ question_bytes d) (opt_bytes k) s length-start h in
      ap (splice (questions_end d) 11 (opt_bytes k)) (first ∙ ap (λ (m : ℕ). splice 0 m (header_bytes d ++ question_bytes d) s) e)
      ∙ (second ∙ ap (λ (x : List ℕ). splice 0 (questions_end d + 11) x s) (sym before-start))

-- THE OPTIONS

pub options-none : (f : ℕ → Outcome) (at : ℕ) (s : List ℕ) → splice at (22 * 0) (flat option_bytes (up_to 0 f)) s ≡ s
options-none f at s = rows_none option_bytes 22 f at s

-- one option more
pub options-next : (f : ℕ → Outcome) (at i : ℕ) (s : List ℕ) → at + 22 * (i + 1) ≤ length s
    → splice (at + 22 * i) 22 (option_bytes (f i)) (splice at (22 * i) (flat option_bytes (up_to i f)) s)
    ≡ splice at (22 * (i + 1)) (flat option_bytes (up_to (i + 1) f)) s
options-next f at i s h = rows_next option_bytes 22 f at s i (λ j. length-option (f j)) h

-- THE WHOLE

-- what stands before the options and then the options are the reply, and the bytes after it are as they were
pub reply-written : (d : List ℕ) (os : List Outcome) (k : ℕ) (s : List ℕ) → 12 ≤ questions_end d → questions_end d ≤ length d → length os ≡ k
    → questions_end d + 11 + 22 * k ≤ length s
    → splice (questions_end d + 11) (22 * k) (flat option_bytes os) (splice 0 (questions_end d + 11) (before_options d k) s)
    ≡ reply_bytes d os ++ drop (questions_end d + 11 + 22 * k) s
unfolding splice reply_bytes before_options
reply-written d os k s from within e h =
    let joined = splice-on (questions_end d + 11) (22 * k) (before_options d k) (flat option_bytes os) s (length_before d k from within) h in
    let r : reply_bytes d os ≡ before_options d k ++ flat option_bytes os =
    rw (
      e,
      append_assoc (header_bytes d) (question_bytes d ++ opt_bytes k) (flat option_bytes os),
      append_assoc (question_bytes d) (opt_bytes k) (flat option_bytes os),
    ) in
    joined ∙ rw (r, zero-add)
