-- Laws of the options that a loop passes, one after the other. Assumes nothing.
use Prim.Native.Nat.{ℕ, suc, ◌+◌, ◌-◌, ◌≤◌, ◌<◌}
use mathlib.Core.Path.{◌≡◌, refl, sym, ap, ◌∙◌}
use mathlib.Core.List.{List, [], ◌∷◌, ◌++◌, map, append_assoc, append-nil, map-append}
use mathlib.Core.Bool.{Bool, true, false, and-true, and-false}
use native.Mathlib.Omega.{arith}
use lib.ListN.{length, set, take, length-append}
use lib.Dec.{eqb}
use borrow.Author.Tests.{eq-eqb, ne_eqb, lt-leb}
use Rattle.model.specs.Lists.{every, keep}
use Rattle.model.specs.Numbers.{big_endian}
use Rattle.model.specs.Query.{EdnsOption, good_option, option_at, option_end, options_fill, options_from}
use Rattle.model.proofs.ListLaws.{never, every-nil, every-snoc, length-map}
use Rattle.wire.specs.Records.{padded, option_record}
use Rattle.wire.specs.declared.LlqOption.{LlqOption}
use Rattle.wire.proofs.Pad.{keep-more, keep-full}
use Rattle.query.specs.Parts.{blank_option, is_llq, is_sized, llq_from, first_eight, OptionsOf}

-- the default option is all zero
abbrev option_value : ℕ → ℕ → ℕ → ℕ → ℕ → LlqOption
option_value number lease version opcode error = record { version = version; opcode = opcode; error = error; number = record { 0 = number }; lease = lease }

pub default-blank : (o : LlqOption) → (o.number.0 ≡ 0) × ((o.lease ≡ 0) × ((o.version ≡ 0) × ((o.opcode ≡ 0) × (o.error ≡ 0)))) → o ≡ blank_option
default-blank o e =
    let f : option_value o.number.0 o.lease o.version o.opcode o.error ≡ blank_option = rw (e.0, e.1.0, e.1.1.0, e.1.1.1.0, e.1.1.1.1) in
    f

-- what the loop knows at a place: the options of code 1 that it passed, and that the rest is read from there, with turns enough
pub record Passed (d : List ℕ) (first at count : ℕ) (sized : Bool) (all : List LlqOption) : Type 0 where
  pub turns : ℕ
  pub passed : List EdnsOption
  pub within : at ≤ length d
  pub enough : length d < at + turns
  pub few : count ≤ at
  pub fill : options_fill (suc (length d)) d first ≡ options_fill turns d at
  pub list : llq_from d first ≡ passed ++ keep is_llq (options_from turns d at)
  pub counted : count ≡ length passed
  pub all_sized : sized ≡ every is_sized passed
  pub stored : sized ≡ true → all ≡ first_eight d passed

pub passed_none : (d : List ℕ) (first : ℕ) (all : List LlqOption) → first ≤ length d → all ≡ first_eight d [] → Passed d first first 0 true all
passed_none d first all h e =
    record {
      turns = suc (length d);
      passed = [];
      within = h;
      enough = omega arith;
      few = omega arith;
      fill = refl;
      list = refl;
      counted = refl;
      all_sized = sym (every-nil is_sized);
      stored = λ z. e;
    }

module _ (d : List ℕ) (first at count : ℕ) (sized : Bool) (all : List LlqOption) (p : Passed d first at count sized all) where
  -- a whole option: the rest is read from its end
  module _ (l : at < length d) (g : good_option d at ≡ true) where
    more : p.turns ≡ suc (p.turns - 1)
    more = let a = p.enough in let b = p.within in omega arith

    fill-next : options_fill (suc (length d)) d first ≡ options_fill (p.turns - 1) d (option_end d at)
    unfolding options_fill
    fill-next = p.fill ∙ ap (λ (m : ℕ). options_fill m d at) more ∙ rw (ne_eqb at (length d) (λ e. omega arith), g)

    list-next : llq_from d first ≡ p.passed ++ keep is_llq (option_at d at ∷ options_from (p.turns - 1) d (option_end d at))
    unfolding options_from
    list-next = p.list ∙ ap (λ (m : ℕ). p.passed ++ keep is_llq (options_from m d at)) more ∙ rw g

    abbrev rest : List EdnsOption
    rest = keep is_llq (options_from (p.turns - 1) d (option_end d at))

    list-other : eqb (big_endian d at 2) 1 ≡ false → llq_from d first ≡ p.passed ++ rest
    unfolding keep option_at
    list-other e = list-next ∙ rw e

    list-llq : eqb (big_endian d at 2) 1 ≡ true → llq_from d first ≡ (p.passed ++ (option_at d at ∷ [])) ++ rest
    unfolding keep option_at
    list-llq e = list-next ∙ rw (e, append_assoc)

    module _ (within : option_end d at ≤ length d) where
      -- an option of another code
      pub pass-other : (big_endian d at 2 ≡ 1 → ⊥) → Passed d first (option_end d at) count sized all
      pass-other n =
          let a = p.enough in let b = p.few in
          record {
            turns = p.turns - 1;
            passed = p.passed;
            within = within;
            enough = omega arith;
            few = omega arith;
            fill = fill-next;
            list = list-other (ne_eqb (big_endian d at 2) 1 n);
            counted = p.counted;
            all_sized = p.all_sized;
            stored = p.stored;
          }

      one_more : count + 1 ≡ length (p.passed ++ (option_at d at ∷ []))
      one_more = let a = p.counted in rw length-append (omega arith)

      pass-llq : (sized' : Bool) (all' : List LlqOption) → big_endian d at 2 ≡ 1 → sized' ≡ every is_sized (p.passed ++ (option_at d at ∷ []))
          → (sized' ≡ true → all' ≡ first_eight d (p.passed ++ (option_at d at ∷ []))) → Passed d first (option_end d at) (count + 1) sized' all'
      pass-llq sized' all' e f s =
          let a = p.enough in let b = p.few in
          record {
            turns = p.turns - 1;
            passed = p.passed ++ (option_at d at ∷ []);
            within = within;
            enough = omega arith;
            few = omega arith;
            fill = fill-next;
            list = list-llq (eq-eqb (big_endian d at 2) 1 e);
            counted = one_more;
            all_sized = f;
            stored = s;
          }

      same-sized : big_endian d (at + 2) 2 ≡ 18 → sized ≡ every is_sized (p.passed ++ (option_at d at ∷ []))
      unfolding option_at
      same-sized e = p.all_sized ∙ sym (every-snoc is_sized p.passed (option_at d at) ∙ rw (eq-eqb (big_endian d (at + 2) 2) 18 e, and-true))

      abbrev value : EdnsOption → LlqOption
      value o = option_record d o.start

      eight-next : first_eight d (p.passed ++ (option_at d at ∷ [])) ≡ padded 8 blank_option (take 8 (map value p.passed ++ (value (option_at d at) ∷ [])))
      eight-next = ap (λ (l : List LlqOption). padded 8 blank_option (take 8 l)) (map-append value p.passed (option_at d at ∷ []))

      length-values : length (map value p.passed) ≡ count
      length-values = length-map value p.passed ∙ sym p.counted

      -- one of length 18, among the first eight
      pub pass-stored : big_endian d at 2 ≡ 1 → big_endian d (at + 2) 2 ≡ 18 → count < 8
          → Passed d first (option_end d at) (count + 1) sized (set all count (option_record d (at + 4)))
      unfolding option_at
      pass-stored e f h =
          pass-llq sized (set all count (option_record d (at + 4))) e (same-sized f)
          (λ z.
          rw (p.stored z) (keep-more 8 blank_option (map value p.passed) (value (option_at d at)) count length-values h) ∙ sym eight-next)

      -- one of length 18, beyond the first eight
      pub pass-beyond : big_endian d at 2 ≡ 1 → big_endian d (at + 2) 2 ≡ 18 → 8 ≤ count → Passed d first (option_end d at) (count + 1) sized all
      pass-beyond e f h =
          pass-llq sized all e (same-sized f)
          (λ z.
          p.stored z
          ∙ ap (padded 8 blank_option) (keep-full 8 (map value p.passed) (value (option_at d at)) (rw length-values h)) ∙ sym eight-next)

      -- one of another length
      pub pass-unfit : big_endian d at 2 ≡ 1 → (big_endian d (at + 2) 2 ≡ 18 → ⊥) → Passed d first (option_end d at) (count + 1) false all
      unfolding option_at
      pass-unfit e n =
          pass-llq false all e
          (sym (every-snoc is_sized p.passed (option_at d at) ∙ rw (ne_eqb (big_endian d (at + 2) 2) 18 n, and-false)))
          (λ z. never z refl)

  some : 0 < p.turns
  some = let a = p.enough in let b = p.within in omega arith

  -- no whole option, and bytes left: the options do not fill the datagram
  pub read-bad : at < length d → good_option d at ≡ false → options_fill (suc (length d)) d first ≡ false
  unfolding options_fill
  read-bad l g =
      let s = some in
      let e : p.turns ≡ suc (p.turns - 1) = omega arith in
      p.fill ∙ ap (λ (m : ℕ). options_fill m d at) e ∙ rw (ne_eqb at (length d) (λ e. omega arith), g)

  -- the end: they do
  pub read-end : length d ≤ at → (options_fill (suc (length d)) d first ≡ true) × OptionsOf d first (record { all = all; count = count; sized = sized })
  unfolding options_fill options_from good_option keep
  read-end l =
      let s = some in
      let w = p.within in
      let e : p.turns ≡ suc (p.turns - 1) = omega arith in
      let f : options_fill (suc (length d)) d first ≡ true =
      p.fill ∙ ap (λ (m : ℕ). options_fill m d at) e ∙ rw (eq-eqb at (length d) (omega arith)) in
      let n : llq_from d first ≡ p.passed =
      p.list ∙ ap (λ (m : ℕ). p.passed ++ keep is_llq (options_from m d at)) e
      ∙ rw (lt-leb (at + 4 + big_endian d (at + 2) 2) (length d) (omega arith)) (append-nil p.passed) in
      (f, record { count = rw n p.counted; sized = rw n p.all_sized; all = λ y. rw n (p.stored y) })
