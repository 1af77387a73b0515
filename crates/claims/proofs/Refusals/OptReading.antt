-- The OPT record and its options, read one after the other: each test against its faults. Assumes nothing.
use Prim.Native.Nat.{ℕ, zero, suc, ◌+◌, ◌≤◌, ◌<◌}
use native.Mathlib.Omega.{arith}
use mathlib.Core.Path.{◌≡◌, refl, sym, ap, ◌∙◌}
use mathlib.Core.Bool.{Bool, true, false, cond, ◌&&◌}
use mathlib.Core.List.{List, ◌∷◌}
use mathlib.Core.Logic.{⊎_elim, ◌≢◌}
use lib.ListN.{length, get_or}
use lib.Dec.{eqb, leb}
use borrow.Author.Tests.{leb-true, leb-false, eqb-true, eqb-false, eq-eqb, ne_eqb}
use Rattle.model.specs.Lists.{keep}
use Rattle.model.specs.Numbers.{big_endian}
use Rattle.model.specs.Query.{EdnsOption, good_option, option_at, option_end, options_fill, options_from, good_opt, opt_data, llq_options, questions_end}
use Rattle.model.proofs.ListLaws.{test, never, and_left, and_right, or_left, or_right, not-both, one_of}
use Rattle.claims.specs.Refusals.{two_bytes, OptionStarts, OptFault, NoLlqOption}
use Rattle.claims.proofs.Refusals.QuestionReading.{big-two}

-- an LLQ option
abbrev llq : EdnsOption → Bool
llq o = eqb o.code 1

-- how many LLQ options there are from a place on
abbrev llqs : ℕ → List ℕ → ℕ → ℕ
llqs k d q = length (keep llq (options_from k d q))

pick-length : (v : Bool) (o : EdnsOption) (l : List EdnsOption) → length (cond v (o ∷ l) l) ≡ cond v (suc (length l)) (length l)
pick-length true o l = refl
pick-length false o l = refl

module _ (d : List ℕ) where
  -- where an option ends, by the bytes
  pub end_of : (q : ℕ) → option_end d q ≡ q + 4 + two_bytes d (q + 2)
  end_of q = ap (λ (x : ℕ). q + 4 + x) (big-two d (q + 2))

  fits : (q : ℕ) → good_option d q ≡ true → q + 4 + two_bytes d (q + 2) ≤ length d
  unfolding good_option
  fits q h = rw (end_of q) at (leb-true (option_end d q) (length d) h)

  fits_not : (q : ℕ) → good_option d q ≡ false → length d < q + 4 + two_bytes d (q + 2)
  unfolding good_option
  fits_not q h = rw (end_of q) at (leb-false (option_end d q) (length d) h)

  -- the count, past an option
  more-llqs : (k q : ℕ) → good_option d q ≡ true
      → llqs (suc k) d q ≡ cond (eqb (two_bytes d q) 1) (suc (llqs k d (option_end d q))) (llqs k d (option_end d q))
  unfolding options_from option_at keep
  more-llqs k q h =
      let o : EdnsOption = record { code = two_bytes d q; start = q + 4; size = big_endian d (q + 2) 2 } in
      rw (h, big-two d q) (pick-length (eqb (two_bytes d q) 1) o (keep llq (options_from k d (option_end d q))))

  no-llqs : (k q : ℕ) → good_option d q ≡ false → llqs (suc k) d q ≡ 0
  unfolding options_from keep
  no-llqs k q h = rw h

  -- the options fill what is left, and it is something: one stands there, and the others fill the rest
  filled : (k q : ℕ) → q < length d → options_fill k d q ≡ true
      → (j : ℕ) × (k ≡ suc j) × (good_option d q ≡ true) × (options_fill j d (option_end d q) ≡ true)
  unfolding options_fill
  filled zero q l h = never h refl
  filled (suc k) q l h =
      one_of (eqb q (length d)) (good_option d q && options_fill k d (option_end d q))
      (λ x. absurd (omega (arith, eqb-true q (length d) x)))
      (λ x. (k, refl, and_left (good_option d q) (options_fill k d (option_end d q)) x, and_right (good_option d q) (options_fill k d (option_end d q)) x))
      h

  -- an option that does not fit what is left
  pub record Misfit (p : ℕ) : Type 0 where
    pub at : ℕ
    pub starts : OptionStarts d p at
    pub inside : at < length d
    pub over : length d < at + 4 + two_bytes d (at + 2)

  module _ (p : ℕ) where
    misfit-from : (k q : ℕ) → q ≤ length d → length d < q + k → OptionStarts d p q → options_fill k d q ≡ false → Misfit p
    unfolding options_fill
    misfit-from zero q le lt s h = absurd (omega arith)
    misfit-from (suc k) q le lt s h =
        let z : q ≢ length d = eqb-false q (length d) (or_left (eqb q (length d)) (good_option d q && options_fill k d (option_end d q)) h) in
        not-both (good_option d q) (options_fill k d (option_end d q))
        (λ x. record { at = q; starts = s; inside = omega arith; over = fits_not q x })
        (λ t x.
        let l = fits q t in
        let e = end_of q in
        misfit-from k (option_end d q) (omega arith) (omega arith) (OptionStarts.next q (option_end d q) s e (omega arith)) x)
        (or_right (eqb q (length d)) (good_option d q && options_fill k d (option_end d q)) h)

    -- from each option on, the options fill what is left, and no more LLQ options are there than from the start
    pub record Reached (k q : ℕ) : Type 0 where
      pub fuel : ℕ
      pub fills : options_fill fuel d q ≡ true
      pub fewer : llqs fuel d q ≤ llqs k d p

    cond-le : (v : Bool) (n : ℕ) → n ≤ cond v (suc n) n
    cond-le true n = omega arith
    cond-le false n = omega arith

    reached : (k : ℕ) → options_fill k d p ≡ true → (q : ℕ) → OptionStarts d p q → Reached k q
    reached k h x OptionStarts.first = record { fuel = k; fills = h; fewer = omega arith }
    reached k h x (OptionStarts.next q r s e l) =
        let m = reached k h q s in
        let o = filled m.fuel q (omega arith) m.fills in
        let z : option_end d q ≡ r = end_of q ∙ sym e in
        let a = more-llqs o.0 q o.2 in
        let b : llqs (suc o.0) d q ≤ llqs k d p = rw o.1 at m.fewer in
        let c = cond-le (eqb (two_bytes d q) 1) (llqs o.0 d (option_end d q)) in
        let g : llqs o.0 d (option_end d q) ≤ llqs k d p = omega (arith, a, b, c) in
        record { fuel = o.0; fills = rw z at o.3; fewer = rw z at g }

    -- an LLQ option that stands there is counted
    counted : (k : ℕ) → options_fill k d p ≡ true → (q : ℕ) → OptionStarts d p q → q < length d → two_bytes d q ≡ 1 → 1 ≤ llqs k d p
    counted k h q s l e =
        let m = reached k h q s in
        let o = filled m.fuel q l m.fills in
        let a : llqs (suc o.0) d q ≡ suc (llqs o.0 d (option_end d q)) =
        more-llqs o.0 q o.2 ∙ ap (λ (v : Bool). cond v (suc (llqs o.0 d (option_end d q))) (llqs o.0 d (option_end d q))) (eq-eqb (two_bytes d q) 1 e) in
        let b : llqs (suc o.0) d q ≤ llqs k d p = rw o.1 at m.fewer in
        omega (arith, a, b)

    -- where no option is one, none is counted
    uncounted : ((q : ℕ) → OptionStarts d p q → q < length d → two_bytes d q ≢ 1) → (k q : ℕ) → OptionStarts d p q → llqs k d q ≡ 0
    unfolding options_from keep
    uncounted none zero q s = refl
    uncounted none (suc k) q s =
        ⊎_elim
        (λ (h : good_option d q ≡ true).
        let l = fits q h in
        let e = end_of q in
        let n : two_bytes d q ≢ 1 = none q s (omega arith) in
        more-llqs k q h
        ∙ ap (λ (v : Bool). cond v (suc (llqs k d (option_end d q))) (llqs k d (option_end d q))) (ne_eqb (two_bytes d q) 1 n)
        ∙ uncounted none k (option_end d q) (OptionStarts.next q (option_end d q) s e (omega arith)))
        (λ (h : good_option d q ≡ false). no-llqs k q h)
        (test (good_option d q))

  -- THE OPT RECORD

  module _ (at : ℕ) where
    pub bad-opt : good_opt d at ≡ false → OptFault d at
    unfolding good_opt
    bad-opt =
        let a = leb (opt_data at) (length d) in
        let b = eqb (get_or d at 0) 0 in
        let c = eqb (big_endian d (at + 1) 2) 41 in
        let e = eqb (get_or d (at + 6) 0) 0 in
        let f = eqb (opt_data at + big_endian d (at + 9) 2) (length d) in
        let g = options_fill (suc (length d)) d (opt_data at) in
        not-both (a && b && c && e && f) g
        (not-both (a && b && c && e) f
        (not-both (a && b && c) e
        (not-both (a && b) c
        (not-both a b
        (λ x. OptFault.too_short (leb-false (opt_data at) (length d) x))
        (λ t x. OptFault.not_root (eqb-false (get_or d at 0) 0 x)))
        (λ t x. OptFault.not_opt (rw (big-two d (at + 1)) at (eqb-false (big_endian d (at + 1) 2) 41 x))))
        (λ t x. OptFault.other_version (eqb-false (get_or d (at + 6) 0) 0 x)))
        (λ t x. OptFault.data_not_to_end (rw (big-two d (at + 9)) at (eqb-false (opt_data at + big_endian d (at + 9) 2) (length d) x))))
        (λ t x.
        let l = leb-true (opt_data at) (length d) (and_left a b (and_left (a && b) c (and_left (a && b && c) e (and_left (a && b && c && e) f t)))) in
        let m = misfit-from (opt_data at) (suc (length d)) (opt_data at) l (omega arith) OptionStarts.first x in
        OptFault.options_not_filling m.at m.starts m.inside m.over)

    -- its tests, one by one
    record GoodOpt : Type 0 where
      room : at + 11 ≤ length d
      root : get_or d at 0 ≡ 0
      opt : two_bytes d (at + 1) ≡ 41
      version : get_or d (at + 6) 0 ≡ 0
      to_end : at + 11 + two_bytes d (at + 9) ≡ length d
      fill : options_fill (suc (length d)) d (at + 11) ≡ true

    tests : good_opt d at ≡ true → GoodOpt
    unfolding good_opt
    tests t =
        let a = leb (opt_data at) (length d) in
        let b = eqb (get_or d at 0) 0 in
        let c = eqb (big_endian d (at + 1) 2) 41 in
        let e = eqb (get_or d (at + 6) 0) 0 in
        let f = eqb (opt_data at + big_endian d (at + 9) 2) (length d) in
        let g = options_fill (suc (length d)) d (opt_data at) in
        let t5 = and_left (a && b && c && e && f) g t in
        let t4 = and_left (a && b && c && e) f t5 in
        let t3 = and_left (a && b && c) e t4 in
        let t2 = and_left (a && b) c t3 in
        record {
          room = leb-true (opt_data at) (length d) (and_left a b t2);
          root = eqb-true (get_or d at 0) 0 (and_right a b t2);
          opt = rw (big-two d (at + 1)) at (eqb-true (big_endian d (at + 1) 2) 41 (and_right (a && b) c t3));
          version = eqb-true (get_or d (at + 6) 0) 0 (and_right (a && b && c) e t4);
          to_end = rw (big-two d (at + 9)) at (eqb-true (opt_data at + big_endian d (at + 9) 2) (length d) (and_right (a && b && c && e) f t5));
          fill = and_right (a && b && c && e && f) g t;
        }

    faultless : GoodOpt → OptFault d at → ⊥
    faultless g (OptFault.too_short l) = omega (arith, g.room)
    faultless g (OptFault.not_root n) = n g.root
    faultless g (OptFault.not_opt n) = n g.opt
    faultless g (OptFault.other_version n) = n g.version
    faultless g (OptFault.data_not_to_end n) = n g.to_end
    faultless g (OptFault.options_not_filling q s inside over) =
        let m = reached (at + 11) (suc (length d)) g.fill q s in
        let o = filled m.fuel q inside m.fills in
        omega (arith, fits q o.2)

    pub good-opt : good_opt d at ≡ true → OptFault d at → ⊥
    good-opt h = faultless (tests h)

    pub opt-fills : good_opt d at ≡ true → options_fill (suc (length d)) d (at + 11) ≡ true
    opt-fills h = (tests h).fill

  -- THE LLQ OPTIONS

  pub no-option : good_opt d (questions_end d) ≡ true → eqb (length (llq_options d)) 0 ≡ true → NoLlqOption d (questions_end d)
  unfolding llq_options
  no-option good h q s inside e =
      let n = eqb-true (length (llq_options d)) 0 h in
      let c = counted (questions_end d + 11) (suc (length d)) (opt-fills (questions_end d) good) q s inside e in
      omega (arith, n, c)

  pub some-option : eqb (length (llq_options d)) 0 ≡ false → NoLlqOption d (questions_end d) → ⊥
  unfolding llq_options
  some-option h none =
      eqb-false (length (llq_options d)) 0 h (uncounted (questions_end d + 11) none (suc (length d)) (questions_end d + 11) OptionStarts.first)
