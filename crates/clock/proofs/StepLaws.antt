-- The step as a signed number of a width: the distance ahead below half a cycle, and a cycle less from there. One law for both cycles. Assumes nothing.
use Rattle.std.proofs.Common.{◌≡◌, ℕ, ◌+◌, ◌-◌, ◌/◌, ◌^◌, ◌<◌, ◌≤◌, ℤ, pos, ◌-ℤ◌, sym, ap, ◌∙◌, arith, SFits, to_z, of_z, le-ltb, lt-ltb, le-leb}
use mir.Syntax.{Width}
use mir.Val.{hbits}
use mir.ValLaws.{to_z-of_z, to_z_pos}
use borrow.Author.Tests.{lt-leb}
use Rattle.model.specs.Clock.{step}
use Rattle.model.proofs.Integers.{diff-mag, diff-minus}
use Rattle.model.proofs.ClockLaws.{ahead, ahead-most, step-natural}

-- the two ways to the distance ahead
pub ahead-on : (c from to : ℕ) → from ≤ to → to - from ≡ ahead c from to
ahead-on c from to h = rw (le-leb from to h)

pub ahead-around : (c from to : ℕ) → to < from → to + (c - from) ≡ ahead c from to
ahead-around c from to h = rw (lt-leb from to h)

module _ (w : Width) (c h : ℕ) (double : c ≡ h + h) (room : c < 2 ^ hbits w) (from to : ℕ) (hf : from < c) (ht : to < c) {a : ℕ} (is : a ≡ ahead c from to) where
  half : c / 2 ≡ h
  half = omega arith

  even : c / 2 + c / 2 ≡ c
  even = omega (arith, half)

  below : a < c
  below = rw is (ahead-most c even from to hf ht)

  -- read as signed, it is itself
  plain : to_z w a ≡ pos a
  plain = let l = below in to_z_pos w a (omega arith)

  cycle : to_z w c ≡ pos c
  cycle = to_z_pos w c (omega arith)

  difference : to_z w a -ℤ to_z w c ≡ pos a -ℤ pos c
  difference = ap (λ (z : ℤ). z -ℤ to_z w c) plain ∙ ap (λ (z : ℤ). pos a -ℤ z) cycle

  back_fits : SFits w (pos a -ℤ pos c)
  back_fits = let l = below in record { sfits = diff-mag (diff-minus a c) (omega arith) (omega arith) }

  pub step-on : a < h → to_z w a ≡ step c from to
  step-on l = let e = half in plain ∙ sym (step-natural c even from to hf ht ∙ (rw (← is, lt-ltb a (c / 2) (omega arith))))

  pub step_back : h ≤ a → to_z w (of_z w (to_z w a -ℤ to_z w c)) ≡ step c from to
  step_back l =
      let e = half in
      ap (λ (z : ℤ). to_z w (of_z w z)) difference ∙ to_z-of_z w _ back_fits
      ∙ sym (step-natural c even from to hf ht ∙ (rw (← is, le-ltb a (c / 2) (omega arith))))
