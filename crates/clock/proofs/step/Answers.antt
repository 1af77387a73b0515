-- `clock::step` meets its contract: a step of ten-bit weeks is in an i32's range. Assumes nothing.
use Rattle.std.proofs.Common.{◌≡◌, ℕ, ◌/◌, refl, ap, ◌∙◌, arith, w32, w64, SFits, ℤ, to_z, of_z}
use mir.ValLaws.{to_z-of_z}
use Rattle.model.specs.Clock.{ten_bit, cycle_of, step}
use Rattle.model.proofs.Integers.{diff-of, diff-pos, diff-neg, diff-mag, lt-diff, le-diff}
use Rattle.model.proofs.ClockLaws.{in-range}
use Rattle.clock.proofs.step.Goals as goal

abbrev c₀ : ℕ
c₀ = cycle_of ten_bit

module _ (c : goal.After-step_in) where
  fit : SFits w64 c.step_in.result
  fit = record { sfits = c.step_in.type_inv }

  is : c.step_in.result ≡ step c₀ c.args.from c.args.to
  is = rw (c.step_in.ensures, c.from.ensures, c.from-2.ensures)

  small : SFits w32 c.step_in.result
  small =
      let z = c.step_in.result in
      let r = in-range c₀ refl c.args.from c.args.to c.requires.0 c.requires.1 in
      let low = le-diff (rw (← is) at r.0) (diff-neg (diff-pos (c₀ / 2))) (diff-of z) in
      let high = lt-diff (rw (← is) at r.1) (diff-of z) (diff-pos (c₀ / 2)) in
      record { sfits = diff-mag (diff-of z) (omega arith) (omega arith) }

pub overflow_cast-result : goal.overflow_cast-result
overflow_cast-result c = rw (to_z-of_z w64 c.step_in.result (fit c)) (small c)

pub returns : goal.returns
returns c = ap (λ (z : ℤ). to_z w32 (of_z w32 z)) (to_z-of_z w64 c.step_in.result (fit c)) ∙ to_z-of_z w32 c.step_in.result (small c) ∙ is c
