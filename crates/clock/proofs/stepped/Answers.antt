-- `clock::stepped` meets its contract: the step picks the arm, back past 60 seconds, back, or a natural number.
-- Assumes nothing.
use Rattle.std.proofs.Common.{◌≡◌, ℕ, ◌+◌, ◌/◌, ◌%◌, ◌^◌, ◌≤◌, true, false, T, ℤ, pos, negsuc, nat_abs, ◌<ℤ◌, sym, ap, true≢false, arith, w32, w64, Fits, SFits, ltb-false, ltb-true, le-leb}
use lib.Signed.{lt_z, non_neg}
use mir.ValLaws.{to_z-of_z}
use borrow.Author.Tests.{lt-leb}
use Rattle.model.specs.Clock.{Clock, slack, moved, advance, cycle_of}
use Rattle.model.proofs.Integers.{diff-pos, lt-diff}
use Rattle.model.proofs.ClockLaws.{cycle-of, in-range}
use Rattle.layout.specs.Weeks.{weeks_of}
use Rattle.clock.proofs.stepped.Goals as goal

-- a step back of more than 60 seconds, as the machine's test tells it, keeps the new place
set_back_lem : (z : ℤ) → lt_z z (negsuc 59) ≡ true → (k : Clock) (p : ℕ) → record { place = p; running = k.running } ≡ moved k p z
set_back_lem (pos n) e k p = absurd (true≢false (sym e))
set_back_lem (negsuc n) e k p = rw (lt-leb (n + 1) slack (omega (arith, ltb-true 59 n e)))

-- any other step back leaves the clock
kept : (z : ℤ) → lt_z z (negsuc 59) ≡ false → lt_z z (pos 0) ≡ true → (k : Clock) (p : ℕ) → k ≡ moved k p z
kept (pos n) h e k p = absurd (omega (arith, ltb-true n 0 e))
kept (negsuc n) h e k p = rw (le-leb (n + 1) slack (omega (arith, ltb-false 59 n h)))

-- and a step that is not back is a natural number below half a cycle, which a u32 holds
ahead : (z : ℤ) (h : ℕ) → lt_z z (pos 0) ≡ false → z <ℤ pos h → h ≤ 2 ^ 32 → T (non_neg z) × Fits w32 (nat_abs z)
ahead (pos n) h e u l = (tt, omega (arith, lt-diff u (diff-pos n) (diff-pos h)))
ahead (negsuc n) h e u l = absurd (true≢false e)

added : (z : ℤ) → lt_z z (pos 0) ≡ false → (k : Clock) (p x : ℕ) → x ≡ (k.running + nat_abs z) % 2 ^ 32 → record { place = p; running = x } ≡ moved k p z
added (pos n) e k p x h = ap (λ (v : ℕ). record { place = p; running = v }) h
added (negsuc n) e k p x h = absurd (true≢false e)

pub returns-then-s : goal.returns-then-s
unfolding advance
returns-then-s c =
    let z = c.step_of-s.result in
    let fit : SFits w64 z = record { sfits = c.step_of-s.type_inv } in
    rw (← c.step_of-s.ensures) (set_back_lem z (rw (to_z-of_z w64 z fit) at c.if-s.true) _ _)

pub returns-then-s-lt0 : goal.returns-then-s-lt0
unfolding advance
returns-then-s-lt0 c =
    let z = c.step_of-s.result in
    let fit : SFits w64 z = record { sfits = c.step_of-s.type_inv } in
    rw (← c.step_of-s.ensures)
    (kept z (rw (to_z-of_z w64 z fit) at c.if-s.false) (rw (to_z-of_z w64 z fit) at c.if-s-lt0.true) _ _)

pub overflow_cast-result : goal.overflow_cast-result
overflow_cast-result c =
    let z = c.step_of-s.result in
    let fit : SFits w64 z = record { sfits = c.step_of-s.type_inv } in
    let w = weeks_of c.args.weeks in
    let up : z <ℤ pos (cycle_of w / 2) = rw c.step_of-s.ensures (in-range (cycle_of w) (cycle-of w).even c.args.c.place c.args.to c.requires.0 c.requires.1).1 in
    rw (to_z-of_z w64 z fit) (ahead z (cycle_of w / 2) (rw (to_z-of_z w64 z fit) at c.if-s-lt0.false) up (let r = (cycle-of w).room in omega arith))

pub returns : goal.returns
unfolding advance
returns c =
    let z = c.step_of-s.result in
    let fit : SFits w64 z = record { sfits = c.step_of-s.type_inv } in
    rw (← c.step_of-s.ensures)
    (added z (rw (to_z-of_z w64 z fit) at c.if-s-lt0.false) _ _ _ (ap (λ (v : ℤ). (c.args.c.running + nat_abs v) % 2 ^ 32) (to_z-of_z w64 z fit)))
