-- `layout::of` meets its contract: the lines start where the width says, the slots behind them. Assumes nothing.
use Prim.Native.Nat.{ℕ, ◌+◌, ◌-◌, ◌/◌, ◌≤◌, ◌<◌}
use native.Mathlib.Omega.{arith}
use mathlib.Core.Path.{◌≡◌, ap, ◌∙◌}
use lib.Dec.{lit≤}
use Rattle.model.specs.Clock.{Weeks, ten_bit, thirteen_bit}
use Rattle.model.specs.Table.{place_width, lines_at, base, layout_of}
use Rattle.layout.proofs.of.Goals as goal

place-most : (w : Weeks) → place_width w ≤ 8
place-most ten_bit = lit≤ tt
place-most thirteen_bit = lit≤ tt

-- the layout of the width that was found is that of the length
same_layout : (size : ℕ) {w : Weeks} → w ≡ (layout_of size).weeks → record { weeks = w } ≡ layout_of size
same_layout size e = ap (λ (v : Weeks). record { weeks = v }) e

lines_are : (size r : ℕ) {w : Weeks} → w ≡ (layout_of size).weeks → r ≡ lines_at (record { weeks = w }) → r ≡ lines_at (layout_of size)
lines_are size r e h = h ∙ ap lines_at (same_layout size e)

-- slots start before byte 320
slots-most : (size r : ℕ) {w : Weeks} → w ≡ (layout_of size).weeks → r ≡ lines_at (record { weeks = w }) → r + 304 < 320
slots-most size r e h =
    let x = lines_are size r e h in
    let m = place-most (layout_of size).weeks in
    omega arith

pub overflow_add-slots_at : goal.overflow_add-slots_at
overflow_add-slots_at c = let m = slots-most c.args.size _ c.weeks_of-weeks.ensures c.lines_at-lines_at.ensures in record { fits = omega arith }

pub slots_behind-n-requires : goal.slots_behind-n-requires
slots_behind-n-requires c = slots-most c.args.size _ c.weeks_of-weeks.ensures c.lines_at-lines_at.ensures

pub overflow_cast-result : goal.overflow_cast-result
overflow_cast-result c =
    let m = slots-most c.args.size _ c.weeks_of-weeks.ensures c.lines_at-lines_at.ensures in
    record { fits = omega arith }

pub overflow_cast-result-2 : goal.overflow_cast-result-2
overflow_cast-result-2 c =
    let m = slots-most c.args.size _ c.weeks_of-weeks.ensures c.lines_at-lines_at.ensures in
    record { fits = omega arith }

pub returns : goal.returns
returns c =
    let size = c.args.size in
    let w = c.weeks_of-weeks.ensures in
    let e = lines_are size _ w c.lines_at-lines_at.ensures in
    let slots : c.lines_at-lines_at.result + 304 ≡ base (layout_of size) = omega arith in
    (same_layout size w, e, slots, c.slots_behind-n.ensures ∙ ap (λ (k : ℕ). (size - k) / 320) slots)
