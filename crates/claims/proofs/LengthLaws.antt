-- What a length says by the claims' own numbers is what the layout says that the model gives it. Assumes nothing.
use Prim.Native.Nat.{ℕ, ◌+◌, ◌%◌}
use native.Mathlib.Omega.{arith}
use mathlib.Core.Path.{◌≡◌, refl, sym}
use mathlib.Core.Bool.{Bool, true, false, cond}
use mathlib.Core.Logic.{◌≢◌}
use lib.Dec.{eqb}
use borrow.Author.Tests.{eqb-true, eqb-false, eq-eqb, ne_eqb}
use Rattle.model.specs.Clock.{Weeks, ten_bit, thirteen_bit, weeks_in, cycle_of}
use Rattle.model.specs.Table.{layout_of, slots_in}
use Rattle.claims.specs.Lengths.{is_wide, cycle_for, last_week, slots_for}

-- three bytes less than a multiple of 320, and 317 bytes more than one
wide_is : (size : ℕ) → eqb (size % 320) 317 ≡ is_wide size
wide_is size = go (eqb (size % 320) 317) refl
  where
    go : (v : Bool) → eqb (size % 320) 317 ≡ v → v ≡ is_wide size
    go true e = let r = eqb-true (size % 320) 317 e in sym (eq-eqb ((size + 3) % 320) 0 (omega arith))
    go false e = let r : size % 320 ≢ 317 = eqb-false (size % 320) 317 e in sym (ne_eqb ((size + 3) % 320) 0 (λ h. r (omega arith)))

-- the weeks of a wide length, and of another
abbrev weeks_by : Bool → Weeks
weeks_by v = cond v thirteen_bit ten_bit

weeks-are : (size : ℕ) → (layout_of size).weeks ≡ weeks_by (is_wide size)
unfolding layout_of
weeks-are size = rw (wide_is size)

pub cycle-for : (size : ℕ) → cycle_of (layout_of size).weeks ≡ cycle_for size
cycle-for size = rw (weeks-are size) (go (is_wide size))
  where
    go : (v : Bool) → cycle_of (weeks_by v) ≡ cond v 4954521600 619315200
    go true = refl
    go false = refl

pub weeks-for : (size : ℕ) → weeks_in (layout_of size).weeks ≡ last_week size + 1
weeks-for size = rw (weeks-are size) (go (is_wide size))
  where
    go : (v : Bool) → weeks_in (weeks_by v) ≡ cond v 8191 1023 + 1
    go true = refl
    go false = refl

pub slots-for : (size : ℕ) → slots_in size ≡ slots_for size
unfolding layout_of
slots-for size = go (eqb (size % 320) 317) refl
  where
    go : (v : Bool) → eqb (size % 320) 317 ≡ v → slots_in size ≡ slots_for size
    go true e = let r = eqb-true (size % 320) 317 e in rw e (omega arith)
    go false e = rw e (omega arith)
