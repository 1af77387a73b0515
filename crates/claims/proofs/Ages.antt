-- An age does not pass the running count's range in one step, of the model's step. Assumes nothing.
use Prim.Native.Nat.{ℕ, ◌+◌, ◌/◌, ◌^◌, ◌≤◌}
use native.Mathlib.Omega.{arith}
use mathlib.Core.Path.{◌≡◌, subst}
use lib.IntN.{ℤ, pos}
use lib.Signed.{◌<ℤ◌}
use Rattle.model.specs.Clock.{ten_bit, thirteen_bit}
use Rattle.model.proofs.Integers.{diff-pos, lt-diff}
use Rattle.model.proofs.ClockLaws.{cycle-of, in-range, ages}
use Rattle.claims.specs.Ages.{AgesIn, Ages}

-- a step forward is under half a cycle, so the age and the step are together under 2^32
ages-any : (c : ℕ) → c / 2 + c / 2 ≡ c → c / 2 + 7200 ≤ 2 ^ 32 → AgesIn c
ages-any c even room running stamp from to d hr hs young hf ht e =
    let l = lt-diff (subst (λ (z : ℤ). z <ℤ pos (c / 2)) e (in-range c even from to hf ht).1) (diff-pos d) (diff-pos (c / 2)) in
    ages running stamp d hr hs (omega arith)

pub ages-add : Ages
ages-add =
    record {
      any = ages-any;
      ten = ages-any 619315200 (cycle-of ten_bit).even (cycle-of ten_bit).room;
      thirteen = ages-any 4954521600 (cycle-of thirteen_bit).even (cycle-of thirteen_bit).room;
    }
