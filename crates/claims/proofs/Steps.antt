-- The step's exact meaning, of the model's step. Assumes nothing.
use Prim.Native.Nat.{ℕ, ◌+◌, ◌/◌}
use mathlib.Core.Path.{◌≡◌}
use Rattle.model.specs.Clock.{ten_bit, thirteen_bit}
use Rattle.model.proofs.ClockLaws.{cycle-of, in-range, whole-cycles, only_one}
use Rattle.claims.specs.Steps.{StepsIn, Steps}

steps-any : (c : ℕ) → c / 2 + c / 2 ≡ c → StepsIn c
steps-any c even from to hf ht =
    let r = in-range c even from to hf ht in
    let w = whole-cycles c even from to hf ht in
    record {
      range = record { low = r.0; high = r.1 };
      brought = record { cycles = w.0; is = w.1 };
      only = λ y l b. only_one c even from to hf ht y b.cycles b.is l.low l.high;
    }

pub steps : Steps
steps =
    record {
      any = steps-any;
      ten = (steps-any 619315200 (cycle-of ten_bit).even, in-range 619315200 (cycle-of ten_bit).even);
      thirteen = (steps-any 4954521600 (cycle-of thirteen_bit).even, in-range 4954521600 (cycle-of thirteen_bit).even);
    }
