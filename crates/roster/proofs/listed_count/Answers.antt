-- `roster::listed_count` meets its contract. Assumes nothing.
use Prim.Native.Nat.{ℕ, ◌*◌, ◌<◌, ◌≤◌}
use mathlib.Core.Path.{◌≡◌, sym}
use mathlib.Core.List.{List}
use mathlib.Core.Logic.{◌≢◌}
use native.Mathlib.Omega.{arith}
use borrow.Author.Rules.{rules}
use borrow.Author.Tests.{tests}
use lib.ListN.{get_or}
use Rattle.std.specs.Prelude.{Option, None, Some, MatchOption}
use Rattle.std.specs.Option.{unwrap_or}
use Rattle.std.proofs.lemmas.Iterator.{first_from_Range}
use Rattle.model.specs.Table.{listed}
use Rattle.model.proofs.RoundTrip.{listed-full, listed-stop}
use Rattle.roster.proofs.listed_count.Goals as goal

-- a line of another kind, before which all are listed, is the first that is not
module _ (b : List ℕ) where
  stops : (r : Option ℕ)
      → MatchOption r ((k : ℕ) → 0 ≤ k → k < 16 → get_or b (19 * k) 0 ≡ 3) (λ i. (0 ≤ i) × (i < 16) × (get_or b (19 * i) 0 ≢ 3) × ((k : ℕ) → 0 ≤ k → k < i → get_or b (19 * k) 0 ≡ 3))
      → (unwrap_or r 16 ≡ listed b 16) × (unwrap_or r 16 ≤ 16)
  stops None h = (sym (listed-full b 16 (λ k l. h k (omega arith) l)), omega arith)
  stops (Some i) h = (sym (listed-stop b i 16 (listed-full b i (λ k l. h.3 k (omega arith) l)) h.2 h.1), omega arith)

pub returns : goal.returns
returns c =
    let b = c.args.bytes.now in
    rw c.unwrap_or.ensures (stops b c.find.result (first_from_Range _ _ _ c.find.result (λ i. get_or b (19 * i) 0 ≢ 3) (λ i. get_or b (19 * i) 0 ≡ 3) c.find.ensures.ran (λ x q k. search (rules, tests)) (λ x q k. search (rules, tests))))
