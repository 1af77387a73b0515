-- `roster::Lines::find` meets its contract. Assumes nothing.
use Prim.Native.Nat.{ℕ, ◌*◌, ◌<◌, ◌≤◌}
use mathlib.Core.Path.{◌≡◌, ap, ◌∙◌}
use mathlib.Core.Bool.{Bool, true, false, not}
use native.Mathlib.Omega.{arith}
use borrow.Author.Rules.{rules}
use borrow.Author.Tests.{tests}
use lib.Dec.{eqb}
use Rattle.std.specs.Prelude.{Option, None, Some, MatchOption}
use Rattle.std.proofs.lemmas.Iterator.{first_from_Range}
use Rattle.model.specs.Table.{read_line}
use Rattle.model.proofs.ListLaws.{every-up_to}
use Rattle.layout.specs.Shape.{all}
use Rattle.layout.proofs.ShapeLaws.{all_yes}
use Rattle.record.specs.Address.{address_of}
use Rattle.roster.specs.declared.Lines.{Lines}
use Rattle.roster.specs.Lines.{NoneBelow, FindsLine}
use Rattle.roster.proofs.Lines.find.Goals as goal

module _ (l : Lines) (a : ℕ) where
  abbrev has : ℕ → Bool
  has i = eqb (read_line l.bytes.now (19 * i)).address a

  none_below : (n : ℕ) → ((k : ℕ) → 0 ≤ k → k < n → has k ≡ false) → NoneBelow l a n
  unfolding all
  none_below n h = every-up_to n _ _ ∙ all_yes (λ i. not (has i)) n (λ i s. ap not (h i (omega arith) s))

  first : (r : Option ℕ) → MatchOption r ((k : ℕ) → 0 ≤ k → k < l.count → has k ≡ false) (λ i. (0 ≤ i) × (i < l.count) × (has i ≡ true) × ((k : ℕ) → 0 ≤ k → k < i → has k ≡ false)) → FindsLine l a r
  first None h = none_below l.count h
  first (Some i) h = record { within = h.1; earlier = none_below i h.3; here = h.2 }

pub returns : goal.returns
unfolding read_line
returns c =
    let a = address_of c.args.address in
    let p = has c.args.self a in
    first c.args.self a c.find.result (first_from_Range _ _ _ c.find.result (λ i. p i ≡ true) (λ i. p i ≡ false) c.find.ensures.ran (λ x q k. search (rules, tests)) (λ x q k. search (rules, tests)))
