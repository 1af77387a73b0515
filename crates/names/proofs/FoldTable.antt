-- The table folds right, by one computed test; and A to Z are what the fold does not leave alone. Assumes nothing.
use Prim.Native.Nat.{ℕ, ◌+◌, ◌<◌}
use native.Mathlib.Omega.{arith}
use mathlib.Core.Path.{◌≡◌, refl}
use mathlib.Core.Bool.{Bool, true, false, not, cond}
use lib.ListN.{length, get_or}
use lib.Dec.{eqb}
use borrow.Author.Tests.{eqb-true, eq-eqb, ne_eqb}
use Rattle.model.specs.Names.{upper, fold}
use Rattle.names.specs.FoldTable.{fold_table, FoldsRight}
use Rattle.names.proofs.ConstantTables.{passes, passes_at}

-- the one computed test: each element is its index folded
entries-fold : passes (λ b x. eqb x (fold b)) 0 fold_table ≡ true
unfolding passes fold_table fold
entries-fold = refl

table-size : length fold_table ≡ 256
unfolding fold_table
table-size = refl

-- the rule at any byte
pub fold_at : (b : ℕ) → b < 256 → get_or fold_table b 0 ≡ fold b
fold_at b h = eqb-true _ _ (passes_at (λ b x. eqb x (fold b)) 0 fold_table entries-fold b (rw table-size h))

pub folds-right : FoldsRight fold_table
folds-right = (table-size, fold_at)

-- A to Z are what the fold does not leave alone
pub upper-folds : (b : ℕ) → upper b ≡ not (eqb (fold b) b)
unfolding fold
upper-folds b = go (upper b)
  where
    go : (u : Bool) → u ≡ not (eqb (cond u (b + 32) b) b)
    go true = rw (ne_eqb (b + 32) b (λ e. omega arith))
    go false = rw (eq-eqb b b refl)
