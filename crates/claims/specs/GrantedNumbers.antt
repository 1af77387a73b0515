-- The number rule: the number that a setup grants is the first of r, r + 1, .. modulo 2^64 that is neither 0 nor in the table. Assumes nothing.
use Rattle.std.specs.Prelude.{ℕ, ◌+◌, ◌≡◌, length}
use Rattle.model.specs.Lists.{count}
use Rattle.model.specs.Table.{Table}
use Rattle.model.specs.Rules.{Counts, holdings, fresh_number, FirstFree}
use Rattle.model.specs.Sound.{Sound}

pub record GrantedNumbers : Type 0 where
  pub first : (t : Table) (r : ℕ) → Sound t → FirstFree (count (holdings t)) r (fresh_number (length t.slots + 2) (count (holdings t)) r)
  -- the rule in plain words leaves no choice
  pub only : (c : Counts) (r x y : ℕ) → FirstFree c r x → FirstFree c r y → x ≡ y
