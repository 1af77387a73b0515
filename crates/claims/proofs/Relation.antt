-- What ties a table to the tally along a list of calls. Assumes nothing.
pub mod TallyRules
pub mod NumberSearch
pub mod HoldingFacts
pub mod OneMatch
pub mod MoveKeeps
pub mod OptionArguments
pub mod ChangeKeeps
pub mod ResponseKeeps
pub mod RefreshKeeps
pub mod SetupKeeps
pub mod OptionKeeps
pub mod DatagramKeeps
pub mod TableTally
use mathlib.Core.Path.{◌≡◌}
use mathlib.Core.Bool.{Bool}
use lib.ListN.{length}
use Rattle.model.specs.Lists.{count}
use Rattle.model.specs.Table.{Table, cycle_in}
use Rattle.model.specs.Rules.{Holding, holdings}
use Rattle.model.specs.Sound.{Sound, Fits}
use Rattle.claims.specs.Tally.{Tally}

-- the same holdings, places aside: for every test, as many pass
pub record Related (t : Table) (y : Tally) : Type 0 where
  pub cycle : cycle_in t ≡ y.cycle
  pub place : t.clock.place ≡ y.place
  pub running : t.clock.running ≡ y.running
  pub n : length t.slots ≡ y.n
  pub roster : t.roster ≡ y.roster
  pub entries : (p : Holding → Bool) → count (holdings t) p ≡ count y.holdings p
  pub sound : Sound t
  pub fits : Fits t
