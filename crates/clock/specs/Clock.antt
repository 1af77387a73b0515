-- The clock of the code, as the model's. Assumes nothing.
use Rattle.model.specs.Clock.{Clock}
use Rattle.clock.specs.declared.Clock as declared

abbrev pub clock_of : declared.Clock → Clock
clock_of c = record { place = c.place; running = c.running }
