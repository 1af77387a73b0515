-- `clock::run_out` meets its contract: the age is the one of the model. Assumes nothing.
use Rattle.clock.proofs.run_out.Goals as goal

pub returns : goal.returns
returns c = rw (← c.age.ensures)
