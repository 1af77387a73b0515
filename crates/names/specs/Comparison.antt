-- What the code's comparison returns, as the model's. Assumes nothing.
use Rattle.model.specs.Names as names
use Rattle.names.specs.declared.Compared.{Compared}

abbrev pub compared_of : Compared → names.Compared
compared_of r = record { same = r.same; pairs = r.pairs }
