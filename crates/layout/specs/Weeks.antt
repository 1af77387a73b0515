-- The weeks of the code, as the model's. Assumes nothing.
use Rattle.model.specs.Clock as clock
use Rattle.layout.specs.declared.Weeks.{Weeks}
use Rattle.layout.specs.declared.Weeks.TheVariants.{Ten, Thirteen}

abbrev pub weeks_of : Weeks → clock.Weeks
weeks_of Ten = clock.ten_bit
weeks_of Thirteen = clock.thirteen_bit
