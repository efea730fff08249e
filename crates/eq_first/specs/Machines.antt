-- What a state of the code tells.
use Rattle.std.specs.Prelude.{reverse}
use Rattle.eq_first.specs.declared.expression.State.{State as Code}
use Rattle.eq_first.specs.declared.expression.State.TheVariants.{Wanted, Found}
use Rattle.eq_first.specs.Machine.{State, wanted, found}

abbrev pub state_of : Code → State
state_of (Wanted ps) = wanted (reverse ps)
state_of (Found x ps) = found x (reverse ps)
