-- How many inputs a design has.
use Rattle.std.specs.Prelude.{ℕ, ◌+◌, List, [], ◌∷◌}
use Rattle.eq_first.specs.declared.module.Direction.{Direction}
use Rattle.eq_first.specs.declared.module.Direction.TheVariants.{Input, Output}
use Rattle.eq_first.specs.declared.module.Port.{Port}

abbrev pub counted : Direction → ℕ
counted Input = 1
counted Output = 0

abbrev pub inputs_of : List Port → ℕ
inputs_of [] = 0
inputs_of (p ∷ ps) = counted p.direction + inputs_of ps
