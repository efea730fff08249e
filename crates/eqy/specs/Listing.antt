-- All lists of input values, by number.
use Rattle.std.specs.Prelude.{ℕ, zero, suc, ◌/◌, ◌%◌, List, [], ◌∷◌, Bool, ◌==◌, map}
use Rattle.eq_model.specs.Frames.{values}
use Rattle.eq_first.specs.declared.module.Port.{Port}
use Rattle.eq_net.specs.Held.{held_bits}
use Rattle.eqy.specs.Netlist.{driver_of}

-- the n lowest binary digits of a number, the lowest first
abbrev pub digits : ℕ → ℕ → List Bool
digits zero k = []
digits (suc n) k = (k % 2 == 1) ∷ digits n (k / 2)

-- the values of the ports where the inputs have these values, in the order of the header
abbrev pub given : List Port → List Bool → ℕ → Bool
given ports inputs = values (held_bits (map driver_of ports) [] inputs)
