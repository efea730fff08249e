-- Mirrors src/bitwise.rt; nothing here has to be believed.
use Rattle.std.specs.Prelude.{Bool, not, ◌&&◌, ◌||◌}
use Rattle.eq_net.specs.declared.bitwise.Gate.{Gate}
use Rattle.eq_net.specs.declared.bitwise.Gate.TheVariants.{And, Or, Xor, Xnor}
use Rattle.eq_net.specs.Numbers.{differ}

-- what a gate makes of two bits
abbrev pub gated : Gate → Bool → Bool → Bool
gated And x y = x && y
gated Or x y = x || y
gated Xor x y = differ x y
gated Xnor x y = not (differ x y)
