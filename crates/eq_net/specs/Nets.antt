-- A net of the netlist as a net of a design, and how many bits it has.
use Rattle.std.specs.Prelude.{ℕ, Option, Some, None, if◌then◌else◌}
use Rattle.eq_model.specs.Nets.{Dir as Side, inner, is_input, is_output, Net, net_width}
use Rattle.eq_net.specs.declared.types.Dir.{Dir}
use Rattle.eq_net.specs.declared.types.Dir.TheVariants.{Inner, Input, Output}
use Rattle.eq_net.specs.declared.types.NetInfo.{NetInfo}

abbrev pub side_of : Dir → Side
side_of Inner = inner
side_of Input = is_input
side_of Output = is_output

-- the range that it is declared with
abbrev pub range_of : NetInfo → Option (ℕ × ℕ)
range_of n = if n.ranged then Some (n.left, n.right) else None

abbrev pub net_of : NetInfo → Net
net_of n = record { name = n.name; range = range_of n; dir = side_of n.dir; automatic = n.auto }

abbrev pub width_of : NetInfo → ℕ
width_of n = net_width (net_of n)
