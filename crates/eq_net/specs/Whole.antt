-- The netlist as one value.
use Rattle.eq_net.specs.declared.net.Net.{Net}
use Rattle.eq_net.specs.Net.{Parts, parts}

abbrev pub parts_of : Net → Parts
parts_of net = parts net.nets net.words net.drivers net.ports net.clock net.cost
