-- Which netlist a design of the first form has.
use Rattle.std.specs.Prelude.{◌≡◌}
use Rattle.eq_first.specs.declared.module.Module.{Module}
use Rattle.eq_net.specs.declared.net.Net.{Net}
use Rattle.eq_net.specs.Whole.{parts_of}
use Rattle.eqy.specs.Netlist.{first_parts}

abbrev pub IsNetlist : Module → Net → Type 0
IsNetlist m net = parts_of net ≡ first_parts m
