-- The nets of a module as the code has them.
use Rattle.std.specs.Prelude.{List, Option, map}
use Rattle.eq_model.specs.Nets.{Dir, Net}
use Rattle.eq_net.specs.Automatic.{is_automatic}
use Rattle.eq_net.specs.Nets.{net_of}
use Rattle.eq_verilog.specs.Trees.{Name, Range}
use Rattle.eq_flatten.specs.declared.owning.Owned.{Owned}

abbrev pub info : Name → Option Range → Dir → Net
info n r d = record { name = n; range = r; dir = d; automatic = is_automatic n }

abbrev pub names_in : Owned → List Name
names_in o = o.names

abbrev pub nets_in : Owned → List Net
nets_in o = map net_of o.nets.items
