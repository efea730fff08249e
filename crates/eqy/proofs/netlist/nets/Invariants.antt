use Rattle.std.proofs.Common.{◌≡◌, map, take}
use Rattle.eqy.specs.Netlist.{net_of}
use Rattle.eqy.proofs.netlist.nets.Given as goal

abbrev pub invariant-loop-port : goal.invariant-loop-port
invariant-loop-port l = l.nets ≡ map net_of (take l.port-index l.ports)
