use Rattle.std.proofs.Common.{◌≡◌, map, take}
use Rattle.eqy.specs.Netlist.{driver_of}
use Rattle.eqy.proofs.netlist.drivers.Given as goal

abbrev pub invariant-loop-port : goal.invariant-loop-port
invariant-loop-port l = l.drivers ≡ map driver_of (take l.port-index l.ports)
