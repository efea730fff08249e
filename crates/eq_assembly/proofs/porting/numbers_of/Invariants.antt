use Rattle.std.proofs.Common.{take}
use Rattle.eq_assembly.specs.inner.Numbers.{AreNumbers}
use Rattle.eq_assembly.proofs.porting.numbers_of.Given as goal

abbrev pub invariant-loop-port : goal.invariant-loop-port
invariant-loop-port l = AreNumbers l.names l.found (take l.port-index l.ports)
