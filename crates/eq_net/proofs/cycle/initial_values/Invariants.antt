use Rattle.std.proofs.Common.{◌≡◌, ◌++◌, drop}
use Rattle.eq_net.specs.Held.{initial_bits}
use Rattle.eq_net.proofs.cycle.initial_values.Given as goal

abbrev pub invariant-loop-driver : goal.invariant-loop-driver
invariant-loop-driver l = l.state ++ initial_bits (drop l.driver-index l.drivers) ≡ initial_bits l.drivers
