use Rattle.std.proofs.Common.{◌≡◌, ◌++◌, drop}
use Rattle.eq_model.specs.Frames.{frames}
use Rattle.eq_net.specs.Held.{next_bits}
use Rattle.eq_net.proofs.cycle.next_values.Given as goal

abbrev pub invariant-loop-driver : goal.invariant-loop-driver
invariant-loop-driver l = l.state ++ next_bits (frames l.words) (drop l.driver-index l.drivers) ≡ next_bits (frames l.words) l.drivers
