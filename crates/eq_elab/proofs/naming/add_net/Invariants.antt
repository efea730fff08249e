use Rattle.std.proofs.Common.{◌+◌}
use Rattle.eq_net.specs.Net.{offset}
use Rattle.eq_elab.specs.inner.Naming.{AreBits}
use Rattle.eq_elab.proofs.naming.add_net.Given as goal

abbrev pub invariant-loop-bit : goal.invariant-loop-bit
invariant-loop-bit l = AreBits l.nets l.names.items (offset l.nets l.net + l.bit)
