use Rattle.eq_net.specs.Net.{offset}
use Rattle.eq_elab.specs.inner.Naming.{AreBits}
use Rattle.eq_elab.proofs.naming.all_bits.Given as goal

abbrev pub invariant-loop-net : goal.invariant-loop-net
invariant-loop-net l = AreBits l.nets l.names.items (offset l.nets l.net)
