use Rattle.std.proofs.Common.{◌≡◌, ◌++◌, drop, map}
use Rattle.eq_net.specs.Nets.{net_of}
use Rattle.eq_drivers.specs.inner.Flagging.{spread}
use Rattle.eq_drivers.proofs.flagging.bit_flags.Given as goal

abbrev pub invariant-loop-net : goal.invariant-loop-net
invariant-loop-net l =
    l.flags.items ++ spread (drop l.net (map net_of l.nets)) (drop l.net l.by_net) ≡ spread (map net_of l.nets) l.by_net
