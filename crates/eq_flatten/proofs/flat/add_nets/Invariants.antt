use Rattle.std.proofs.Common.{◌≡◌, ◌++◌, map, take}
use Rattle.eq_net.specs.Nets.{net_of}
use Rattle.eq_flatten.specs.Flat.{within}
use Rattle.eq_flatten.proofs.flat.add_nets.Given as goal

abbrev pub invariant-loop-net : goal.invariant-loop-net
invariant-loop-net l = map net_of l.nets.items
    ≡ map net_of l.fn.nets.items ++ map (within l.prefix) (map net_of (take l.net-index l.own))
