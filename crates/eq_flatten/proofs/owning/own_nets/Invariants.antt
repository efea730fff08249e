use Rattle.std.proofs.Common.{◌≡◌, map, take}
use Rattle.eq_net.specs.Nets.{net_of}
use Rattle.eq_verilog.specs.Trees.{module_tree}
use Rattle.eq_verilog.specs.Nets.{alone, net_at}
use Rattle.eq_flatten.proofs.owning.own_nets.Given as goal

abbrev pub invariant-loop-name : goal.invariant-loop-name
invariant-loop-name l = map net_of l.nets.items
    ≡ map (net_at (alone (module_tree l.table.within.now))) (map (λ n. n.now) (take l.name-index l.names))
