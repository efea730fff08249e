use Rattle.std.proofs.Common.{map}
use Rattle.eq_net.specs.Nets.{net_of}
use Rattle.eq_verilog.specs.Nets.{full_names}
use Rattle.eq_flatten.proofs.ClashLemmas.{IsAgain}
use Rattle.eq_flatten.proofs.clashes.path_clash.Given as goal

abbrev pub invariant-loop-net : goal.invariant-loop-net
invariant-loop-net l = IsAgain (full_names (map net_of l.nets)) l.net-index l.seen
