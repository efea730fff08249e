use Rattle.std.proofs.Common.{◌≡◌, length}
use Rattle.eq_net.specs.Net.{offset}
use Rattle.eq_net.specs.Tree.{trees_of}
use Rattle.eq_drivers.specs.inner.Choosing.{AreChosen, Grows}
use Rattle.eq_drivers.proofs.wiring.add_nets.Given as goal

abbrev pub invariant-loop-net : goal.invariant-loop-net
invariant-loop-net l = record {
  size : length l.drivers.items ≡ offset l.nets l.net;
  grows : Grows l.nets (trees_of l.fn.words) (trees_of l.words);
  chosen : AreChosen l.nets (trees_of l.words) l.flags l.slots l.drivers.items;
}
