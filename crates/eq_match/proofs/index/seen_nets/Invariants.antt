use Rattle.std.proofs.Common.{◌≡◌}
use Rattle.eq_net.specs.Net.{offset}
use Rattle.eq_match.specs.inner.Indexing.{TellsTo, part_of}
use Rattle.eq_match.proofs.index.seen_nets.Given as goal

abbrev pub invariant-loop-net : goal.invariant-loop-net
invariant-loop-net l = record {
  first : l.first ≡ offset l.nets l.net-index;
  tells : TellsTo l.net-index (part_of l.nets l.drivers) l.seen.items;
}
