use Rattle.std.proofs.Common.{◌≡◌, length}
use Rattle.eq_reads.specs.inner.Leading.{NodesGrew}
use Rattle.eq_reads.specs.Words.{IsReady}
use Rattle.eq_net.specs.Tree.{trees_of}
use Rattle.eq_reads.proofs.words.push_words.Given as goal

abbrev pub invariant-loop-w : goal.invariant-loop-w
invariant-loop-w l = record {
  count : length l.places.items ≡ l.w;
  grew : NodesGrew l.fn.nodes l.nodes;
  ready : IsReady l.nets (trees_of l.words) l.places.items l.nodes l.row.items;
}
