use Rattle.std.proofs.Common.{length}
use Rattle.eq_net.specs.Whole.{parts_of}
use Rattle.eq_match.specs.NetPairs.{AtEach, GoldMatchAt}
use Rattle.eq_match.specs.inner.Tables.{IsTable, pairing_of}
use Rattle.eq_match.proofs.line.gold_match.Given as goal

abbrev pub invariant-loop-k : goal.invariant-loop-k
invariant-loop-k l = record {
  table : IsTable (length l.gold.nets) (length l.gate.nets) l.table.partners.items l.table.owners.items;
  lines : AtEach (GoldMatchAt (parts_of l.gold) (parts_of l.gate) l.pattern l.template l.inverted) l.k
      (pairing_of l.fn.table.partners.items) (pairing_of l.table.partners.items);
}
