use Rattle.std.proofs.Common.{length}
use Rattle.eq_net.specs.Whole.{parts_of}
use Rattle.eq_match.specs.inner.Finding.{IsFirstTo}
use Rattle.eq_match.specs.inner.Tables.{IsTable, pairing_of}
use Rattle.eq_match.proofs.first.first_pairs.Given as goal

abbrev pub invariant-loop-k : goal.invariant-loop-k
invariant-loop-k l = record {
  table : IsTable (length l.gold.nets) (length l.gate.nets) l.table.partners.items l.table.owners.items;
  first : IsFirstTo (parts_of l.gold) (parts_of l.gate) l.k (pairing_of l.table.partners.items);
}
