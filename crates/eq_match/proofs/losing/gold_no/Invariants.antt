use Rattle.std.proofs.Common.{ℕ, ◌<◌, length}
use Rattle.eq_net.specs.Whole.{parts_of}
use Rattle.eq_match.specs.NetPairs.{IsNamed, Loses}
use Rattle.eq_match.specs.inner.Tables.{IsTable, pairing_of}
use Rattle.eq_match.proofs.losing.gold_no.Given as goal

abbrev pub invariant-loop-k : goal.invariant-loop-k
invariant-loop-k l = record {
  table : IsTable (length l.gold.nets) (length l.fn.table.owners.items) l.table.partners.items l.table.owners.items;
  lost : Loses (λ (i : ℕ). (i < l.k) × IsNamed (parts_of l.gold) l.pattern i)
      (pairing_of l.fn.table.partners.items) (pairing_of l.table.partners.items);
}
