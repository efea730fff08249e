use Rattle.std.proofs.Common.{ℕ, ◌<◌, length}
use Rattle.eq_net.specs.Whole.{parts_of}
use Rattle.eq_match.specs.NetPairs.{IsPartnerNamed, Loses}
use Rattle.eq_match.specs.inner.Tables.{IsTable, pairing_of}
use Rattle.eq_match.proofs.losing.gate_no.Given as goal

abbrev pub invariant-loop-k : goal.invariant-loop-k
invariant-loop-k l = record {
  table : IsTable (length l.gold.nets) (length l.gate.nets) l.table.partners.items l.table.owners.items;
  lost : Loses (λ (i : ℕ). (i < l.k) × IsPartnerNamed (parts_of l.gate) l.pattern (pairing_of l.fn.table.partners.items
      i))
      (pairing_of l.fn.table.partners.items) (pairing_of l.table.partners.items);
}
