use Rattle.std.proofs.Common.{length}
use Rattle.eq_net.specs.Whole.{parts_of}
use Rattle.eq_match.specs.NetPairs.{AtEach, GateMatchAt}
use Rattle.eq_match.specs.inner.Tables.{IsTable, pairing_of}
use Rattle.eq_match.proofs.line.gate_match.Given as goal

abbrev pub invariant-loop-h : goal.invariant-loop-h
invariant-loop-h l = record {
  table : IsTable (length l.gold.nets) (length l.gate.nets) l.table.partners.items l.table.owners.items;
  lines : AtEach (GateMatchAt (parts_of l.gold) (parts_of l.gate) l.pattern l.template l.inverted) l.h
      (pairing_of l.fn.table.partners.items) (pairing_of l.table.partners.items);
}
