use Rattle.std.proofs.Common.{drop, length}
use Rattle.eq_net.specs.Whole.{parts_of}
use Rattle.eq_match.specs.NetPairs.{Pairing, SectionsMake}
use Rattle.eq_match.specs.inner.Tables.{IsTable, pairing_of}
use Rattle.eq_match.proofs.lines.apply_sections.Given as goal

abbrev pub invariant-loop-section : goal.invariant-loop-section
invariant-loop-section l = record {
  table : IsTable (length l.gold.nets) (length l.gate.nets) l.table.partners.items l.table.owners.items;
  rest : (after : Pairing) → SectionsMake (parts_of l.gold) (parts_of l.gate) l.top (drop l.section-index l.sections)
      (pairing_of l.table.partners.items) after →
      SectionsMake (parts_of l.gold) (parts_of l.gate) l.top l.sections (pairing_of l.fn.table.partners.items) after;
}
