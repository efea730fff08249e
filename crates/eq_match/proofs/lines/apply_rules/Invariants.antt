use Rattle.std.proofs.Common.{drop, length}
use Rattle.eq_net.specs.Whole.{parts_of}
use Rattle.eq_match.specs.NetPairs.{Pairing, RulesMake}
use Rattle.eq_match.specs.inner.Tables.{IsTable, pairing_of}
use Rattle.eq_match.proofs.lines.apply_rules.Given as goal

abbrev pub invariant-loop-rule : goal.invariant-loop-rule
invariant-loop-rule l = record {
  table : IsTable (length l.gold.nets) (length l.gate.nets) l.table.partners.items l.table.owners.items;
  rest : (after : Pairing) → RulesMake (parts_of l.gold) (parts_of l.gate) (drop l.rule-index l.rules) (pairing_of
      l.table.partners.items) after →
      RulesMake (parts_of l.gold) (parts_of l.gate) l.rules (pairing_of l.fn.table.partners.items) after;
}
