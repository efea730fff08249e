use Rattle.std.proofs.Common.{drop}
use Rattle.eq_net.specs.Whole.{parts_of}
use Rattle.eq_part.specs.Partitions.{Division, RulesMake}
use Rattle.eq_part.specs.inner.States.{IsState, division_of}
use Rattle.eq_part.proofs.lines.lines.Given as goal

abbrev pub invariant-loop-rule : goal.invariant-loop-rule
invariant-loop-rule l = record {
  state : IsState l.pairs l.state;
  behind : (after : Division) →
      RulesMake (parts_of l.gold) l.pairs (drop l.rule-index l.rules) (division_of l.state) after →
      RulesMake (parts_of l.gold) l.pairs l.rules (division_of l.fn.start) after;
}
