use Rattle.std.proofs.Common.{◌≡◌, drop, length}
use Rattle.eq_net.specs.Whole.{parts_of}
use Rattle.eq_match.specs.Classes.{Together}
use Rattle.eq_match.specs.Groups.{LinesMake}
use Rattle.eq_match.specs.Leaders.{one_leader}
use Rattle.eq_match.proofs.grouping.lines.Given as goal

abbrev pub invariant-loop-rule : goal.invariant-loop-rule
invariant-loop-rule l = record {
  count : length l.classes ≡ length l.pairs;
  behind : (after : Together) →
      LinesMake (parts_of l.gold) l.pairs (drop l.rule-index l.rules) (one_leader l.classes) after →
      LinesMake (parts_of l.gold) l.pairs l.rules (one_leader l.fn.start) after;
}
