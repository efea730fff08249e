use Rattle.std.proofs.Common.{◌≡◌, ◌++◌, take}
use Rattle.std.specs.Prelude.{map}
use Rattle.eq_config.specs.Printing.{text_of, match_line}
use Rattle.eq_config.proofs.print.put_match_rules.Given as goal

abbrev pub invariant-loop-rule : goal.invariant-loop-rule
invariant-loop-rule l = l.out ≡ l.fn.out ++ text_of (map match_line (take l.rule-index l.rules))
