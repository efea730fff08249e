use Rattle.std.proofs.Common.{◌≡◌, ◌++◌, take}
use Rattle.std.specs.List.{flat_map}
use Rattle.eq_config.specs.Printing.{text_of, strategy_lines}
use Rattle.eq_config.proofs.print.put_strategies.Given as goal

abbrev pub invariant-loop-s : goal.invariant-loop-s
invariant-loop-s l = l.out ≡ l.fn.out ++ text_of (flat_map strategy_lines (take l.s-index l.strategies))
