use Rattle.std.proofs.Common.{sym}
use Rattle.eq_config.specs.Printing.{strategy_lines}
use Rattle.eq_config.proofs.Printed.{section_more}
use Rattle.eq_config.proofs.print.put_strategies.Goals as goal

pub loop-s-preserved : goal.loop-s-preserved
loop-s-preserved c = section_more strategy_lines c.args.strategies.now c.loop-s.s-index c.s-item.result
    c.s-item.result c.args.out.now c.loop-s.out c.put_strategy.new.out
    c.loop-s-test.true (sym c.s-item.is) c.loop-s.invariant c.in_ok-put_strategy.ensures
