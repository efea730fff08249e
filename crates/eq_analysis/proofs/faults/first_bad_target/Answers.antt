use Rattle.std.proofs.Common.{sym}
use Rattle.eq_analysis.specs.Tabling.{trees_at}
use Rattle.eq_analysis.proofs.NamedLemmas.{named_at}
use Rattle.eq_analysis.proofs.faults.first_bad_target.Goals as goal

pub bad_target_in-requires-clause-there : goal.bad_target_in-requires-clause-there
bad_target_in-requires-clause-there c =
    named_at (trees_at c.args.tables.now) c.args.order.now c.loop-module.module-index c.module-item.result
    c.module-item.result c.loop-module-test.true (sym c.module-item.is) c.requires.found
