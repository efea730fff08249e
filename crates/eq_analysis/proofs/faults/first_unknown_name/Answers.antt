use Rattle.std.proofs.Common.{sym}
use Rattle.eq_analysis.specs.Tabling.{trees_at}
use Rattle.eq_analysis.proofs.NamedLemmas.{named_at}
use Rattle.eq_analysis.proofs.faults.first_unknown_name.Goals as goal

pub unknown_name_in-requires-clause-there : goal.unknown_name_in-requires-clause-there
unknown_name_in-requires-clause-there c =
    named_at (trees_at c.args.tables.now) c.args.order.now c.loop-module.module-index c.module-item.result
    c.module-item.result c.loop-module-test.true (sym c.module-item.is) c.requires.found
