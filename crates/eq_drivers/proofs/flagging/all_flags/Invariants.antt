use Rattle.std.proofs.Common.{◌≡◌, map, take}
use Rattle.eq_analysis.specs.Tabling.{trees_at}
use Rattle.eq_drivers.specs.inner.Flagging.{module_flags}
use Rattle.eq_drivers.proofs.flagging.all_flags.Given as goal

abbrev pub invariant-loop-table : goal.invariant-loop-table
invariant-loop-table l = l.all.items ≡ map module_flags (trees_at (take l.table-index l.tables))
